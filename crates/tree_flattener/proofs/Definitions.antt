-- Definitions that are made, and their names in scope.
use Rattle.std.proofs.Common.{◌≡◌, ℕ, suc, ◌<◌, Bool, false, List, [], ◌∷◌, ◌++◌, Some, refl, sym, ap, subst, ◌∙◌, length, take, map, arith}
use Rattle.std.specs.Prelude.{slice_get, if◌then◌else◌, not, ◌&&◌}
use Rattle.std.specs.List.{AllByRecursion}
use Rattle.std.proofs.lemmas.List.{append-nil, length_push}
use Rattle.std.proofs.lemmas.Option.{get_or_from_slice_get}
use Rattle.list_laws.proofs.Lists.{all-both, at-end}
use Rattle.tla_symbols.specs.declared.lexeme.Lexeme.{Lexeme}
use Rattle.tla_symbols.specs.declared.lexeme.Span.{Span}
use Rattle.tla_symbols.specs.declared.level.Rule.TheVariants.{Plain}
use Rattle.tla_tree.specs.declared.form.Form.{Form}
use Rattle.tla_tree.specs.Syntax.{Trees, Node}
use Rattle.tla_model.specs.declared.names.Binder.{Binder}
use Rattle.tla_model.specs.declared.names.Binding.TheVariants as as_binding
use Rattle.tla_model.specs.declared.names.Meaning.TheVariants.{BuiltIn, Declared}
use Rattle.tla_model.specs.Tables.{Named}
use Rattle.tla_model.specs.Entities.{Defines, Nothing, Operator, Function, Module, Meaning, Text, binding_of, defined_as, defines, meant, place_in, same_meaning}
use Rattle.tla_model.specs.Scopes.{binders}
use Rattle.kind_text.specs.FlatModule.{Extends, FlatModule, Form as NodeForm, Keeps}
use Rattle.tree_kinds.specs.Standing.{is_bound, same_standing}
use Rattle.flat_trees.specs.Layouts.{order_of, parameters_of}
use Rattle.flat_trees.proofs.BoundNames.{AreFree, definition-free, operator-binds, parameters-free}
use Rattle.flattened_trees.specs.declared.End.TheVariants as end
use Rattle.flattened_trees.specs.Leads.{Lead, Leads, Setting, behind, nowhere, only, with_lead, with_leads, with_parameters, with_places}
use Rattle.flattened_trees.specs.NodeForms.{plain_node}
use Rattle.flattened_trees.specs.Questions as asking
use Rattle.flattened_trees.specs.Questions.{Question, asks_at, over}
use Rattle.flattened_trees.specs.Flattened.{AreOperands, HasNode, IsDefined, IsRoot, IsThrough, all_parts, asked_at}
use Rattle.tree_flattener.specs.declared.locals.Entry.{Entry}
use Rattle.tree_flattener.specs.declared.locals.Local.TheVariants as local
use Rattle.tree_flattener.specs.declared.rules.Taken.TheVariants as taken
use Rattle.tree_flattener.specs.declared.scopes.Entered.{Entered}
use Rattle.tree_flattener.specs.declared.state.Flattening.{Flattening}
use Rattle.tree_flattener.specs.Entering.{Enters, entries_of}
use Rattle.tree_flattener.specs.Flattens.{IsMadeDefinition, ReadsAll, operands_of}
use Rattle.tree_flattener.specs.Steps as stepping
use Rattle.tree_flattener.specs.Steps.{Adds, Asks, Cuts, IsRootMade, Numbers, Puts, Steps}
use Rattle.tree_flattener.specs.Worlds.{DoLie, DoesLie, IsLocalWithin, IsReady, World, declared_at, frame_at, lead_by, setting_of, with_locals}
use Rattle.tree_flattener.proofs.Expressions.{asks-get}
use Rattle.tree_flattener.proofs.Stepping.{added-node, added-there, adds-steps, extends-on, extends-same, frame-kept, keeps-append, keeps-itself, keeps-on, keeps-same, numbers-steps, same-setting, steps-none, steps-on, steps-same, take-all-of}
use Rattle.tree_flattener.proofs.Within.{all-below-on, below-on, known-on, longer}

-- ---- names in scope, one after another

pub locals-both : (w : World) (leads : Leads) (xs ys : List Entry) → with_locals w leads (xs ++ ys) ≡ with_locals w (with_locals w leads xs) ys
locals-both w leads [] ys = refl
locals-both w leads (x ∷ xs) ys = locals-both w (with_lead leads (declared_at w.text x.place) (lead_by w x.local)) xs ys

-- a declaring name is known by its place alone
same-place : (text : Text) (binder : Binder) (other : Meaning) → same_meaning other (declared_at text (place_in text.starts binder.name.span.start)) ≡ same_meaning other (meant text binder)
same-place text binder BuiltIn = refl
same-place text binder (Declared e callee) = refl

-- if it is not bound
same-stand : (text : Text) (binder : Binder) → is_bound (meant text binder) ≡ false → (other : Meaning)
    → same_standing other (declared_at text (place_in text.starts binder.name.span.start)) ≡ same_standing other (meant text binder)
same-stand text binder free other =
    let both : Bool → Bool → Bool = λ same bound. same && (if is_bound other then bound else not bound) in
    ap (λ same. both same false) (same-place text binder other) ∙ ap (both (same_meaning other (meant text binder))) (sym free)

same-lead : (text : Text) (binder : Binder) (leads : Leads) (lead : List Named → Lead) → is_bound (meant text binder) ≡ false → with_lead leads (declared_at text (place_in text.starts binder.name.span.start)) lead ≡ with_lead leads (meant text binder) lead
same-lead text binder leads lead free = λ i other names. if same-stand text binder free other i then lead names else leads other names

placed-leads : (w : World) (binders : List Binder) (leads : Leads) (place : ℕ) → AreFree (map (meant w.text) binders) → with_locals w leads (entries_of w.text place binders) ≡ with_places leads (map (meant w.text) binders) place
placed-leads w [] leads place free = refl
placed-leads w (binder ∷ rest) leads place free =
    ap (λ z. with_locals w z (entries_of w.text (suc place) rest)) (same-lead w.text binder leads (only (end.Place place (order_of (meant w.text binder)))) free.0)
    ∙ placed-leads w rest (with_lead leads (meant w.text binder) (only (end.Place place (order_of (meant w.text binder))))) (suc place) free.1

-- parameters name nothing that has to be there
places-within : (w : World) (flat : FlatModule) (binders : List Binder) (place : ℕ) → AllByRecursion (λ entry. IsLocalWithin flat entry.local) (entries_of w.text place binders)
places-within w flat [] place = tt
places-within w flat (binder ∷ rest) place = (tt, places-within w flat rest (suc place))

places-lie : (w : World) (binders : List Binder) (place : ℕ) → DoLie w.text.source (entries_of w.text place binders)
places-lie w [] place = tt
places-lie w (binder ∷ rest) place = (tt, places-lie w rest (suc place))

module _ (w : World) (s t : Flattening) (frame : ℕ) (form : Form) (parts : Trees) (entered : Entered) (enters : Enters w.text s t frame form parts entered) where
  inner_frame : List Meaning
  inner_frame = frame_at s.frames.items frame ++ parameters_of w.text form parts

  pub enters-keeps : Keeps s.frames.items t.frames.items
  enters-keeps = subst (Keeps s.frames.items) (sym enters.frames) (keeps-append s.frames.items ((frame_at s.frames.items frame ++ parameters_of w.text form parts) ∷ []))

  pub enters-steps : Steps s t []
  enters-steps = steps-same s t (extends-same s.flat t.flat enters.flat) enters-keeps enters.questions

  frame-is : frame_at t.frames.items entered.frame ≡ frame_at s.frames.items frame ++ parameters_of w.text form parts
  frame-is =
      let inner = frame_at s.frames.items frame ++ parameters_of w.text form parts in
      get_or_from_slice_get t.frames.items entered.frame inner []
      (ap (λ z. slice_get z entered.frame) enters.frames ∙ ap (slice_get (s.frames.items ++ inner ∷ [])) enters.number ∙ at-end s.frames.items inner)

  -- parameters stand round the parts of their form
  pub enters-setting : (olds : List ℕ) → binding_of form ≡ as_binding.Parameter → setting_of w t entered.frame olds ≡ with_parameters w.text (setting_of w s frame olds) form parts
  enters-setting olds binding =
      let leads =
      ap (with_locals w w.leads) enters.locals ∙ locals-both w w.leads s.locals.items (entries_of w.text (length (frame_at s.frames.items frame)) (binders form parts))
      ∙ placed-leads w (binders form parts) (with_locals w w.leads s.locals.items) (length (frame_at s.frames.items frame)) (parameters-free w.text form parts binding)
      in
      λ i. record { leads = leads i; frame = frame-is i; olds = olds }

  pub enters-ready : (olds : List ℕ) → IsReady w s frame olds → IsReady w t entered.frame olds
  enters-ready olds ready =
      let place = length (frame_at s.frames.items frame) in
      let extends = extends-same s.flat t.flat enters.flat in
      let entries = entries_of w.text place (binders form parts) in
      let before = known-on w s (record t { locals = s.locals }) extends refl ready.known in
      record {
        known = record {
          within = before.within;
          locals = subst (AllByRecursion (λ entry. IsLocalWithin t.flat entry.local)) (sym enters.locals)
              (all-both (λ (entry : Entry). IsLocalWithin t.flat entry.local) s.locals.items entries before.locals (places-within w t.flat (binders form parts) place));
          lie = subst (DoLie w.text.source) (sym enters.locals) (all-both (λ (entry : Entry). DoesLie w.text.source entry.local) s.locals.items entries before.lie (places-lie w (binders form parts) place));
        };
        framed = let l = ap length enters.frames ∙ length_push s.frames.items (frame_at s.frames.items frame ++ parameters_of w.text form parts) in let n = enters.number in omega (arith, l, n);
        repeated = all-below-on s.flat t.flat extends olds ready.repeated;
      }

-- ---- what a form defines

module _ (w : World) (more : FlatModule) (setting : Setting) (form : Form) (s : Span) (parts : Trees) (lead : List Named → Lead) (roots : List ℕ) (asked : List Question) where
  abbrev pub As : Defines → Type 0
  As what = elim what [
    | Nothing ↦ (roots ≡ []) × (asked ≡ [])
    | Operator l ↦ (is : List ℕ) × (root d : ℕ) × (a : List Question)
        × AreOperands w.text w.means w.implied w.faces more all_parts (with_parameters w.text setting form parts) parts is a × IsRoot more is root
        × (slice_get more.definitions d ≡ Some (record { outer = length setting.frame; root = root }))
        × (lead ≡ only (end.Definition d)) × (roots ≡ root ∷ [])
        × (asked ≡ over setting.frame (asking.IsShallow l d ∷ []) ++ a)
    | Function l ↦ (is : List ℕ) × (root d : ℕ) × (a : List Question)
        × AreOperands w.text w.means w.implied w.faces more all_parts setting parts is a × HasNode more root (plain_node (NodeForm.Operation Plain) is)
        × (slice_get more.definitions d ≡ Some (record { outer = length setting.frame; root = root }))
        × (lead ≡ only (end.Definition d)) × (roots ≡ root ∷ [])
        × (asked ≡ over setting.frame (asking.IsShallow l d ∷ []) ++ (asked_at w.text w.means w.implied w.faces more setting root form s parts ++ a))
    | Module l ↦ IsThrough w.text w.means w.implied w.faces more setting (with_parameters w.text setting form parts) l (length (parameters_of w.text form parts)) parts lead roots asked
  ]

  pub as-defined : (what : Defines) → defines form ≡ what → As what → IsDefined w.text w.means w.implied w.faces more setting (Node form s parts) lead roots asked
  as-defined what e known = subst As (sym e) known

-- what defines nothing changes nothing
pub nothing-made : (w : World) (state : Flattening) (frame : ℕ) (olds : List ℕ) (form : Form) (s : Span) (parts : Trees) (before : List ℕ) → defines form ≡ Nothing → IsReady w state frame olds → IsMadeDefinition w state state frame olds (Node form s parts) before before
nothing-made w state frame olds form s parts before e ready =
    let setting = setting_of w state frame olds in
    let lead : List Named → Lead = λ names. nowhere in
    record {
      asked = [];
      steps = steps-none state;
      ready = ready;
      put = [];
      locals = sym (append-nil state.locals.items);
      first = [];
      is = sym (append-nil before);
      there = tt;
      lead = lead;
      leads = ap (λ what. defined_as what parts) e;
      setting = sym (ap (λ what. record setting { leads = with_leads setting.leads (map (meant w.text) (defined_as what parts)) lead }) e);
      holds = λ more extends. as-defined w more setting form s parts lead [] [] Nothing e (refl, refl);
    }

-- ---- a name that is put into scope

-- all that is known is there, with names more in scope that are there
pub ready-put : (w : World) (s t : Flattening) (frame : ℕ) (olds : List ℕ) (put : List Entry) → Extends s.flat t.flat → Keeps s.frames.items t.frames.items → t.locals.items ≡ s.locals.items ++ put
    → AllByRecursion (λ entry. IsLocalWithin t.flat entry.local) put → DoLie w.text.source put → IsReady w s frame olds → IsReady w t frame olds
ready-put w s t frame olds put extends keeps locals within lie ready =
    let before = known-on w s (record t { locals = s.locals }) extends refl ready.known in
    record {
      known = record {
        within = before.within;
        locals = subst (AllByRecursion (λ entry. IsLocalWithin t.flat entry.local)) (sym locals) (all-both (λ (entry : Entry). IsLocalWithin t.flat entry.local) s.locals.items put before.locals within);
        lie = subst (DoLie w.text.source) (sym locals) (all-both (λ (entry : Entry). DoesLie w.text.source entry.local) s.locals.items put before.lie lie);
      };
      framed = let l = longer s.frames.items t.frames.items keeps in let r = ready.framed in omega (arith, l, r);
      repeated = all-below-on s.flat t.flat extends olds ready.repeated;
    }

-- behind a definition its name leads there
pub named-setting : (w : World) (s t : Flattening) (frame : ℕ) (olds : List ℕ) (form : Form) (at : Span) (parts : Trees) (binder : Binder) (l : local.the_data)
    → Keeps s.frames.items t.frames.items → frame < length s.frames.items → defined_as (defines form) parts ≡ binder ∷ []
    → t.locals.items ≡ s.locals.items ++ record { place = place_in w.text.starts binder.name.span.start; local = l } ∷ []
    → setting_of w t frame olds ≡ behind w.text (setting_of w s frame olds) (Node form at parts) (lead_by w l)
named-setting w s t frame olds form at parts binder l keeps there defined locals =
    let setting = setting_of w s frame olds in
    let entry : Entry = record { place = place_in w.text.starts binder.name.span.start; local = l } in
    let leads =
    ap (with_locals w w.leads) locals ∙ locals-both w w.leads s.locals.items (entry ∷ [])
    ∙ same-lead w.text binder setting.leads (lead_by w l) (let free = subst (λ (bs : List Binder). AreFree (map (meant w.text) bs)) defined (definition-free w.text form parts) in free.0)
    ∙ sym (ap (λ binders. with_leads setting.leads (map (meant w.text) binders) (lead_by w l)) defined)
    in
    λ i. record { leads = leads i; frame = frame-kept s.frames.items t.frames.items frame keeps there i; olds = olds }

-- ---- definitions that are added

module _ (s t : Flattening) (outer root d : ℕ) (defining : stepping.Defines s t (record { outer = outer; root = root }) d) where
  pub defines-steps : Steps s t []
  defines-steps =
      steps-same s t
      (subst (Extends s.flat) (sym defining.flat) (record { nodes = keeps-itself s.flat.nodes; definitions = keeps-append s.flat.definitions (record { outer = outer; root = root } ∷ []); instances = keeps-itself s.flat.instances }))
      (keeps-same s.frames.items t.frames.items defining.frames) defining.questions

  pub defined-there : (more : FlatModule) → Extends t.flat more → slice_get more.definitions d ≡ Some (record { outer = outer; root = root })
  defined-there more extends =
      extends.definitions d (record { outer = outer; root = root })
      (subst (λ (z : FlatModule). slice_get z.definitions d ≡ Some (record { outer = outer; root = root })) (sym defining.flat)
      (ap (slice_get (s.flat.definitions ++ record { outer = outer; root = root } ∷ [])) defining.number ∙ at-end s.flat.definitions (record { outer = outer; root = root })))

pub puts-steps : (s t : Flattening) (entries : List Entry) → Puts s t entries → Steps s t []
puts-steps s t entries puts = steps-same s t (extends-same s.flat t.flat puts.flat) (keeps-same s.frames.items t.frames.items puts.frames) puts.questions

pub cuts-steps : (s t : Flattening) (mark : ℕ) → Cuts s t mark → Steps s t []
cuts-steps s t mark cuts = steps-same s t (extends-same s.flat t.flat cuts.flat) (keeps-same s.frames.items t.frames.items cuts.frames) cuts.questions

-- ---- operators

module _ (w : World) (s0 s1 s2 s3 s4 s5 s6 s7 s8 : Flattening) (frame : ℕ) (olds : List ℕ) (form : Form) (s : Span) (parts : Trees) (entered : Entered) (l : Lexeme) (is : List ℕ) (root d mark from to : ℕ) where
  pub operator-made : (before after : List ℕ) → defines form ≡ Operator l → IsReady w s0 frame olds
      → Asks s0 s1 frame (asking.IsShallow l 0 ∷ [])
      → Enters w.text s1 s2 frame form parts entered
      → ReadsAll (operands_of w (setting_of w s2 entered.frame olds) taken.All) s2 s3 parts [] is
      → Cuts s3 s4 mark → mark ≡ length s1.locals.items
      → IsRootMade s4 s5 is root
      → stepping.Defines s5 s6 (record { outer = length (frame_at s5.frames.items frame); root = root }) d
      → Puts s6 s7 (record { place = place_in w.text.starts l.span.start; local = local.Definition d } ∷ [])
      → Numbers s7 s8 from to d → from ≡ length s0.asked.items → to ≡ length s1.asked.items
      → after ≡ before ++ root ∷ []
      → IsMadeDefinition w s0 s8 frame olds (Node form s parts) before after
  operator-made before after e ready asked enters reads cuts marked rooted defining puts numbers begins ends pushed =
      let setting = setting_of w s0 frame olds in
      let there = ready.framed in
      let lead = lead_by w (local.Definition d) in
      let keeps1 = keeps-same s0.frames.items s1.frames.items asked.frames in
      let same1 = same-setting w s0 s1 frame olds keeps1 asked.locals there in
      let entering = enters-steps w s1 s2 frame form parts entered enters in
      let cut = cuts-steps s3 s4 mark cuts in
      let root_steps = steps-same s4 s5 rooted.extends (keeps-same s4.frames.items s5.frames.items rooted.frames) rooted.questions in
      let def_steps = defines-steps s5 s6 (length (frame_at s5.frames.items frame)) root d defining in
      let put_steps = puts-steps s6 s7 _ puts in
      let to7 = steps-on s4 s5 s7 [] [] root_steps (steps-on s5 s6 s7 [] [] def_steps put_steps) in
      let from3 = steps-on s3 s4 s7 [] [] cut to7 in
      let inner = subst (Steps s1 s7) (append-nil reads.asked) (steps-on s1 s2 s7 [] (reads.asked ++ []) entering (steps-on s2 s3 s7 reads.asked [] reads.steps from3)) in
      let all = numbers-steps s0 s1 s7 s8 frame from to d (asking.IsShallow l 0 ∷ []) (asking.IsShallow l d ∷ []) reads.asked asked inner numbers begins ends there refl in
      let locals4 : s4.locals.items ≡ s0.locals.items =
      cuts.locals ∙ ap (λ n. take n s3.locals.items) marked ∙ ap (take (length s1.locals.items)) (reads.locals ∙ enters.locals) ∙ take-all-of s1.locals.items _ ∙ asked.locals
      in
      let locals8 = numbers.locals ∙ puts.locals ∙ ap (λ z. z ++ record { place = place_in w.text.starts l.span.start; local = local.Definition d } ∷ []) (defining.locals ∙ rooted.locals ∙ locals4) in
      let last = extends-same s7.flat s8.flat numbers.flat in
      let from6 = extends-on s6.flat s7.flat s8.flat put_steps.extends last in
      let from5 = extends-on s5.flat s6.flat s8.flat def_steps.extends from6 in
      let root_there = below-on s5.flat s8.flat from5 root rooted.there in
      let keeps5 = keeps-on s0.frames.items s1.frames.items s5.frames.items keeps1
      (keeps-on s1.frames.items s2.frames.items s5.frames.items entering.frames (keeps-on s2.frames.items s3.frames.items s5.frames.items reads.steps.frames (keeps-on s3.frames.items s4.frames.items s5.frames.items cut.frames root_steps.frames)))
      in
      let outer : length (frame_at s5.frames.items frame) ≡ length setting.frame = ap length (frame-kept s0.frames.items s5.frames.items frame keeps5 there) in
      record {
        asked = over setting.frame (asking.IsShallow l d ∷ []) ++ reads.asked;
        steps = all;
        ready = ready-put w s0 s8 frame olds _ all.extends all.frames locals8
            ((record { outer = length (frame_at s5.frames.items frame); root = root }, defined-there s5 s6 (length (frame_at s5.frames.items frame)) root d defining s8.flat from6, root_there), tt) (tt, tt) ready;
        put = record { place = place_in w.text.starts l.span.start; local = local.Definition d } ∷ [];
        locals = locals8;
        first = root ∷ [];
        is = pushed;
        there = (root_there, tt);
        lead = lead;
        leads = refl;
        setting = named-setting w s0 s8 frame olds form s parts _ (local.Definition d) all.frames there (ap (λ what. defined_as what parts) e) locals8;
        holds = λ more extends.
            let to6 = extends-on s6.flat s8.flat more from6 extends in
            let to5 = extends-on s5.flat s8.flat more from5 extends in
            let to3 = extends-on s3.flat s5.flat more (extends-on s3.flat s4.flat s5.flat cut.extends root_steps.extends) to5 in
            as-defined w more setting form s parts lead (root ∷ []) (over setting.frame (asking.IsShallow l d ∷ []) ++ reads.asked) (Operator l) e (
              reads.first,
              root,
              d,
              reads.asked,
              subst (λ z. AreOperands w.text w.means w.implied w.faces more all_parts z parts reads.first reads.asked)
                  (enters-setting w s1 s2 frame form parts entered enters olds (operator-binds form l e) ∙ ap (λ z. with_parameters w.text z form parts) same1) (reads.holds more to3),
              subst (λ z. IsRoot more z root) reads.is (rooted.holds more to5),
              defined-there s5 s6 (length (frame_at s5.frames.items frame)) root d defining more to6 ∙ ap (λ n. Some (record { outer = n; root = root })) outer,
              refl,
              refl,
              refl,
            );
      }

-- ---- functions

module _ (w : World) (s0 s1 s2 s3 s4 s5 s6 s7 s8 : Flattening) (frame : ℕ) (olds : List ℕ) (form : Form) (s : Span) (parts : Trees) (l : Lexeme) (is : List ℕ) (root d from middle to : ℕ) where
  pub function-made : (before after : List ℕ) → defines form ≡ Function l → IsReady w s0 frame olds
      → Asks s0 s1 frame (asking.IsShallow l 0 ∷ [])
      → Asks s1 s2 frame (asks_at 0 form s parts)
      → ReadsAll (operands_of w (setting_of w s2 frame olds) taken.All) s2 s3 parts [] is
      → Adds s3 s4 (plain_node (NodeForm.Operation Plain) is) root
      → Numbers s4 s5 middle to root
      → stepping.Defines s5 s6 (record { outer = length (frame_at s5.frames.items frame); root = root }) d
      → Puts s6 s7 (record { place = place_in w.text.starts l.span.start; local = local.Definition d } ∷ [])
      → Numbers s7 s8 from middle d → from ≡ length s0.asked.items → middle ≡ length s1.asked.items → to ≡ length s2.asked.items
      → after ≡ before ++ root ∷ []
      → IsMadeDefinition w s0 s8 frame olds (Node form s parts) before after
  function-made before after e ready asked kinds reads adds gives defining puts numbers begins halves ends pushed =
      let setting = setting_of w s0 frame olds in
      let there = ready.framed in
      let lead = lead_by w (local.Definition d) in
      let node = plain_node (NodeForm.Operation Plain) is in
      let keeps1 = keeps-same s0.frames.items s1.frames.items asked.frames in
      let there1 : frame < length s1.frames.items = subst (λ (z : List (List Meaning)). frame < length z) (sym asked.frames) there in
      let keeps2 = keeps-on s0.frames.items s1.frames.items s2.frames.items keeps1 (keeps-same s1.frames.items s2.frames.items kinds.frames) in
      let same2 = same-setting w s0 s2 frame olds keeps2 (kinds.locals ∙ asked.locals) there in
      let fr1 : frame_at s1.frames.items frame ≡ setting.frame = frame-kept s0.frames.items s1.frames.items frame keeps1 there in
      let added = adds-steps s3 s4 node root adds in
      let inner4 = subst (Steps s2 s4) (append-nil reads.asked) (steps-on s2 s3 s4 reads.asked [] reads.steps added) in
      let inner5 = subst (λ z. Steps s1 s5 (over z (asks_at root form s parts) ++ reads.asked)) fr1
      (numbers-steps s1 s2 s4 s5 frame middle to root (asks_at 0 form s parts) (asks_at root form s parts) reads.asked kinds inner4 gives halves ends there1 (asks-get root frame form s parts))
      in
      let def_steps = defines-steps s5 s6 (length (frame_at s5.frames.items frame)) root d defining in
      let put_steps = puts-steps s6 s7 _ puts in
      let a = over setting.frame (asks_at root form s parts) ++ reads.asked in
      let inner = subst (Steps s1 s7) (append-nil a) (steps-on s1 s5 s7 a [] inner5 (steps-on s5 s6 s7 [] [] def_steps put_steps)) in
      let all = numbers-steps s0 s1 s7 s8 frame from middle d (asking.IsShallow l 0 ∷ []) (asking.IsShallow l d ∷ []) a asked inner numbers begins halves there refl in
      let locals8 = numbers.locals ∙ puts.locals
      ∙ ap (λ z. z ++ record { place = place_in w.text.starts l.span.start; local = local.Definition d } ∷ []) (defining.locals ∙ gives.locals ∙ adds.locals ∙ reads.locals ∙ kinds.locals ∙ asked.locals)
      in
      let last = extends-same s7.flat s8.flat numbers.flat in
      let from6 = extends-on s6.flat s7.flat s8.flat put_steps.extends last in
      let from5 = extends-on s5.flat s6.flat s8.flat def_steps.extends from6 in
      let from4 = extends-on s4.flat s5.flat s8.flat (extends-same s4.flat s5.flat gives.flat) from5 in
      let root_there = below-on s4.flat s8.flat from4 root (added-there s3 s4 node root adds) in
      let keeps5 = keeps-on s0.frames.items s1.frames.items s5.frames.items keeps1 inner5.frames in
      let outer : length (frame_at s5.frames.items frame) ≡ length setting.frame = ap length (frame-kept s0.frames.items s5.frames.items frame keeps5 there) in
      record {
        asked = over setting.frame (asking.IsShallow l d ∷ []) ++ a;
        steps = all;
        ready = ready-put w s0 s8 frame olds _ all.extends all.frames locals8
            ((record { outer = length (frame_at s5.frames.items frame); root = root }, defined-there s5 s6 (length (frame_at s5.frames.items frame)) root d defining s8.flat from6, root_there), tt) (tt, tt) ready;
        put = record { place = place_in w.text.starts l.span.start; local = local.Definition d } ∷ [];
        locals = locals8;
        first = root ∷ [];
        is = pushed;
        there = (root_there, tt);
        lead = lead;
        leads = refl;
        setting = named-setting w s0 s8 frame olds form s parts _ (local.Definition d) all.frames there (ap (λ what. defined_as what parts) e) locals8;
        holds = λ more extends.
            let to6 = extends-on s6.flat s8.flat more from6 extends in
            let to4 = extends-on s4.flat s8.flat more from4 extends in
            let to3 = extends-on s3.flat s4.flat more added.extends to4 in
            as-defined w more setting form s parts lead (root ∷ []) (over setting.frame (asking.IsShallow l d ∷ []) ++ a) (Function l) e (
              reads.first,
              root,
              d,
              reads.asked,
              subst (λ z. AreOperands w.text w.means w.implied w.faces more all_parts z parts reads.first reads.asked) same2 (reads.holds more to3),
              added-node s3 s4 node root adds more to4 ∙ ap (λ z. Some (plain_node (NodeForm.Operation Plain) z)) reads.is,
              defined-there s5 s6 (length (frame_at s5.frames.items frame)) root d defining more to6 ∙ ap (λ n. Some (record { outer = n; root = root })) outer,
              refl,
              refl,
              refl,
            );
      }
