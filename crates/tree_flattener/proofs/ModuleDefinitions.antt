-- Module definitions that are made: an instance, and its name in scope.
use Rattle.std.proofs.Common.{◌≡◌, ℕ, ◌<◌, List, [], ◌∷◌, ◌++◌, Bool, true, false, true≢false, Some, None, refl, sym, ap, subst, ◌∙◌, length, take, arith}
use Rattle.std.specs.Prelude.{Option, unwrap_or}
use Rattle.std.specs.List.{AllByRecursion}
use Rattle.std.proofs.lemmas.List.{append-nil, length_push}
use Rattle.list_laws.proofs.Lists.{all-left}
use Rattle.tla_symbols.specs.declared.lexeme.Lexeme.{Lexeme}
use Rattle.tla_symbols.specs.declared.lexeme.Span.{Span}
use Rattle.tla_tree.specs.declared.form.Form.TheVariants as Form
use Rattle.tla_tree.specs.Arena.{AreThere, node_at}
use Rattle.tla_tree.specs.Syntax.{Trees, Node, Nil, Cons}
use Rattle.tla_tree.proofs.Nodes.{tree_at-form}
use Rattle.tla_model.specs.Entities.{Module, defined_as, defines, place_in}
use Rattle.tla_model.specs.Lexemes.{LiesIn, spelled}
use Rattle.tla_model.specs.Tables.{Named}
use Rattle.kind_text.specs.FlatModule.{FlatModule}
use Rattle.flat_trees.specs.Layouts.{parameters_of}
use Rattle.flat_trees.proofs.BoundNames.{module-binds}
use Rattle.flattened_trees.specs.Leads.{Lead, Setting, behind_instance, with_parameters}
use Rattle.flattened_trees.specs.Questions as asking
use Rattle.flattened_trees.specs.Questions.{Question, over}
use Rattle.flattened_trees.specs.Flattened as flattened
use Rattle.flattened_trees.specs.Flattened.{AreRights, IsInstance, IsThrough}
use Rattle.declared_names.specs.Nodes.{IsWhole, parts_at}
use Rattle.tree_flattener.specs.declared.instances.Right.{Right}
use Rattle.tree_flattener.specs.declared.locals.Local.TheVariants as local
use Rattle.tree_flattener.specs.declared.scopes.Entered.{Entered}
use Rattle.tree_flattener.specs.declared.state.Flattening.{Flattening}
use Rattle.tree_flattener.specs.Entering.{Enters}
use Rattle.tree_flattener.specs.Flattens.{IsMadeDefinition}
use Rattle.tree_flattener.specs.Making.{module_of}
use Rattle.tree_flattener.specs.Replacing.{Instantiates, rights_in}
use Rattle.tree_flattener.specs.Righting.{RightsAll}
use Rattle.tree_flattener.specs.Steps.{Asks, Cuts, Numbers, Puts, Steps}
use Rattle.tree_flattener.specs.Worlds.{IsReady, World, frame_at, lead_by, setting_of}
use Rattle.tree_flattener.proofs.Definitions.{as-defined, cuts-steps, enters-setting, enters-steps, named-setting, puts-steps, ready-put}
use Rattle.tree_flattener.proofs.Stepping.{extends-on, extends-same, frame-kept, keeps-on, keeps-same, numbers-steps, same-setting, steps-on, take-all-of}
use Rattle.tree_flattener.proofs.Walking.{at_nodes}
use Rattle.tree_flattener.proofs.Within.{all-below-on, instance-on}

is_named : Option Lexeme → Bool
is_named None = false
is_named (Some l) = true

module _ (w : World) (more : FlatModule) (outside setting : Setting) (own : Lexeme) (count : ℕ) where
  abbrev Through : Trees → (List Named → Lead) → List ℕ → List Question → Type 0
  Through parts lead roots asked = IsThrough w.text w.means w.implied w.faces more outside setting own count parts lead roots asked

  -- what is no INSTANCE is gone over
  gone-over : (form : Form.the_data) (s : Span) (parts rest : Trees) (lead : List Named → Lead) (roots : List ℕ) (asked : List Question) → module_of form ≡ None → Through rest lead roots asked → Through (Cons (Node form s parts) rest) lead roots asked
  unfolding is_named
  gone-over (Form.Instance l) s parts rest lead roots asked e h = absurd (true≢false (ap is_named e))
  gone-over _ s parts rest lead roots asked e h = h

  gone-over-all : (before : List ℕ) (rest : Trees) (after : List ℕ) (lead : List Named → Lead) (roots : List ℕ) (asked : List Question) → AreThere w.nodes before → AllByRecursion (λ number. module_of (node_at w.nodes number).form ≡ None) before
      → Through (at_nodes w.nodes after) lead roots asked → Through (at_nodes w.nodes (before ++ after)) lead roots asked
  gone-over-all [] rest after lead roots asked there none h = h
  gone-over-all (n ∷ before) rest after lead roots asked there none h =
      let found = tree_at-form w.nodes n there.0 in
      subst (λ x. Through (Cons x (at_nodes w.nodes (before ++ after))) lead roots asked) (sym found.1)
      (gone-over (node_at w.nodes n).form (node_at w.nodes n).span found.0 (at_nodes w.nodes (before ++ after)) lead roots asked none.0 (gone-over-all before rest after lead roots asked there.1 none.1 h))

  -- the first INSTANCE
  goes-through : (form : Form.the_data) (s : Span) (parts rest : Trees) (l : Lexeme) (rights : List flattened.Right) (j : ℕ) (roots : List ℕ) (a b : List Question) → module_of form ≡ Some l
      → AreRights w.text w.means w.implied w.faces more setting l parts rights roots a
      → IsInstance w.text w.means w.implied w.faces more setting (length outside.frame) count true l rights j b
      → Through (Cons (Node form s parts) rest) (behind_instance j (w.faces (spelled w.text.source l))) roots (over outside.frame (asking.IsShallowInstance own j ∷ []) ++ (a ++ b))
  unfolding is_named
  goes-through (Form.Instance n) s parts rest l rights j roots a b e are made =
      let same : n ≡ l = ap (λ found. unwrap_or found n) e in (
        rights,
        j,
        a,
        b,
        subst (λ z. AreRights w.text w.means w.implied w.faces more setting z parts rights roots a) (sym same) are,
        subst (λ z. IsInstance w.text w.means w.implied w.faces more setting (length outside.frame) count true z rights j b) (sym same) made,
        ap (λ z. behind_instance j (w.faces (spelled w.text.source z))) (sym same),
        refl,
      )
  goes-through _ s parts rest l rights j roots a b e are made = absurd (true≢false (sym (ap is_named e)))

-- a module definition without an INSTANCE leads nowhere
pub no-instance-made : (w : World) (s0 s1 : Flattening) (frame : ℕ) (olds : List ℕ) (form : Form.the_data) (s : Span) (children : List ℕ) (own : Lexeme) (before : List ℕ)
    → defines form ≡ Module own → IsReady w s0 frame olds → AreThere w.nodes children → AllByRecursion (λ number. module_of (node_at w.nodes number).form ≡ None) children
    → Puts s0 s1 (record { place = place_in w.text.starts own.span.start; local = local.Nothing } ∷ [])
    → IsMadeDefinition w s0 s1 frame olds (Node form s (at_nodes w.nodes children)) before before
no-instance-made w s0 s1 frame olds form s children own before e ready there none puts =
    let parts = at_nodes w.nodes children in
    let setting = setting_of w s0 frame olds in
    let step = puts-steps s0 s1 _ puts in
    let lead = lead_by w local.Nothing in
    let inner = with_parameters w.text setting form parts in
    let count = length (parameters_of w.text form parts) in
    record {
      asked = [];
      steps = step;
      ready = ready-put w s0 s1 frame olds _ step.extends step.frames puts.locals (tt, tt) (tt, tt) ready;
      put = record { place = place_in w.text.starts own.span.start; local = local.Nothing } ∷ [];
      locals = puts.locals;
      first = [];
      is = sym (append-nil before);
      there = tt;
      lead = lead;
      leads = refl;
      setting = named-setting w s0 s1 frame olds form s parts _ local.Nothing step.frames ready.framed (ap (λ what. defined_as what parts) e) puts.locals;
      holds = λ more extends.
          as-defined w more setting form s parts lead [] [] (Module own) e
          (subst (λ z. Through w more setting inner own count (at_nodes w.nodes z) lead [] []) (append-nil children)
          (gone-over-all w more setting inner own count children Nil [] lead [] [] there none (refl, refl)));
    }

module _ (w : World) (s0 s1 s2 s3 s4 s5 s6 s7 : Flattening) (frame : ℕ) (olds : List ℕ) (form : Form.the_data) (s : Span) (entered : Entered) (own l : Lexeme) (node j mark from to : ℕ) where
  pub module-made : (children first_ones last_ones : List ℕ) (rights : List Right) (before after : List ℕ) → defines form ≡ Module own → IsReady w s0 frame olds
      → AreThere w.nodes children → children ≡ first_ones ++ node ∷ last_ones → AllByRecursion (λ number. module_of (node_at w.nodes number).form ≡ None) first_ones
      → module_of (node_at w.nodes node).form ≡ Some l → IsWhole w.nodes node → LiesIn w.text.source l
      → Asks s0 s1 frame (asking.IsShallowInstance own 0 ∷ [])
      → Enters w.text s1 s2 frame form (at_nodes w.nodes children) entered
      → RightsAll w s2 s3 entered.frame olds l (parts_at w.nodes node) rights before after
      → Instantiates w (setting_of w s3 entered.frame []) (length (frame_at s3.frames.items frame)) entered.count true l (rights_in rights) s3 s4 j
      → Cuts s4 s5 mark → mark ≡ length s1.locals.items
      → Puts s5 s6 (record { place = place_in w.text.starts own.span.start; local = local.Instance j l } ∷ [])
      → Numbers s6 s7 from to j → from ≡ length s0.asked.items → to ≡ length s1.asked.items
      → IsMadeDefinition w s0 s7 frame olds (Node form s (at_nodes w.nodes children)) before after
  module-made children first_ones last_ones rights before after e ready known split none here whole lies asked enters righted made cuts marked puts numbers begins ends =
      let parts = at_nodes w.nodes children in
      let setting = setting_of w s0 frame olds in
      let there = ready.framed in
      let lead = lead_by w (local.Instance j l) in
      let keeps1 = keeps-same s0.frames.items s1.frames.items asked.frames in
      let same1 = same-setting w s0 s1 frame olds keeps1 asked.locals there in
      let entering = enters-steps w s1 s2 frame form parts entered enters in
      let cut = cuts-steps s4 s5 mark cuts in
      let put_steps = puts-steps s5 s6 _ puts in
      let a = righted.asked in
      let b = made.asked in
      let to6 = steps-on s4 s5 s6 [] [] cut put_steps in
      let onward = steps-on s1 s2 s6 [] (a ++ (b ++ [])) entering (steps-on s2 s3 s6 a (b ++ []) righted.steps (steps-on s3 s4 s6 b [] made.steps to6)) in
      let inner = subst (λ z. Steps s1 s6 (a ++ z)) (append-nil b) onward in
      let all = numbers-steps s0 s1 s6 s7 frame from to j (asking.IsShallowInstance own 0 ∷ []) (asking.IsShallowInstance own j ∷ []) (a ++ b) asked inner numbers begins ends there refl in
      let locals5 : s5.locals.items ≡ s0.locals.items =
      cuts.locals ∙ ap (λ n. take n s4.locals.items) marked ∙ ap (take (length s1.locals.items)) (made.locals ∙ righted.locals ∙ enters.locals) ∙ take-all-of s1.locals.items _ ∙ asked.locals
      in
      let locals7 = numbers.locals ∙ puts.locals ∙ ap (λ z. z ++ record { place = place_in w.text.starts own.span.start; local = local.Instance j l } ∷ []) locals5 in
      let from4 = extends-on s4.flat s5.flat s7.flat cut.extends (extends-on s5.flat s6.flat s7.flat put_steps.extends (extends-same s6.flat s7.flat numbers.flat)) in
      let from3 = extends-on s3.flat s4.flat s7.flat made.steps.extends from4 in
      let keeps3 = keeps-on s0.frames.items s1.frames.items s3.frames.items keeps1 (keeps-on s1.frames.items s2.frames.items s3.frames.items entering.frames righted.steps.frames) in
      let outer : length (frame_at s3.frames.items frame) ≡ length setting.frame = ap length (frame-kept s0.frames.items s3.frames.items frame keeps3 there) in
      let inner_setting = with_parameters w.text setting form parts in
      let round : setting_of w s2 entered.frame olds ≡ inner_setting = enters-setting w s1 s2 frame form parts entered enters olds (module-binds form own e) ∙ ap (λ z. with_parameters w.text z form parts) same1 in
      let framed2 : entered.frame < length s2.frames.items =
      let n = enters.number in let l' = ap length enters.frames ∙ length_push s1.frames.items (frame_at s1.frames.items frame ++ parameters_of w.text form parts) in omega (arith, n, l')
      in
      let same3 = same-setting w s2 s3 entered.frame olds righted.steps.frames righted.locals framed2 in
      let count = length (parameters_of w.text form parts) in
      record {
        asked = over setting.frame (asking.IsShallowInstance own j ∷ []) ++ (a ++ b);
        steps = all;
        ready = ready-put w s0 s7 frame olds _ all.extends all.frames locals7 (instance-on s4.flat s7.flat from4 j made.there, tt) (lies, tt) ready;
        put = record { place = place_in w.text.starts own.span.start; local = local.Instance j l } ∷ [];
        locals = locals7;
        first = righted.first;
        is = righted.is;
        there = all-below-on s3.flat s7.flat from3 righted.first righted.there;
        lead = lead;
        leads = refl;
        setting = named-setting w s0 s7 frame olds form s parts _ (local.Instance j l) all.frames there (ap (λ what. defined_as what parts) e) locals7;
        holds = λ more extends.
            let to4 = extends-on s4.flat s7.flat more from4 extends in
            let to3 = extends-on s3.flat s7.flat more from3 extends in
            let are = subst (λ z. AreRights w.text w.means w.implied w.faces more z l (parts_at w.nodes node) (rights_in rights) righted.first a) round (righted.holds more to3) in
            let is_instance = subst (λ n. IsInstance w.text w.means w.implied w.faces more inner_setting n count true l (rights_in rights) j b) outer
            (subst (λ n. IsInstance w.text w.means w.implied w.faces more inner_setting (length (frame_at s3.frames.items frame)) n true l (rights_in rights) j b) enters.count
            (subst (λ z. IsInstance w.text w.means w.implied w.faces more z (length (frame_at s3.frames.items frame)) entered.count true l (rights_in rights) j b) (same3 ∙ round) (made.holds more to4)))
            in
            let at_node = goes-through w more setting inner_setting own count (node_at w.nodes node).form (node_at w.nodes node).span (parts_at w.nodes node) (at_nodes w.nodes last_ones) l (rights_in rights) j righted.first a b here are is_instance in
            let there_first = all-left (λ n. n < length w.nodes) first_ones (node ∷ last_ones) (subst (AreThere w.nodes) split known) in
            as-defined w more setting form s parts lead righted.first (over setting.frame (asking.IsShallowInstance own j ∷ []) ++ (a ++ b)) (Module own) e
            (subst (λ z. Through w more setting inner_setting own count (at_nodes w.nodes z) lead righted.first (over setting.frame (asking.IsShallowInstance own j ∷ []) ++ (a ++ b))) (sym split)
            (gone-over-all w more setting inner_setting own count first_ones Nil (node ∷ last_ones) lead righted.first (over setting.frame (asking.IsShallowInstance own j ∷ []) ++ (a ++ b)) there_first none
            (subst (λ x. Through w more setting inner_setting own count (Cons x (at_nodes w.nodes last_ones)) lead righted.first (over setting.frame (asking.IsShallowInstance own j ∷ []) ++ (a ++ b))) (sym whole) at_node)));
      }
