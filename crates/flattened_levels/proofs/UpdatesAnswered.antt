-- The questions of updates, and so of EXCEPT, are answered.
use Rattle.std.proofs.Common.{◌≡◌, ℕ, Bool, true, false, cond, List, [], ◌∷◌, ◌++◌, Option, None, refl, sym, ap, ◌∙◌, subst}
use Rattle.std.specs.Prelude.{not, slice_get}
use Rattle.tla_symbols.specs.declared.lexeme.Span.{Span}
use Rattle.tla_symbols.specs.declared.level.Kind.{Kind}
use Rattle.tla_symbols.specs.declared.level.Rule.TheVariants.{Plain}
use Rattle.tla_tree.specs.declared.form.Form.TheVariants as Form
use Rattle.tla_tree.specs.Forms.{helps}
use Rattle.tla_tree.specs.Syntax.{Tree, Trees, Node, Nil, Cons}
use Rattle.tla_model.specs.declared.names.Binding.TheVariants as as_binding
use Rattle.tla_model.specs.Entities.{Meaning, Text, declared_in}
use Rattle.module_model.specs.Exports.{Known}
use Rattle.kind_text.specs.ExpandedKind.{Expanded, Operands, kind, kinds}
use Rattle.kind_text.specs.FlatModule.{FlatModule, Form as NodeForm, IsOrdered, places_of}
use Rattle.kind_text.specs.Expansion.{text as text_at}
use Rattle.kind_text.specs.Substitution.{Item, judged}
use Rattle.tree_kinds.specs.Standing.{Outside}
use Rattle.tree_kinds.specs.Expanding.{Around, Outer, Helper, Whole, Part, and_operands, expand, in_update, operands, outer_operands, part_of, places_at, stands_outside, updated}
use Rattle.tree_kinds.specs.TreeLevels.{LevelFinding, at_node, function_text, levels, levels_parts, levels_updates}
use Rattle.flat_trees.specs.Stands.{Matches}
use Rattle.flat_trees.specs.Names.{order_by}
use Rattle.flat_trees.specs.Layouts.{Agrees, Layout, layout_repeating}
use Rattle.flattened_trees.specs.Leads.{FlatFace, Setting, repeating}
use Rattle.flattened_trees.specs.Questions.{Question}
use Rattle.flattened_trees.specs.NodeForms.{plain_node}
use Rattle.flattened_trees.specs.Flattened.{AreOperands, AreUpdates, IsFlattened, all_parts, asked_at, inside_parts}
use Rattle.flattened_trees.specs.Readable.{AreReadable, AreUpdatesWritten, EndsWhole, IsReadable}
use Rattle.flattened_trees.specs.Answers.{items_of, level_answers}
use Rattle.flattened_meanings.specs.Faces.{NameModules, NamesModules}
use Rattle.flattened_meanings.proofs.Fresh.{Fresh, fresh-left, fresh-right, whole-names}
use Rattle.flattened_meanings.proofs.Rounds.{repeating-known}
use Rattle.flattened_meanings.proofs.Operands.{IsMadeAs, IsNewAs, IsReadAs, given}
use Rattle.flattened_meanings.proofs.Bodies.{EndsAs, both-ways, helper-part, outer-helps, outer-part, part-outer, whole-part}
use Rattle.flattened_meanings.proofs.Updates.{IsTakenAs, outers-given}
use Rattle.flattened_meanings.proofs.Forms.{wholes-fresh}
use Rattle.flattened_meanings.proofs.Meant.{each-kept, first-fresh, parts-fresh, tree-kept}
use Rattle.flattened_levels.specs.Shapes.{AreShaped, IsShaped}
use Rattle.flattened_levels.specs.Asked.{AreExpressions}
use Rattle.flattened_levels.proofs.NodeKinds.{Round, kind-same, kinds-append, kinds-in, kinds-in-append, node-places}
use Rattle.flattened_levels.proofs.AtNode.{answers-append, answers-parted, found-apart, node-asked}
use Rattle.flattened_levels.proofs.Helpers.{helper-levels, levels-except, levels-next}
use Rattle.flattened_levels.proofs.Operands.{EachAnswered, IsShapedAs, expressions-append, operands-answered, part-operands}
use Rattle.flattened_levels.proofs.Alike.{alike-by}

kinds-apart : (a b c : List (Option Kind)) → (a ++ b) ++ c ≡ a ++ (b ++ c)
kinds-apart [] b c = refl
kinds-apart (x ∷ a) b c = ap (λ ys. x ∷ ys) (kinds-apart a b c)

pub whole-of : (form : Form.the_data) → helps form ≡ false → part_of form ≡ Whole
whole-of form help = by_outside (stands_outside form) refl
  where
    by_outside : (b : Bool) → stands_outside form ≡ b → cond b Outer (cond (helps form) Helper Whole) ≡ Whole
    by_outside true e = let both = outer-helps form e in both-ways (helps form) help both.0
    by_outside false e = ap (λ h. cond h Helper Whole) help

module _ (flat : FlatModule) (text : Text) (known : Known) (named : List ℕ → Outside) (means : ℕ → Option Meaning) (implied : ℕ → List Meaning) (faces : List ℕ → FlatFace) (nameable : List ℕ → Bool) where
  -- what is found in a part that stands outside
  abbrev first-outer : Around → Trees → Bool → List LevelFinding
  first-outer o parts out = elim out [ true ↦ levels_parts text known named o o parts | false ↦ [] ]

  -- the operands of a part that stands outside
  abbrev outer-part-operands : Around → Trees → Bool → Operands
  outer-part-operands o parts out = elim out [ true ↦ operands text known named o o parts | false ↦ Operands.Nil ]

  -- what is found in those parts alone that stand outside
  abbrev outer-levels : Around → Trees → List LevelFinding
  outer-levels o Nil = []
  outer-levels o (Cons (Node form s parts) rest) = first-outer o parts (stands_outside form) ++ outer-levels o rest

  -- the indices of an update are answered, and have their kinds
  record OutersAnswered (setting : Setting) (o : Around) (is : List ℕ) (asked : List Question) (parts : Trees) : Type 0 where
    found : level_answers flat asked ≡ outer-levels o parts
    kinds_are : kinds-in flat setting.frame is ≡ kinds (outer_operands text known named o parts)
    plain : AreExpressions flat is

  -- the right side of an update is, behind its indices
  record ValuesAnswered (setting : Setting) (o a : Around) (is : List ℕ) (asked : List Question) (parts : Trees) : Type 0 where
    found : outer-levels o parts ++ level_answers flat asked ≡ levels_parts text known named o a parts
    kinds_are : kinds (outer_operands text known named o parts) ++ kinds-in flat setting.frame is ≡ kinds (operands text known named o a parts)

  -- updates are
  pub record UpdatesAnswered (setting : Setting) (around : Around) (function : Expanded) (is : List ℕ) (asked : List Question) (parts : Trees) : Type 0 where
    pub found : level_answers flat asked ≡ levels_updates text known named around function parts
    pub kinds_are : kinds-in flat setting.frame is ≡ kinds (updated text known named around function parts)

  module _ (ordered : IsOrdered flat) where
    outers-answered : (parts : Trees) (outside inside : Layout) (setting : Setting) (seen : Meaning → Bool) (is : List ℕ) (asked : List Question) (o : Around) → EachAnswered flat text known named means implied faces nameable parts → NameModules text.source nameable parts → Round flat text known named means implied faces nameable outside setting seen o → AreOperands text means implied faces flat stands_outside setting parts is asked → AreReadable text known named means implied faces outside.context inside.context parts → AreShaped parts → Fresh text seen (whole-names text parts) → OutersAnswered setting o is asked parts
    outers-answered Nil outside inside setting seen is asked o each names round made can shaped fresh =
        record { found = ap (level_answers flat) made.1; kinds_are = ap (kinds-in flat setting.frame) made.0; plain = subst (AreExpressions flat) (sym made.0) tt }
    outers-answered (Cons (Node form s parts) rest) outside inside setting seen is asked o each names round (first, others, b, c, parted, asks, one, rest-made) can shaped fresh =
        by_outside (stands_outside form) refl one (outers-answered rest outside inside setting seen others c o each.2 names.1 round rest-made can.1 shaped.1 (fresh-right text seen _ (whole-names text rest) fresh))
      where
        joined : (out : Bool) → stands_outside form ≡ out → level_answers flat b ≡ first-outer o parts out → kinds-in flat setting.frame first ≡ kinds (outer-part-operands o parts out) → AreExpressions flat first → OutersAnswered setting o others c rest → OutersAnswered setting o is asked (Cons (Node form s parts) rest)
        joined out e found kinds-one plain after =
            record {
              found = answers-parted flat asked b c _ _ asks found after.found ∙ sym (ap (λ d. first-outer o parts d ++ outer-levels o rest) e);
              kinds_are =
                  ap (kinds-in flat setting.frame) parted ∙ kinds-in-append flat setting.frame first others
                  ∙ ap (λ ks. ks ++ kinds-in flat setting.frame others) kinds-one
                  ∙ ap (λ ks. kinds (outer-part-operands o parts out) ++ ks) after.kinds_are
                  ∙ sym (kinds-append (outer-part-operands o parts out) (outer_operands text known named o rest))
                  ∙ sym (ap (λ d. kinds (and_operands (outer-part-operands o parts d) (outer_operands text known named o rest))) e);
              plain = subst (AreExpressions flat) (sym parted) (expressions-append flat first others plain after.plain);
            }

        by_outside : (out : Bool) → stands_outside form ≡ out → IsTakenAs flat text known named means implied faces nameable out setting form s parts first b (part_of form) → OutersAnswered setting o others c rest → OutersAnswered setting o is asked (Cons (Node form s parts) rest)
        by_outside true e made after =
            let is-outer = part-outer form e in
            let here = operands-answered flat text known named means implied faces nameable ordered parts outside outside setting seen first b o o each.1 names.0.1 round round
            (subst (IsMadeAs flat text known named means implied faces nameable setting form s parts first b) is-outer made)
            (subst (IsReadAs flat text known named means implied faces nameable outside inside form s parts) is-outer can.0)
            (subst (IsShapedAs flat text known named means implied faces nameable form s parts) is-outer shaped.0)
            (subst (IsNewAs flat text known named means implied faces nameable seen form s parts) is-outer (fresh-left text seen _ (whole-names text rest) fresh)) in
            joined true e here.found here.kinds_are here.plain after
        by_outside false e made after =
            joined false e (ap (level_answers flat) made.1) (ap (kinds-in flat setting.frame) made.0) (subst (AreExpressions flat) (sym made.0) tt) after

    values-answered : (parts : Trees) (outside inside : Layout) (setting : Setting) (seen : Meaning → Bool) (is : List ℕ) (asked : List Question) (o a : Around) → EachAnswered flat text known named means implied faces nameable parts → NameModules text.source nameable parts → Round flat text known named means implied faces nameable inside setting seen a → EndsWhole parts → AreOperands text means implied faces flat inside_parts setting parts is asked → AreReadable text known named means implied faces outside.context inside.context parts → AreShaped parts → Fresh text seen (whole-names text parts) → ValuesAnswered setting o a is asked parts
    values-answered Nil outside inside setting seen is asked o a each names round whole made can shaped fresh = absurd whole
    values-answered (Cons (Node form s parts) rest) outside inside setting seen is asked o a each names round whole (first, others, b, c, parted, asks, one, rest-made) can shaped fresh =
        by_part (part_of form) refl (stands_outside form) refl whole one can.0 shaped.0 (fresh-left text seen _ (whole-names text rest) fresh)
        (λ left. values-answered rest outside inside setting seen others c o a each.2 names.1 round left rest-made can.1 shaped.1 (fresh-right text seen _ (whole-names text rest) fresh))
      where
        no-nodes : (ps : Trees) → ps ≡ Nil → AreOperands text means implied faces flat all_parts setting ps first b → (first ≡ []) × (b ≡ [])
        no-nodes Nil e made = made
        no-nodes (Cons x xs) e made = cc

        no-others : (ps : Trees) → ps ≡ Nil → AreOperands text means implied faces flat inside_parts setting ps others c → (others ≡ []) × (c ≡ [])
        no-others Nil e made = made
        no-others (Cons x xs) e made = cc

        -- where the first part has no questions
        passed : (out : Bool) → stands_outside form ≡ out → first ≡ [] → b ≡ [] → (p : Part) → part_of form ≡ p → first-outer o parts out ++ levels_parts text known named o a rest ≡ levels_parts text known named o a (Cons (Node form s parts) rest) → kinds (outer-part-operands o parts out) ≡ kinds (part-operands flat text known named means implied faces nameable o a form s parts p) → ValuesAnswered setting o a others c rest → ValuesAnswered setting o a is asked (Cons (Node form s parts) rest)
        passed out e no-first no-questions p is-part found kinds-one after =
            let same : asked ≡ c = asks ∙ ap (λ qs. qs ++ c) no-questions in
            let nodes : is ≡ others = parted ∙ ap (λ js. js ++ others) no-first in
            record {
              found =
                  ap (λ d. (first-outer o parts d ++ outer-levels o rest) ++ level_answers flat asked) e
                  ∙ found-apart (first-outer o parts out) (outer-levels o rest) (level_answers flat asked)
                  ∙ ap (λ qs. first-outer o parts out ++ (outer-levels o rest ++ level_answers flat qs)) same
                  ∙ ap (λ ys. first-outer o parts out ++ ys) after.found
                  ∙ found;
              kinds_are =
                  ap (λ d. kinds (and_operands (outer-part-operands o parts d) (outer_operands text known named o rest)) ++ kinds-in flat setting.frame is) e
                  ∙ ap (λ ks. ks ++ kinds-in flat setting.frame is) (kinds-append (outer-part-operands o parts out) (outer_operands text known named o rest))
                  ∙ kinds-apart (kinds (outer-part-operands o parts out)) (kinds (outer_operands text known named o rest)) (kinds-in flat setting.frame is)
                  ∙ ap (λ js. kinds (outer-part-operands o parts out) ++ (kinds (outer_operands text known named o rest) ++ kinds-in flat setting.frame js)) nodes
                  ∙ ap (λ ks. kinds (outer-part-operands o parts out) ++ ks) after.kinds_are
                  ∙ ap (λ ks. ks ++ kinds (operands text known named o a rest)) kinds-one
                  ∙ sym (kinds-append (part-operands flat text known named means implied faces nameable o a form s parts p) (operands text known named o a rest))
                  ∙ sym (ap (λ q. kinds (and_operands (part-operands flat text known named means implied faces nameable o a form s parts q) (operands text known named o a rest))) is-part);
            }

        by_part : (p : Part) → part_of form ≡ p → (out : Bool) → stands_outside form ≡ out → EndsAs form parts rest p → IsTakenAs flat text known named means implied faces nameable (not out) setting form s parts first b p → IsReadAs flat text known named means implied faces nameable outside inside form s parts p → IsShapedAs flat text known named means implied faces nameable form s parts p → IsNewAs flat text known named means implied faces nameable seen form s parts p → (EndsWhole rest → ValuesAnswered setting o a others c rest) → ValuesAnswered setting o a is asked (Cons (Node form s parts) rest)
        by_part Outer e true out left made read shaped new again =
            passed true out made.0 made.1 Outer e (sym (levels-next text known named a o form s parts rest true out)) refl (again left)
        by_part Outer e false out left made read shaped new again = both-ways (stands_outside form) out (outer-part form e)
        by_part Helper e true out left made read shaped new again = both-ways (stands_outside form) (helper-part form e).0 out
        by_part Helper e false out (empty, none, left) made read shaped new again =
            let nothing = no-nodes parts empty made in
            passed false out nothing.0 nothing.1 Helper e
            (sym (
            levels-next text known named a o form s parts rest false out
            ∙ ap (λ xs. xs ++ levels_parts text known named o a rest) (helper-levels text known named a form s parts (helper-part form e).1 shaped.0 ∙ ap (levels_parts text known named a a) empty)
            ))
            (sym (ap (λ ps. kinds (operands text known named a a ps)) empty)) (again left)
        by_part Whole e true out left made read shaped new again = both-ways (stands_outside form) (whole-part form e).0 out
        by_part Whole e false out last (i, single, made) read shaped new again =
            let no-more = no-others rest last rest-made in
            let one-node : is ≡ i ∷ [] = parted ∙ ap (λ js. js ++ others) single ∙ ap (λ js. (i ∷ []) ++ js) no-more.0 in
            record {
              found =
                  ap (λ d. (first-outer o parts d ++ outer-levels o rest) ++ level_answers flat asked) out
                  ∙ ap (λ ps. outer-levels o ps ++ level_answers flat asked) last
                  ∙ answers-parted flat asked b c _ _ asks (each.0 inside setting seen i b a round made read.1 shaped new) (ap (level_answers flat) no-more.1)
                  ∙ sym (levels-next text known named a o form s parts rest false out ∙ ap (λ ps. levels text known named a (Node form s parts) ++ levels_parts text known named o a ps) last);
              kinds_are =
                  ap (λ d. kinds (and_operands (outer-part-operands o parts d) (outer_operands text known named o rest)) ++ kinds-in flat setting.frame is) out
                  ∙ ap (λ ps. kinds (outer_operands text known named o ps) ++ kinds-in flat setting.frame is) last
                  ∙ ap (kinds-in flat setting.frame) one-node
                  ∙ ap (λ k. k ∷ []) (kind-same flat text known named means implied faces nameable ordered inside setting seen a round (Node form s parts) i b names.0 made read.1 new)
                  ∙ sym (ap (λ ps. kinds (and_operands (part-operands flat text known named means implied faces nameable o a form s parts Whole) (operands text known named o a ps))) last)
                  ∙ sym (ap (λ q. kinds (and_operands (part-operands flat text known named means implied faces nameable o a form s parts q) (operands text known named o a rest))) e);
            }

    pub updates-answered : (updates : Trees) (layout : Layout) (setting : Setting) (seen : Meaning → Bool) (f : ℕ) (is : List ℕ) (asked : List Question) (around : Around) (function : Expanded) → EachAnswered flat text known named means implied faces nameable updates → NameModules text.source nameable updates → Round flat text known named means implied faces nameable layout setting seen around → AreUpdates text means implied faces flat setting f updates is asked → AreUpdatesWritten updates → AreReadable text known named means implied faces layout.context layout.context updates → AreShaped updates → Fresh text seen (whole-names text updates) → ((longer : List Item) → (text_at flat f (items_of setting.frame ++ longer)).text ≡ function) → places_of (slice_get flat.nodes f) ≡ None → UpdatesAnswered setting around function is asked updates
    updates-answered Nil layout setting seen f is asked around function each names round made written can shaped fresh gives plain =
        record { found = ap (level_answers flat) made.1; kinds_are = ap (kinds-in flat setting.frame) made.0 }
    updates-answered (Cons (Node form s parts) rest) layout setting seen f is asked around function each names round (indices, values, others, b, c, d, outers, insides, rest-made, parted, asks) (help, whole, rest-written) can shaped fresh gives plain =
        let can-here = subst (IsReadAs flat text known named means implied faces nameable layout layout form s parts) help can.0 in
        let shaped-here = (subst (IsShapedAs flat text known named means implied faces nameable form s parts) help shaped.0).1 in
        let new-here = subst (IsNewAs flat text known named means implied faces nameable seen form s parts) help (fresh-left text seen _ (whole-names text rest) fresh) in
        let indices-are = outers-answered parts layout layout setting seen indices b around each.1 names.0.1 round outers can-here shaped-here new-here in
        let indices-given = outers-given flat text known named means implied faces nameable parts layout layout setting seen indices b (each-kept flat text known named means implied faces nameable ordered parts names.0.1) round.knows outers can-here new-here in
        let then-around = in_update text known named around function parts in
        let then-agrees : Agrees flat (layout_repeating layout (f ∷ indices)) (items_of setting.frame) then-around = record {
          context = round.asked.frame.context;
          places = round.asked.frame.places;
          standing = round.asked.frame.standing;
          old = λ longer. ap (λ t. Operands.Cons t (given flat text known named means implied faces nameable indices (items_of setting.frame ++ longer))) (gives longer) ∙ ap (Operands.Cons function) (indices-given (items_of setting.frame) longer around round.asked.frame);
        } in
        let then-round : Round flat text known named means implied faces nameable (layout_repeating layout (f ∷ indices)) (repeating setting (f ∷ indices)) seen then-around = record {
          knows = repeating-known flat text known named faces nameable layout setting seen (f ∷ indices) round.knows;
          asked = record { frame = then-agrees; olds = (plain, indices-are.plain) };
        } in
        let values-are = values-answered parts layout (layout_repeating layout (f ∷ indices)) (repeating setting (f ∷ indices)) seen values c around then-around each.1 names.0.1 then-round whole insides can-here shaped-here new-here in
        let after = updates-answered rest layout setting seen f others d around function each.2 names.1 round rest-made rest-written can.1 shaped.1 (fresh-right text seen _ (whole-names text rest) fresh) gives plain in
        record {
          found =
              answers-parted flat asked b (c ++ d) _ _ asks indices-are.found (answers-append flat c d)
              ∙ sym (found-apart (outer-levels around parts) (level_answers flat c) (level_answers flat d))
              ∙ ap (λ xs. xs ++ level_answers flat d) values-are.found
              ∙ ap (λ ys. levels_parts text known named around then-around parts ++ ys) after.found;
          kinds_are =
              ap (kinds-in flat setting.frame) parted
              ∙ kinds-in-append flat setting.frame indices (values ++ others)
              ∙ ap (λ ks. ks ++ kinds-in flat setting.frame (values ++ others)) indices-are.kinds_are
              ∙ ap (λ ks. kinds (outer_operands text known named around parts) ++ ks) (kinds-in-append flat setting.frame values others)
              ∙ sym (kinds-apart (kinds (outer_operands text known named around parts)) (kinds-in flat setting.frame values) (kinds-in flat setting.frame others))
              ∙ ap (λ ks. ks ++ kinds-in flat setting.frame others) values-are.kinds_are
              ∙ ap (λ ks. kinds (operands text known named around then-around parts) ++ ks) after.kinds_are
              ∙ sym (kinds-append (operands text known named around then-around parts) (updated text known named around function rest));
        }

    pub except-answered : (s at : Span) (form : Form.the_data) (parts updates : Trees) (layout : Layout) (setting : Setting) (seen : Meaning → Bool) (i : ℕ) (asked : List Question) (around : Around) → EachAnswered flat text known named means implied faces nameable (Cons (Node form at parts) updates) → NamesModules text.source nameable (Node Form.Except s (Cons (Node form at parts) updates)) → Round flat text known named means implied faces nameable layout setting seen around → IsFlattened text means implied faces flat setting (Node Form.Except s (Cons (Node form at parts) updates)) i asked → IsReadable text known named means implied faces layout.context (Node Form.Except s (Cons (Node form at parts) updates)) → IsShaped (Node Form.Except s (Cons (Node form at parts) updates)) → Fresh text seen (declared_in as_binding.Constant (Node Form.Except s (Cons (Node form at parts) updates))) → level_answers flat asked ≡ levels text known named around (Node Form.Except s (Cons (Node form at parts) updates))
    except-answered s at form parts updates layout setting seen i asked around each names round (f, is, a, b, made, changed, there, asks) (help, plain, can, written, cans) shaped fresh =
        let x : Tree = Node form at parts in
        let whole : Tree = Node Form.Except s (Cons x updates) in
        let same = kind-same flat text known named means implied faces nameable ordered layout setting seen around round whole i asked names (f, is, a, b, made, changed, there, asks) (help, plain, can, written, cans) fresh in
        let new = first-fresh text seen x updates (parts-fresh text seen Form.Except s (Cons x updates) fresh) in
        let shaped-here : IsShaped x = subst (IsShapedAs flat text known named means implied faces nameable form at parts) (whole-of form help) shaped.0 in
        let function : (longer : List Item) → (text_at flat f (items_of setting.frame ++ longer)).text ≡ (expand text known named around x).text =
        λ longer. subst (λ o. Matches (order_by o) (text_at flat f (items_of setting.frame ++ longer)) (expand text known named around x)) plain
        (tree-kept flat text known named means implied faces nameable ordered x names.1.0 layout setting seen f a round.knows made can new (items_of setting.frame) longer around round.asked.frame) in
        let places = node-places flat text known named means implied faces nameable ordered layout setting seen around round x f a names.1.0 made can new ∙ plain in
        let after = updates-answered updates layout setting seen f is b around (expand text known named around x).text each.2 names.1.1 round changed written cans shaped.1
        (fresh-right text seen _ (whole-names text updates) (wholes-fresh text seen Form.Except s (Cons x updates) fresh)) function places in
        let first = kind-same flat text known named means implied faces nameable ordered layout setting seen around round x f a names.1.0 made can new in
        let none : places_at text known named around.context x ≡ None = ap (λ context. places_at text known named context x) round.asked.frame.context ∙ plain in
        let kinds-are : kinds-in flat setting.frame (f ∷ is) ≡ kind (expand text known named around x).text ∷ kinds (updated text known named around (expand text known named around x).text updates) =
        ap (λ k. k ∷ kinds-in flat setting.frame is) (first ∙ ap (λ o. kind (judged o (expand text known named around x))) none)
        ∙ ap (λ ks. kind (expand text known named around x).text ∷ ks) after.kinds_are in
        answers-parted flat asked (asked_at text means implied faces flat setting i Form.Except s (Cons x updates)) (a ++ b) _ _ asks
        (node-asked flat text known named setting.frame i around Form.Except s (Cons x updates) same
        (λ e. alike-by flat setting.frame i text known named around whole (plain_node (NodeForm.Operation Plain) (f ∷ is)) (f ∷ is) there refl kinds-are))
        (answers-append flat a b ∙ ap (λ xs. xs ++ level_answers flat b) (each.0 layout setting seen f a around round made can shaped-here new) ∙ ap (λ ys. levels text known named around x ++ ys) after.found)
        ∙ sym (found-apart (at_node text known named around Form.Except s (Cons x updates)) (levels text known named around x) (levels_updates text known named around (function_text text known named around x) updates))
        ∙ sym (levels-except text known named around s x updates)
