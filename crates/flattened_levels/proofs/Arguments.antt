-- The questions of arguments and of paths are answered by what is found there.
use Rattle.std.proofs.Common.{◌≡◌, ℕ, Bool, false, List, [], ◌∷◌, ◌++◌, Option, Some, None, refl, sym, ap, ◌∙◌}
use Rattle.tla_symbols.specs.declared.lexeme.Span.{Span}
use Rattle.tla_tree.specs.declared.form.Form.TheVariants as Form
use Rattle.tla_tree.specs.Syntax.{Trees, Node, Nil, Cons}
use Rattle.tla_model.specs.Entities.{Meaning, Text, all_placed}
use Rattle.tla_model.specs.Scopes.{all_grouped, names_in}
use Rattle.module_model.specs.Exports.{Behind, Known, entry_of, onward}
use Rattle.kind_text.specs.ExpandedKind.{kinds}
use Rattle.kind_text.specs.FlatModule.{FlatModule, IsOrdered}
use Rattle.tree_kinds.specs.Standing.{Outside}
use Rattle.tree_kinds.specs.Expanding.{Around, Outer, Helper, Whole, Part, operands, part_of, stands_outside}
use Rattle.tree_kinds.specs.TreeLevels.{levels, levels_parts}
use Rattle.flat_trees.specs.Layouts.{Layout}
use Rattle.flattened_trees.specs.Leads.{FlatFace, Setting}
use Rattle.flattened_trees.specs.Questions.{Question}
use Rattle.flattened_trees.specs.Flattened.{AreOperands, all_parts}
use Rattle.flattened_trees.specs.Readable.{AreArguments, IsReadablePath, first_name, orders_of}
use Rattle.flattened_trees.specs.Answers.{level_answers}
use Rattle.flattened_meanings.specs.Faces.{NameModules}
use Rattle.flattened_meanings.proofs.Fresh.{Fresh, fresh-left, fresh-right, whole-names, whole-plain}
use Rattle.flattened_meanings.proofs.Operands.{IsMadeAs, IsNewAs}
use Rattle.flattened_meanings.proofs.Bodies.{whole-part}
use Rattle.flattened_levels.specs.Shapes.{AreShaped}
use Rattle.flattened_levels.proofs.NodeKinds.{Round, kind-same, kinds-append, kinds-in, kinds-in-append}
use Rattle.flattened_levels.proofs.AtNode.{answers-parted}
use Rattle.flattened_levels.proofs.Helpers.{helper-levels, levels-next}
use Rattle.flattened_levels.proofs.Operands.{EachAnswered, IsShapedAs, part-operands}

module _ (flat : FlatModule) (text : Text) (known : Known) (named : List ℕ → Outside) (means : ℕ → Option Meaning) (implied : ℕ → List Meaning) (faces : List ℕ → FlatFace) (nameable : List ℕ → Bool) where
  -- ---- names that arguments and paths bind: none

  arguments-bind : (parts : Trees) (orders : List ℕ) (layout : Layout) → AreArguments text known named means implied faces layout.context orders parts → (all_placed parts ≡ []) × (all_grouped parts ≡ [])
  arguments-bind Nil [] layout can = (refl, refl)
  arguments-bind Nil (order ∷ orders) layout can = absurd can
  arguments-bind (Cons (Node form s parts) rest) [] layout can = absurd can
  arguments-bind (Cons (Node form s parts) rest) (order ∷ orders) layout (whole, takes, can, cans) =
      let plain = whole-plain text form whole in
      let after = arguments-bind rest orders layout cans in
      (ap (λ ns. ns ++ all_placed rest) plain.0 ∙ after.0, ap (λ b. names_in b parts ++ all_grouped rest) plain.1 ∙ after.1)

  pub arguments-none : (parts : Trees) (orders : List ℕ) (layout : Layout) → AreArguments text known named means implied faces layout.context orders parts → all_placed parts ++ all_grouped parts ≡ []
  arguments-none parts orders layout can = let both = arguments-bind parts orders layout can in ap (λ ns. ns ++ all_grouped parts) both.0 ∙ both.1

  path-bind : (parts : Trees) (meaning : Option Meaning) (held : Behind) (layout : Layout) → IsReadablePath text known named means implied faces layout.context meaning held parts → (all_placed parts ≡ []) × (all_grouped parts ≡ [])
  path-bind parts None held layout can = absurd can
  path-bind Nil (Some m) held layout can = absurd can
  path-bind (Cons (Node (Form.Segment l) s Nil) Nil) (Some m) held layout can = (refl, refl)
  path-bind (Cons (Node (Form.Segment l) s (Cons x arguments)) Nil) (Some m) held layout can = (refl, refl)
  path-bind (Cons (Node (Form.Segment l) s Nil) (Cons y rest)) (Some m) held layout can = path-bind (Cons y rest) (entry_of (held []) (first_name text.source (Cons y rest))) (onward held (first_name text.source (Cons y rest))) layout can.2
  path-bind (Cons (Node (Form.Segment l) s (Cons x arguments)) (Cons y rest)) (Some m) held layout can = path-bind (Cons y rest) (entry_of (held []) (first_name text.source (Cons y rest))) (onward held (first_name text.source (Cons y rest))) layout can.2
  path-bind (Cons (Node form s arguments) rest) (Some m) held layout can = absurd can

  pub path-none : (parts : Trees) (meaning : Option Meaning) (held : Behind) (layout : Layout) → IsReadablePath text known named means implied faces layout.context meaning held parts → all_placed parts ++ all_grouped parts ≡ []
  path-none parts meaning held layout can = let both = path-bind parts meaning held layout can in ap (λ ns. ns ++ all_grouped parts) both.0 ∙ both.1

  -- ---- answers

  -- the questions of arguments are answered, and their nodes have their kinds
  pub record ArgumentsAnswered (setting : Setting) (around : Around) (is : List ℕ) (asked : List Question) (parts : Trees) : Type 0 where
    pub found : level_answers flat asked ≡ levels_parts text known named around around parts
    pub kinds_are : kinds-in flat setting.frame is ≡ kinds (operands text known named around around parts)

  module _ (ordered : IsOrdered flat) (layout : Layout) (setting : Setting) (seen : Meaning → Bool) (around : Around) (round : Round flat text known named means implied faces nameable layout setting seen around) where
    none-answered : (is : List ℕ) (asked : List Question) → AreOperands text means implied faces flat all_parts setting Nil is asked → ArgumentsAnswered setting around is asked Nil
    none-answered is asked made = record { found = ap (level_answers flat) made.1; kinds_are = ap (kinds-in flat setting.frame) made.0 }

    -- one part more
    next-argument : (form : Form.the_data) (s : Span) (parts rest : Trees) (is first others : List ℕ) (asked b c : List Question) (p : Part) → part_of form ≡ p → is ≡ first ++ others → asked ≡ b ++ c → stands_outside form ≡ false → level_answers flat b ≡ levels text known named around (Node form s parts) → kinds-in flat setting.frame first ≡ kinds (part-operands flat text known named means implied faces nameable around around form s parts p) → ArgumentsAnswered setting around others c rest → ArgumentsAnswered setting around is asked (Cons (Node form s parts) rest)
    next-argument form s parts rest is first others asked b c p e parted asks inside one kinds-one after =
        record {
          found = answers-parted flat asked b c _ _ asks one after.found ∙ sym (levels-next text known named around around form s parts rest false inside);
          kinds_are =
              ap (kinds-in flat setting.frame) parted ∙ kinds-in-append flat setting.frame first others
              ∙ ap (λ ks. ks ++ kinds-in flat setting.frame others) (kinds-one ∙ sym (ap (λ q. kinds (part-operands flat text known named means implied faces nameable around around form s parts q)) e))
              ∙ ap (λ ks. kinds (part-operands flat text known named means implied faces nameable around around form s parts (part_of form)) ++ ks) after.kinds_are
              ∙ sym (kinds-append (part-operands flat text known named means implied faces nameable around around form s parts (part_of form)) (operands text known named around around rest));
        }

    pub arguments-answered : (parts : Trees) (orders is : List ℕ) (asked : List Question) → EachAnswered flat text known named means implied faces nameable parts → NameModules text.source nameable parts → AreOperands text means implied faces flat all_parts setting parts is asked → AreArguments text known named means implied faces layout.context orders parts → AreShaped parts → Fresh text seen (whole-names text parts) → ArgumentsAnswered setting around is asked parts
    arguments-answered Nil orders is asked each names made can shaped fresh = none-answered is asked made
    arguments-answered (Cons (Node form s parts) rest) [] is asked each names made can shaped fresh = absurd can
    arguments-answered (Cons (Node form s parts) rest) (order ∷ orders) is asked each names (first, others, b, c, parted, asks, one, rest-made) (whole, takes, can, cans) shaped fresh =
        by_part (part_of form) whole one shaped.0 (fresh-left text seen _ (whole-names text rest) fresh)
        (arguments-answered rest orders others c each.2 names.1 rest-made cans shaped.1 (fresh-right text seen _ (whole-names text rest) fresh))
      where
        by_part : (p : Part) → p ≡ Whole → IsMadeAs flat text known named means implied faces nameable setting form s parts first b p → IsShapedAs flat text known named means implied faces nameable form s parts p → IsNewAs flat text known named means implied faces nameable seen form s parts p → ArgumentsAnswered setting around others c rest → ArgumentsAnswered setting around is asked (Cons (Node form s parts) rest)
        by_part Outer e made shaped new after = cc
        by_part Helper e made shaped new after = cc
        by_part Whole e (i, single, made) shaped new after =
            next-argument form s parts rest is first others asked b c Whole whole parted asks (whole-part form whole).0
            (each.0 layout setting seen i b around round made can shaped new)
            (ap (kinds-in flat setting.frame) single ∙ ap (λ k. k ∷ []) (kind-same flat text known named means implied faces nameable ordered layout setting seen around round (Node form s parts) i b names.0 made can new))
            after

    pub path-answered : (parts : Trees) (meaning : Option Meaning) (held : Behind) (is : List ℕ) (asked : List Question) → EachAnswered flat text known named means implied faces nameable parts → NameModules text.source nameable parts → AreOperands text means implied faces flat all_parts setting parts is asked → IsReadablePath text known named means implied faces layout.context meaning held parts → AreShaped parts → Fresh text seen (whole-names text parts) → ArgumentsAnswered setting around is asked parts
    path-answered parts None held is asked each names made can shaped fresh = absurd can
    path-answered Nil (Some m) held is asked each names made can shaped fresh = absurd can
    path-answered (Cons (Node (Form.Segment l) s Nil) Nil) (Some m) held is asked each names (first, others, b, c, parted, asks, one, rest-made) can shaped fresh =
        let here = none-answered first b one in
        next-argument (Form.Segment l) s Nil Nil is first others asked b c Helper refl parted asks refl
        (here.found ∙ sym (helper-levels text known named around (Form.Segment l) s Nil refl shaped.0.0)) here.kinds_are (none-answered others c rest-made)
    path-answered (Cons (Node (Form.Segment l) s (Cons x arguments)) Nil) (Some m) held is asked each names (first, others, b, c, parted, asks, one, rest-made) can shaped fresh =
        let here = arguments-answered (Cons x arguments) (orders_of m) first b each.1 names.0.1 one can.1 shaped.0.1 (fresh-left text seen (whole-names text (Cons x arguments)) [] fresh) in
        next-argument (Form.Segment l) s (Cons x arguments) Nil is first others asked b c Helper refl parted asks refl
        (here.found ∙ sym (helper-levels text known named around (Form.Segment l) s (Cons x arguments) refl shaped.0.0)) here.kinds_are (none-answered others c rest-made)
    path-answered (Cons (Node (Form.Segment l) s Nil) (Cons y rest)) (Some m) held is asked each names (first, others, b, c, parted, asks, one, rest-made) can shaped fresh =
        let here = arguments-answered Nil (orders_of m) first b each.1 names.0.1 one can.1 shaped.0.1 (fresh-left text seen (whole-names text Nil) (whole-names text (Cons y rest)) fresh) in
        next-argument (Form.Segment l) s Nil (Cons y rest) is first others asked b c Helper refl parted asks refl
        (here.found ∙ sym (helper-levels text known named around (Form.Segment l) s Nil refl shaped.0.0)) here.kinds_are
        (path-answered (Cons y rest) (entry_of (held []) (first_name text.source (Cons y rest))) (onward held (first_name text.source (Cons y rest))) others c each.2 names.1 rest-made can.2 shaped.1 (fresh-right text seen (whole-names text Nil) (whole-names text (Cons y rest)) fresh))
    path-answered (Cons (Node (Form.Segment l) s (Cons x arguments)) (Cons y rest)) (Some m) held is asked each names (first, others, b, c, parted, asks, one, rest-made) can shaped fresh =
        let here = arguments-answered (Cons x arguments) (orders_of m) first b each.1 names.0.1 one can.1 shaped.0.1 (fresh-left text seen (whole-names text (Cons x arguments)) (whole-names text (Cons y rest)) fresh) in
        next-argument (Form.Segment l) s (Cons x arguments) (Cons y rest) is first others asked b c Helper refl parted asks refl
        (here.found ∙ sym (helper-levels text known named around (Form.Segment l) s (Cons x arguments) refl shaped.0.0)) here.kinds_are
        (path-answered (Cons y rest) (entry_of (held []) (first_name text.source (Cons y rest))) (onward held (first_name text.source (Cons y rest))) others c each.2 names.1 rest-made can.2 shaped.1 (fresh-right text seen (whole-names text (Cons x arguments)) (whole-names text (Cons y rest)) fresh))
    path-answered (Cons (Node form s arguments) rest) (Some m) held is asked each names made can shaped fresh = absurd can
