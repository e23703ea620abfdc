-- The questions of operands are answered by what is found in parts, and nodes of operands have their kinds.
use Rattle.std.proofs.Common.{◌≡◌, ℕ, Bool, List, [], ◌∷◌, ◌++◌, Option, refl, sym, ap, ◌∙◌, subst}
use Rattle.tla_symbols.specs.declared.lexeme.Span.{Span}
use Rattle.tla_tree.specs.declared.form.Form.TheVariants as Form
use Rattle.tla_tree.specs.Syntax.{Tree, Trees, Node, Nil, Cons}
use Rattle.tla_model.specs.declared.names.Binding.TheVariants as as_binding
use Rattle.tla_model.specs.Entities.{Meaning, Text, declared_in}
use Rattle.module_model.specs.Exports.{Known}
use Rattle.kind_text.specs.ExpandedKind.{Operands, kinds}
use Rattle.kind_text.specs.FlatModule.{FlatModule, IsOrdered}
use Rattle.kind_text.specs.Substitution.{judged}
use Rattle.tree_kinds.specs.Standing.{Outside}
use Rattle.tree_kinds.specs.Expanding.{Around, Outer, Helper, Whole, Part, expand, operands, part_of, places_at, stands_outside}
use Rattle.tree_kinds.specs.TreeLevels.{levels, levels_parts}
use Rattle.flat_trees.specs.Layouts.{Layout}
use Rattle.flattened_trees.specs.Leads.{FlatFace, Setting}
use Rattle.flattened_trees.specs.Questions.{Question}
use Rattle.flattened_trees.specs.Flattened.{AreOperands, IsFlattened, all_parts}
use Rattle.flattened_trees.specs.Readable.{AreReadable, IsReadable}
use Rattle.flattened_trees.specs.Answers.{level_answers}
use Rattle.flattened_meanings.specs.Faces.{NameModules}
use Rattle.flattened_meanings.proofs.Fresh.{Fresh, fresh-left, fresh-right, whole-names}
use Rattle.flattened_meanings.proofs.Operands.{IsMadeAs, IsNewAs, IsReadAs}
use Rattle.flattened_meanings.proofs.Bodies.{helper-part, outer-part, whole-part}
use Rattle.flattened_levels.specs.Shapes.{AreShaped, IsPlainHelper, IsShaped}
use Rattle.flattened_levels.specs.Asked.{AreExpressions}
use Rattle.flattened_levels.proofs.NodeKinds.{Round, kind-same, kinds-append, kinds-in, kinds-in-append, node-places}
use Rattle.flattened_levels.proofs.AtNode.{answers-parted}
use Rattle.flattened_levels.proofs.Helpers.{first-levels, helper-levels, levels-next}

module _ (flat : FlatModule) where
  pub expressions-append : (is js : List ℕ) → AreExpressions flat is → AreExpressions flat js → AreExpressions flat (is ++ js)
  expressions-append [] js one other = other
  expressions-append (i ∷ is) js one other = (one.0, expressions-append is js one.1 other)

module _ (flat : FlatModule) (text : Text) (known : Known) (named : List ℕ → Outside) (means : ℕ → Option Meaning) (implied : ℕ → List Meaning) (faces : List ℕ → FlatFace) (nameable : List ℕ → Bool) where
  -- what is asked of the node of a tree is answered by what is found in the tree, whatever is known round it
  abbrev pub IsAnswered : Tree → Type 0
  IsAnswered x =
      (layout : Layout) (setting : Setting) (seen : Meaning → Bool) (i : ℕ) (asked : List Question) (around : Around)
      → Round flat text known named means implied faces nameable layout setting seen around
      → IsFlattened text means implied faces flat setting x i asked
      → IsReadable text known named means implied faces layout.context x → IsShaped x
      → Fresh text seen (declared_in as_binding.Constant x)
      → level_answers flat asked ≡ levels text known named around x

  -- the same of each of these, and of each of their parts
  abbrev pub EachAnswered : Trees → Type 0
  EachAnswered Nil = Unit {0}
  EachAnswered (Cons (Node form s parts) rest) = IsAnswered (Node form s parts) × EachAnswered parts × EachAnswered rest

  -- the questions of operands are answered, and their nodes have their kinds
  pub record AreAnswered (setting : Setting) (o a : Around) (is : List ℕ) (asked : List Question) (parts : Trees) : Type 0 where
    pub found : level_answers flat asked ≡ levels_parts text known named o a parts
    pub kinds_are : kinds-in flat setting.frame is ≡ kinds (operands text known named o a parts)
    pub plain : AreExpressions flat is

  -- the operands of a part, by what it is
  abbrev pub part-operands : Around → Around → Form.the_data → Span → Trees → Part → Operands
  part-operands o a form s parts p = elim p [
    | Outer ↦ operands text known named o o parts
    | Helper ↦ operands text known named a a parts
    | Whole ↦ Operands.Cons (judged (places_at text known named a.context (Node form s parts)) (expand text known named a (Node form s parts))) Operands.Nil
  ]

  -- a part is shaped, by what it is
  abbrev pub IsShapedAs : Form.the_data → Span → Trees → Part → Type 0
  IsShapedAs form s parts p = elim p [ Outer ↦ AreShaped parts | Helper ↦ IsPlainHelper form parts × AreShaped parts | Whole ↦ IsShaped (Node form s parts) ]

  -- the first of operands
  record FirstAnswered (setting : Setting) (o a : Around) (form : Form.the_data) (s : Span) (parts : Trees) (is : List ℕ) (asked : List Question) : Type 0 where
    found : level_answers flat asked ≡ first-levels text known named a o form s parts (stands_outside form)
    kinds_are : kinds-in flat setting.frame is ≡ kinds (part-operands o a form s parts (part_of form))
    plain : AreExpressions flat is

  -- parts are answered, wherever they are asked of
  abbrev AnswersIn : Layout → Setting → (Meaning → Bool) → Around → Trees → Type 0
  AnswersIn layout setting seen around parts =
      (js : List ℕ) (bs : List Question) → AreOperands text means implied faces flat all_parts setting parts js bs
      → AreReadable text known named means implied faces layout.context layout.context parts → AreShaped parts → Fresh text seen (whole-names text parts)
      → AreAnswered setting around around js bs parts

  next-answered : (setting : Setting) (o a : Around) (form : Form.the_data) (s : Span) (parts rest : Trees) (is first others : List ℕ) (asked b c : List Question) → is ≡ first ++ others → asked ≡ b ++ c → FirstAnswered setting o a form s parts first b → AreAnswered setting o a others c rest → AreAnswered setting o a is asked (Cons (Node form s parts) rest)
  next-answered setting o a form s parts rest is first others asked b c parted asks one after =
      record {
        found = answers-parted flat asked b c _ _ asks one.found after.found ∙ sym (levels-next text known named a o form s parts rest (stands_outside form) refl);
        kinds_are =
            ap (kinds-in flat setting.frame) parted ∙ kinds-in-append flat setting.frame first others
            ∙ ap (λ ks. ks ++ kinds-in flat setting.frame others) one.kinds_are
            ∙ ap (λ ks. kinds (part-operands o a form s parts (part_of form)) ++ ks) after.kinds_are
            ∙ sym (kinds-append (part-operands o a form s parts (part_of form)) (operands text known named o a rest));
        plain = subst (AreExpressions flat) (sym parted) (expressions-append flat first others one.plain after.plain);
      }

  module _ (ordered : IsOrdered flat) where
    pub operands-answered : (parts : Trees) (outside inside : Layout) (setting : Setting) (seen : Meaning → Bool) (is : List ℕ) (asked : List Question) (o a : Around) → EachAnswered parts → NameModules text.source nameable parts → Round flat text known named means implied faces nameable outside setting seen o → Round flat text known named means implied faces nameable inside setting seen a → AreOperands text means implied faces flat all_parts setting parts is asked → AreReadable text known named means implied faces outside.context inside.context parts → AreShaped parts → Fresh text seen (whole-names text parts) → AreAnswered setting o a is asked parts
    operands-answered Nil outside inside setting seen is asked o a each names out round made can shaped fresh =
        record { found = ap (level_answers flat) made.1; kinds_are = ap (kinds-in flat setting.frame) made.0; plain = subst (AreExpressions flat) (sym made.0) tt }
    operands-answered (Cons (Node form s parts) rest) outside inside setting seen is asked o a each names out round (first, others, b, c, parted, asks, one, rest-made) can shaped fresh =
        next-answered setting o a form s parts rest is first others asked b c parted asks
        (by_part (part_of form) refl one can.0 shaped.0 (fresh-left text seen _ (whole-names text rest) fresh)
        (λ js bs made-in can-in shaped-in new. operands-answered parts outside outside setting seen js bs o o each.1 names.0.1 out out made-in can-in shaped-in new)
        (λ js bs made-in can-in shaped-in new. operands-answered parts inside inside setting seen js bs a a each.1 names.0.1 round round made-in can-in shaped-in new))
        (operands-answered rest outside inside setting seen others c o a each.2 names.1 out round rest-made can.1 shaped.1 (fresh-right text seen _ (whole-names text rest) fresh))
      where
        by_part : (p : Part) → part_of form ≡ p → IsMadeAs flat text known named means implied faces nameable setting form s parts first b p → IsReadAs flat text known named means implied faces nameable outside inside form s parts p → IsShapedAs form s parts p → IsNewAs flat text known named means implied faces nameable seen form s parts p → AnswersIn outside setting seen o parts → AnswersIn inside setting seen a parts → FirstAnswered setting o a form s parts first b
        by_part Outer e made can shaped new outer helper =
            let is-answered = outer first b made can shaped new in
            record {
              found = is-answered.found ∙ sym (ap (first-levels text known named a o form s parts) (outer-part form e));
              kinds_are = is-answered.kinds_are ∙ sym (ap (λ p. kinds (part-operands o a form s parts p)) e);
              plain = is-answered.plain;
            }
        by_part Helper e made can shaped new outer helper =
            let is-answered = helper first b made can shaped.1 new in
            let help = helper-part form e in
            record {
              found = is-answered.found ∙ sym (helper-levels text known named a form s parts help.1 shaped.0) ∙ sym (ap (first-levels text known named a o form s parts) help.0);
              kinds_are = is-answered.kinds_are ∙ sym (ap (λ p. kinds (part-operands o a form s parts p)) e);
              plain = is-answered.plain;
            }
        by_part Whole e (i, single, made) can shaped new outer helper =
            record {
              found = each.0 inside setting seen i b a round made can.1 shaped new ∙ sym (ap (first-levels text known named a o form s parts) (whole-part form e).0);
              kinds_are =
                  ap (kinds-in flat setting.frame) single
                  ∙ ap (λ k. k ∷ []) (kind-same flat text known named means implied faces nameable ordered inside setting seen a round (Node form s parts) i b names.0 made can.1 new)
                  ∙ sym (ap (λ p. kinds (part-operands o a form s parts p)) e);
              plain = subst (AreExpressions flat) (sym single) (node-places flat text known named means implied faces nameable ordered inside setting seen a round (Node form s parts) i b names.0 made can.1 new ∙ can.0, tt);
            }
