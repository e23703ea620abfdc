-- What nodes answer is what their trees answer.
use Rattle.std.proofs.Common.{◌≡◌, ℕ, suc, List, [], ◌∷◌, ◌++◌, Option, Some, None, refl, sym, ap, ◌∙◌, map}
use Rattle.std.specs.Prelude.{◌&&◌, if◌then◌else◌, is_some, max, not, slice_get}
use Rattle.tla_model.specs.Entities.{Meaning}
use Rattle.order_rec.specs.Earlier.{before}
use Rattle.order_rec.proofs.Order.{along-step}
use Rattle.kind_text.specs.ExpandedKind.{kind}
use Rattle.kind_text.specs.FlatModule.{Definition, FlatModule, Form, Instance, IsOrdered, Node, Replacement, places_of}
use Rattle.kind_text.specs.Substitution.{judged}
use Rattle.level_text.specs.Depth as flat_depth
use Rattle.level_text.specs.Depth.{depth, greatest, is_too_deep}
use Rattle.tree_kinds.specs.TreeLevels.{Leveled, NotConstant, Refused, TooHigh, is_above, level_word}
use Rattle.flattened_trees.specs.Answers as flat_answers
use Rattle.flattened_trees.specs.Answers.{items_of}
use Rattle.flattened_trees.specs.Questions as flat_questions
use Rattle.resolved_trees.specs.Resolved.{Missing, definition_at, depth_of, form_at, greatest_replaced, instance_at, node_at, parts_at, places_in, replacements_at, resolved}
use Rattle.resolved_trees.proofs.Deep.{depths-told}
use Rattle.resolved_trees.proofs.Kept.{tree-step}
use Rattle.resolved_trees.proofs.Known.{node-places, tree_step}
use Rattle.resolved_trees.proofs.Telling.{expansions-told}
use Rattle.written_questions.specs.Answers.{deep_answer, deep_answers, have_kinds, instance_depth, kind_over, level_answer, level_answers, parts_have_kinds, parts_of}
use Rattle.written_questions.specs.Questions.{asked_in, questions_in}

module _ (flat : FlatModule) where
  -- a tree has the places of its node
  places-told : (i : ℕ) → places_of (slice_get flat.nodes i) ≡ places_in (resolved flat i)
  places-told i = sym (ap places_in (along-step Missing (tree_step flat) i) ∙ node-places flat (before Missing (resolved flat) i) (slice_get flat.nodes i))

  kind-told : (frame : List Meaning) (i : ℕ) → flat_answers.kind_in flat frame i ≡ kind_over frame (resolved flat i)
  kind-told frame i = let places = places-told i in let tree = expansions-told flat i in λ k. kind (judged (places k) (tree k (items_of frame)))

  kinds-told : (frame : List Meaning) (is : List ℕ) → flat_answers.have_kinds flat frame is ≡ have_kinds frame (parts_at flat (resolved flat) is)
  kinds-told frame [] = refl
  kinds-told frame (i ∷ is) = let first = kind-told frame i in let rest = kinds-told frame is in λ k. is_some (first k) && rest k

  form-parts : (form : Form) (places : Option ℕ) (is : List ℕ) → parts_of (form_at flat (resolved flat) form places is) ≡ Some (parts_at flat (resolved flat) is)
  form-parts (Form.Leaf kind) places is = refl
  form-parts (Form.Parameter place) places is = refl
  form-parts (Form.Call place) places is = refl
  form-parts (Form.Operation rule) places is = refl
  form-parts Form.Bounded places is = refl
  form-parts Form.Old places is = refl
  form-parts Form.Let places is = refl
  form-parts (Form.Use path d) places is = refl
  form-parts (Form.Name path d) places is = refl
  form-parts (Form.Symbol rule) places is = refl
  form-parts (Form.Lambda d) places is = refl

  parts-told : IsOrdered flat → (frame : List Meaning) (i : ℕ) → flat_answers.parts_have_kinds flat frame (slice_get flat.nodes i) ≡ parts_have_kinds frame (parts_of (resolved flat i))
  parts-told ordered frame i = by (slice_get flat.nodes i) refl
    where
      by : (o : Option Node) → slice_get flat.nodes i ≡ o → flat_answers.parts_have_kinds flat frame (slice_get flat.nodes i) ≡ parts_have_kinds frame (parts_of (resolved flat i))
      by None e =
          ap (flat_answers.parts_have_kinds flat frame) e
          ∙ sym (ap (λ x. parts_have_kinds frame (parts_of x)) (along-step Missing (tree_step flat) i ∙ ap (node_at flat (before Missing (resolved flat) i)) e))
      by (Some node) e =
          ap (flat_answers.parts_have_kinds flat frame) e ∙ kinds-told frame node.parts
          ∙ sym (ap (parts_have_kinds frame) (ap parts_of (tree-step flat i node ordered e) ∙ form-parts node.form node.places node.parts))

  level-told : IsOrdered flat → (frame : List Meaning) (asked : flat_questions.Asked) → flat_answers.level_answer flat frame asked ≡ level_answer frame (asked_in flat asked)
  level-told ordered frame (flat_questions.UseOf l i) = ap (λ k. Leveled l (level_word k) ∷ []) (kind-told frame i)
  level-told ordered frame (flat_questions.UseAs l level) = refl
  level-told ordered frame (flat_questions.HasKind s i) =
      let own = kind-told frame i in let parts = parts-told ordered frame i in λ k. if not (is_some (own k)) && parts k then Refused s ∷ [] else []
  level-told ordered frame (flat_questions.IsAtMost s i most) = ap (λ k. if is_above most k then TooHigh s ∷ [] else []) (kind-told frame i)
  level-told ordered frame (flat_questions.IsShallow l d) = refl
  level-told ordered frame (flat_questions.IsShallowInstance l j) = refl
  level-told ordered frame (flat_questions.IsShallowNode l i) = refl
  level-told ordered frame (flat_questions.IsConstant s i) = ap (λ k. if is_above 0 k then NotConstant s ∷ [] else []) (kind-told frame i)

  pub levels-told : IsOrdered flat → (asked : List flat_questions.Question) → flat_answers.level_answers flat asked ≡ level_answers (questions_in flat asked)
  levels-told ordered [] = refl
  levels-told ordered (q ∷ rest) = let first = level-told ordered q.frame q.asked in let more = levels-told ordered rest in λ k. first k ++ more k

  -- ---- depths

  definition-told : (o : Option Definition) → flat_depth.depth_of (depth flat) o ≡ depth_of (definition_at flat (resolved flat) o)
  definition-told None = refl
  definition-told (Some x) = ap suc (depths-told flat x.root)

  roots-told : (rs : List Replacement) → greatest (depth flat) (map (λ r. r.root) rs) ≡ greatest_replaced (replacements_at flat (resolved flat) rs)
  roots-told [] = refl
  roots-told (r ∷ rs) = let first = depths-told flat r.root in let rest = roots-told rs in λ k. max (first k) (rest k)

  instance-told : (o : Option Instance) → flat_depth.instance_depth (depth flat) o ≡ instance_depth (instance_at flat (resolved flat) o)
  instance-told None = refl
  instance-told (Some x) = ap suc (roots-told x.replacements)

  deep-told : (asked : flat_questions.Asked) → flat_answers.deep_answer flat asked ≡ deep_answer (asked_in flat asked)
  deep-told (flat_questions.IsShallow l d) = ap (λ n. if is_too_deep n then l ∷ [] else []) (definition-told (slice_get flat.definitions d))
  deep-told (flat_questions.IsShallowInstance l j) = ap (λ n. if is_too_deep n then l ∷ [] else []) (instance-told (slice_get flat.instances j))
  deep-told (flat_questions.IsShallowNode l i) = ap (λ n. if is_too_deep n then l ∷ [] else []) (depths-told flat i)
  deep-told (flat_questions.UseOf l i) = refl
  deep-told (flat_questions.UseAs l level) = refl
  deep-told (flat_questions.HasKind s i) = refl
  deep-told (flat_questions.IsAtMost s i most) = refl
  deep-told (flat_questions.IsConstant s i) = refl

  pub depths-answered : (asked : List flat_questions.Question) → flat_answers.deep_answers flat asked ≡ deep_answers (questions_in flat asked)
  depths-answered [] = refl
  depths-answered (q ∷ rest) = let first = deep-told q.asked in let more = depths-answered rest in λ k. first k ++ more k
