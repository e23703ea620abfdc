-- Nodes of forms are built of these, but for LET.
use Rattle.std.proofs.Common.{◌≡◌, ℕ, Bool, true, false, List, [], ◌∷◌, ◌++◌, Option, Some, None, refl, sym, ap, ◌∙◌, subst, arith}
use Rattle.std.specs.Prelude.{is_some}
use Rattle.tla_symbols.specs.declared.lexeme.Lexeme.{Lexeme}
use Rattle.tla_symbols.specs.declared.lexeme.Span.{Span}
use Rattle.tla_symbols.specs.declared.level.Rule.{Rule}
use Rattle.tla_tree.specs.declared.form.Form.TheVariants as Form
use Rattle.tla_tree.specs.Syntax.{Trees, Node}
use Rattle.tla_model.specs.declared.names.Binding.TheVariants as as_binding
use Rattle.tla_model.specs.Entities.{Meaning, Text, binding_of, declared_in, defined}
use Rattle.tla_model.specs.Scopes.{binders, reserved, scope}
use Rattle.module_model.specs.Exports.{Known}
use Rattle.kind_text.specs.ExpandedKind.{Operands}
use Rattle.kind_text.specs.FlatModule.{FlatModule}
use Rattle.kind_text.specs.Expansion.{items as items_at, text as text_at}
use Rattle.kind_text.specs.Substitution.{Item}
use Rattle.level_text.specs.FormRules.{form_rule, rule_operands}
use Rattle.tree_kinds.specs.Standing.{Outside}
use Rattle.tree_kinds.specs.Expanding.{Around, before_scope, in_scope, inner, operands, outer_operands}
use Rattle.tree_kinds.specs.Making.{IsOperation}
use Rattle.flat_trees.specs.Names.{IsInside}
use Rattle.flat_trees.specs.Layouts.{Agrees, Layout, layout_before, layout_in}
use Rattle.flat_trees.proofs.Agreeing.{before-agrees, scope-agrees}
use Rattle.flattened_trees.specs.Leads.{FlatFace, Setting}
use Rattle.flattened_trees.specs.Questions.{Question}
use Rattle.flattened_trees.specs.NodeForms.{rule_order, inside_node, last_first, ruled_node}
use Rattle.flattened_trees.specs.Flattened.{AreOperands, all_parts}
use Rattle.flattened_trees.specs.Readable.{AreInside, AreReadable, EndsWhole}
use Rattle.flattened_meanings.proofs.Fresh.{Fresh, fresh-among, fresh-less, scope-within, seen-with, whole-names}
use Rattle.flattened_meanings.proofs.Rounds.{Knows, before-known, scope-known}
use Rattle.flattened_meanings.proofs.Operands.{Each, given, nodes-nil, operands-given}
use Rattle.flattened_meanings.proofs.Bodies.{ends, nodes-apart}

-- ---- forms

-- what has a rule binds no parameters
pub bound-form : (form : Form.the_data) → is_some (form_rule form) ≡ true → (state : Bool) × (binding_of form ≡ as_binding.Bound state)
bound-form (Form.TemporalQuantifier l) e = (true, refl)
bound-form (Form.OperatorDefinition l) e = cc
bound-form (Form.PrefixDefinition l) e = cc
bound-form (Form.InfixDefinition l) e = cc
bound-form (Form.PostfixDefinition l) e = cc
bound-form (Form.ModuleDefinition l) e = cc
bound-form Form.Lambda e = cc
bound-form form e = (false, refl)

last-behind : (before outers : List ℕ) (body : ℕ) → last_first before (outers ++ (body ∷ [])) ≡ body ∷ (before ++ outers)
last-behind before [] body = ap (λ js. body ∷ js) (sym (nodes-nil before))
last-behind before (o ∷ []) body = refl
last-behind before (o ∷ (p ∷ outers)) body = last-behind (before ++ (o ∷ [])) (p ∷ outers) body ∙ ap (λ js. body ∷ js) (nodes-apart before (o ∷ []) (p ∷ outers))

-- ---- what is new

module _ (text : Text) (seen : Meaning → Bool) (form : Form.the_data) (s : Span) (parts : Trees) (fresh : Fresh text seen (declared_in as_binding.Constant (Node form s parts))) where
  pub wholes-fresh : Fresh text seen (whole-names text parts)
  wholes-fresh = fresh-less text seen (declared_in as_binding.Constant (Node form s parts)) (whole-names text parts) fresh (λ m. let a = scope-within text m form s parts in omega (arith, a))

  pub names-fresh : Fresh text seen (defined form parts ++ binders form parts)
  names-fresh = fresh-less text seen (declared_in as_binding.Constant (Node form s parts)) (defined form parts ++ binders form parts) fresh (λ m. let a = scope-within text m form s parts in omega (arith, a))

  pub scope-fresh : Fresh text (seen-with text (defined form parts ++ binders form parts) seen) (whole-names text parts)
  scope-fresh = fresh-among text seen (declared_in as_binding.Constant (Node form s parts)) (defined form parts ++ binders form parts) (whole-names text parts) fresh (λ m. scope-within text m form s parts)

module _ (flat : FlatModule) (text : Text) (known : Known) (named : List ℕ → Outside) (means : ℕ → Option Meaning) (implied : ℕ → List Meaning) (faces : List ℕ → FlatFace) (nameable : List ℕ → Bool) where
  ordered-given : (form : Form.the_data) (is : List ℕ) (s : List Item) → given flat text known named means implied faces nameable (rule_order form is) s ≡ rule_operands form (given flat text known named means implied faces nameable is s)
  ordered-given (Form.Fairness l) [] s = refl
  ordered-given (Form.Fairness l) (i ∷ []) s = refl
  ordered-given (Form.Fairness l) (i ∷ (j ∷ [])) s = refl
  ordered-given (Form.Fairness l) (i ∷ (j ∷ (k ∷ is))) s = refl
  ordered-given form is s = refl

  module _ (layout : Layout) (setting : Setting) (seen : Meaning → Bool) (knows : Knows flat text known named faces nameable layout setting seen) where
    pub ruled-built : (form : Form.the_data) (s : Span) (parts : Trees) (is : List ℕ) (asked : List Question) → Each flat text known named means implied faces nameable parts → AreOperands text means implied faces flat all_parts setting parts is asked → is_some (form_rule form) ≡ true → AreReadable text known named means implied faces (reserved text layout.context form parts) (scope text layout.context form parts) parts → Fresh text seen (declared_in as_binding.Constant (Node form s parts)) → (frame more : List Item) (around : Around) → Agrees flat layout frame around → IsOperation (form_rule form) (rule_operands form (operands text known named (before_scope text known named around form parts) (in_scope text known named around form parts) parts)) (ruled_node (form_rule form) (rule_order form is)).form (items_at (text_at flat) (ruled_node (form_rule form) (rule_order form is)).parts (frame ++ more))
    ruled-built form s parts is asked each made some can fresh frame more around agrees =
        let bound = bound-form form some in
        let names = names-fresh text seen form s parts fresh in
        let outside = before-known flat text known named faces nameable layout setting seen knows form s parts names in
        let inside = scope-known flat text known named faces nameable layout setting seen knows form s parts names bound.0 bound.1 in
        let o = before_scope text known named around form parts in
        let a = in_scope text known named around form parts in
        let same = operands-given flat text known named means implied faces nameable parts (layout_before text layout form parts) (layout_in text layout form parts) setting (seen-with text (defined form parts ++ binders form parts) seen) is asked each outside inside made can (scope-fresh text seen form s parts fresh) frame more o a
        (before-agrees flat text known named layout frame around agrees form parts) (scope-agrees flat text known named layout frame around agrees form parts) in
        by_rule (form_rule form) some (ordered-given form is (frame ++ more) ∙ ap (rule_operands form) same)
      where
        by_rule : (rule : Option Rule) → is_some rule ≡ true → given flat text known named means implied faces nameable (rule_order form is) (frame ++ more) ≡ rule_operands form (operands text known named (before_scope text known named around form parts) (in_scope text known named around form parts) parts) → IsOperation rule (rule_operands form (operands text known named (before_scope text known named around form parts) (in_scope text known named around form parts) parts)) (ruled_node rule (rule_order form is)).form (items_at (text_at flat) (ruled_node rule (rule_order form is)).parts (frame ++ more))
        by_rule None e same = cc
        by_rule (Some rule) e same = (refl, same)

    pub bounded-given : (l : Lexeme) (s : Span) (parts : Trees) (is : List ℕ) (asked : List Question) → Each flat text known named means implied faces nameable parts → AreOperands text means implied faces flat all_parts setting parts is asked → EndsWhole parts → AreReadable text known named means implied faces (reserved text layout.context (Form.BoundedQuantifier l) parts) (scope text layout.context (Form.BoundedQuantifier l) parts) parts → Fresh text seen (declared_in as_binding.Constant (Node (Form.BoundedQuantifier l) s parts)) → (frame more : List Item) (around : Around) → Agrees flat layout frame around → given flat text known named means implied faces nameable (last_first [] is) (frame ++ more) ≡ Operands.Cons (inner text known named (in_scope text known named around (Form.BoundedQuantifier l) parts) parts).text (outer_operands text known named (before_scope text known named around (Form.BoundedQuantifier l) parts) parts)
    bounded-given l s parts is asked each made whole can fresh frame more around agrees =
        let form : Form.the_data = Form.BoundedQuantifier l in
        let names = names-fresh text seen form s parts fresh in
        let outside = before-known flat text known named faces nameable layout setting seen knows form s parts names in
        let inside = scope-known flat text known named faces nameable layout setting seen knows form s parts names false refl in
        let o = before_scope text known named around form parts in
        let a = in_scope text known named around form parts in
        let e = ends flat text known named means implied faces nameable parts (layout_before text layout form parts) (layout_in text layout form parts) setting (seen-with text (defined form parts ++ binders form parts) seen) is asked each outside inside whole made can (scope-fresh text seen form s parts fresh) in
        ap (λ js. given flat text known named means implied faces nameable js (frame ++ more)) (ap (last_first []) e.parted ∙ last-behind [] e.outers e.body)
        ∙ ap (λ t. Operands.Cons t (given flat text known named means implied faces nameable e.outers (frame ++ more))) (e.means_body frame more a (scope-agrees flat text known named layout frame around agrees form parts))
        ∙ ap (Operands.Cons (inner text known named a parts).text) (e.means_outers frame more o (before-agrees flat text known named layout frame around agrees form parts))

    pub inside-built : (s : Span) (parts : Trees) (is : List ℕ) (asked : List Question) → Each flat text known named means implied faces nameable parts → AreOperands text means implied faces flat all_parts setting parts is asked → EndsWhole parts → AreInside parts → AreReadable text known named means implied faces layout.context layout.context parts → Fresh text seen (whole-names text parts) → (frame more : List Item) (around : Around) → Agrees flat layout frame around → IsInside (inner text known named around parts) (inside_node is).form (items_at (text_at flat) (inside_node is).parts (frame ++ more))
    inside-built s parts is asked each made whole only can fresh frame more around agrees =
        let e = ends flat text known named means implied faces nameable parts layout layout setting seen is asked each knows knows whole made can fresh in
        let one : is ≡ e.body ∷ [] = e.parted ∙ ap (λ js. js ++ (e.body ∷ [])) (e.inside_only only) in
        subst (λ js. IsInside (inner text known named around parts) (inside_node js).form (items_at (text_at flat) (inside_node js).parts (frame ++ more))) (sym one)
        (text_at flat e.body (frame ++ more), [], refl, refl, e.means_body frame more around agrees)
