-- Nodes that are made of trees, form by form.
use Rattle.std.proofs.Common.{◌≡◌, ℕ, List, Option, Some, None, refl, sym, ap, ◌∙◌}
use mathlib.Core.Path.{fun_ext}
use Rattle.tla_symbols.specs.declared.level.Rule.{Rule}
use Rattle.tla_symbols.specs.declared.level.Rule.TheVariants.{Plain, Boolean}
use Rattle.tla_symbols.specs.declared.place.Fix.TheVariants.{Prefix, Infix, Postfix}
use Rattle.tla_tree.specs.declared.form.Form.TheVariants as Form
use Rattle.tla_tree.specs.Syntax.{Tree, Node}
use Rattle.tla_model.specs.Tables.{Named}
use Rattle.tla_model.specs.Entities.{Text}
use Rattle.tla_model.specs.Scopes.{prefixed, itself as as_spelled}
use Rattle.module_model.specs.Exports.{Known}
use Rattle.kind_text.specs.ExpandedKind.{Operands, Ruled}
use Rattle.kind_text.specs.FlatModule.{FlatModule, Form as NodeForm}
use Rattle.kind_text.specs.Expansion.{Earlier, bounded, form_item, items as items_at}
use Rattle.kind_text.specs.Substitution.{Item, expression, expressions, operator, texts}
use Rattle.level_text.specs.FormRules.{form_rule, rule_operands, symbol_rule}
use Rattle.tree_kinds.specs.Standing.{Outside}
use Rattle.tree_kinds.specs.Expanding.{Around, bare_rule, before_scope, changed, expand, in_scope, items, operands, ruled_text, symbol_name, symbol_text}
use Rattle.tree_kinds.specs.Making.{IsMade, IsOperation, IsSymbol}

pub texts-expressions : (ts : Operands) → texts (expressions ts) ≡ ts
texts-expressions Operands.Nil = refl
texts-expressions (Operands.Cons t ts) = ap (Operands.Cons t) (texts-expressions ts)

module _ (flat : FlatModule) (f : Earlier) (form : NodeForm) (is : List ℕ) (s : List Item) where
  operation : (o : Option Rule) (us : Operands) → IsOperation o us form (items_at f is s) → form_item flat f form is s ≡ expression (ruled_text o us)
  operation None us made = absurd made
  operation (Some rule) us made = ap (λ g. form_item flat f g is s) made.0 ∙ ap (λ ts. expression (Ruled rule ts)) made.1

  symbol-operation : (around : Around) (o : Option Rule) (name : Option Named) (xs : List Item) → IsOperation o (texts xs) form (items_at f is s) → form_item flat f form is s ≡ expression (symbol_text around o name xs)
  symbol-operation around None name xs made = absurd made
  symbol-operation around (Some rule) name xs made = ap (λ g. form_item flat f g is s) made.0 ∙ ap (λ ts. expression (Ruled rule ts)) made.1

  bare-symbol : (around : Around) (o : Option Rule) (name : Option Named) → IsSymbol o form (items_at f is s) → form_item flat f form is s ≡ operator (λ ts. symbol_text around o name (expressions ts))
  bare-symbol around None name made = absurd made
  bare-symbol around (Some rule) name made =
      ap (λ g. form_item flat f g is s) made ∙ ap operator (fun_ext (λ ts. sym (ap (Ruled rule) (texts-expressions ts))))

  module _ (text : Text) (known : Known) (named : List ℕ → Outside) (around : Around) where
    pub made-form : (x : Tree) → IsMade text known named around x form (items_at f is s) → form_item flat f form is s ≡ expand text known named around x
    made-form (Node Form.Identifier sp parts) made = absurd made
    made-form (Node (Form.Number l) sp parts) made = ap (λ g. form_item flat f g is s) made
    made-form (Node (Form.Text l) sp parts) made = ap (λ g. form_item flat f g is s) made
    made-form (Node (Form.At l) sp parts) made = ap (λ g. form_item flat f g is s) made.0 ∙ ap (λ ts. expression (Ruled Boolean ts)) made.1
    made-form (Node (Form.Symbol l) sp parts) made = bare-symbol around (bare_rule l.kind) (symbol_name as_spelled l.kind) made
    made-form (Node (Form.Prefix l) sp parts) made = symbol-operation around (symbol_rule Prefix l.kind) (symbol_name prefixed l.kind) (items text known named around parts) made
    made-form (Node (Form.Infix l) sp parts) made = symbol-operation around (symbol_rule Infix l.kind) (symbol_name as_spelled l.kind) (items text known named around parts) made
    made-form (Node (Form.Postfix l) sp parts) made = symbol-operation around (symbol_rule Postfix l.kind) (symbol_name as_spelled l.kind) (items text known named around parts) made
    made-form (Node Form.Parentheses sp parts) made = absurd made
    made-form (Node Form.Let sp parts) made = absurd made
    made-form (Node Form.Except sp parts) made = operation (Some Plain) (changed text known named around parts) made
    made-form (Node (Form.BoundedQuantifier l) sp parts) made = ap (λ g. form_item flat f g is s) made.0 ∙ ap (λ ts. expression (bounded ts)) made.1
    made-form (Node written sp parts) made =
        operation (form_rule written) (rule_operands written (operands text known named (before_scope text known named around written parts) (in_scope text known named around written parts) parts)) made
