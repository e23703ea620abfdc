-- When a node of a flat module has the form of a written tree, over parts that are what the tree is made of. Of names, and of
-- symbols that are defined, nothing is said here: these are made by what stands for them. Nor is it of parentheses and of LET,
-- which are made by what they are round.
use Rattle.std.specs.Prelude.{◌≡◌, ℕ, List, Option, Some, None}
use Rattle.tla_symbols.specs.declared.level.Kind.TheVariants.{Const}
use Rattle.tla_symbols.specs.declared.level.Rule.{Rule}
use Rattle.tla_symbols.specs.declared.level.Rule.TheVariants.{Plain}
use Rattle.tla_symbols.specs.declared.place.Fix.TheVariants.{Prefix, Infix, Postfix}
use Rattle.tla_tree.specs.declared.form.Form.TheVariants as Form
use Rattle.tla_tree.specs.Syntax.{Tree, Node}
use Rattle.tla_model.specs.Entities.{Text}
use Rattle.module_model.specs.Exports.{Known}
use Rattle.kind_text.specs.ExpandedKind.{Operands}
use Rattle.kind_text.specs.FlatModule.{Form as NodeForm}
use Rattle.kind_text.specs.Substitution.{Item, texts}
use Rattle.level_text.specs.FormRules.{form_rule, rule_operands, symbol_rule}
use Rattle.tree_kinds.specs.Standing.{Outside}
use Rattle.tree_kinds.specs.Expanding.{Around, bare_rule, before_scope, changed, in_scope, inner, items, operands, outer_operands}

-- what is said of a node, by its form and by the items of its parts
abbrev pub Made : Type 1
Made = NodeForm → List Item → Type 0

-- an operation with this rule on these operands, where there is a rule
abbrev pub IsOperation : Option Rule → Operands → Made
IsOperation None us form parts = ⊥
IsOperation (Some rule) us form parts = (form ≡ NodeForm.Operation rule) × (texts parts ≡ us)

-- a bare symbol with this rule, if it is built in
abbrev pub IsSymbol : Option Rule → Made
IsSymbol None form parts = ⊥
IsSymbol (Some rule) form parts = form ≡ NodeForm.Symbol rule

module _ (text : Text) (known : Known) (named : List ℕ → Outside) where
  -- the node has the form of a written tree, over parts that are what the tree is made of
  abbrev pub IsMade : Around → Tree → Made
  IsMade around (Node Form.Identifier s parts) form made = ⊥
  IsMade around (Node (Form.Number l) s parts) form made = form ≡ NodeForm.Leaf Const
  IsMade around (Node (Form.Text l) s parts) form made = form ≡ NodeForm.Leaf Const
  IsMade around (Node (Form.At l) s parts) form made = (form ≡ NodeForm.Old) × (texts made ≡ around.old)
  IsMade around (Node (Form.Symbol l) s parts) form made = IsSymbol (bare_rule l.kind) form made
  IsMade around (Node (Form.Prefix l) s parts) form made = IsOperation (symbol_rule Prefix l.kind) (texts (items text known named around parts)) form made
  IsMade around (Node (Form.Infix l) s parts) form made = IsOperation (symbol_rule Infix l.kind) (texts (items text known named around parts)) form made
  IsMade around (Node (Form.Postfix l) s parts) form made = IsOperation (symbol_rule Postfix l.kind) (texts (items text known named around parts)) form made
  IsMade around (Node Form.Parentheses s parts) form made = ⊥
  IsMade around (Node Form.Let s parts) form made = ⊥
  IsMade around (Node Form.Except s parts) form made = IsOperation (Some Plain) (changed text known named around parts) form made
  IsMade around (Node (Form.BoundedQuantifier l) s parts) form made =
      (form ≡ NodeForm.Bounded)
      × (texts made ≡ Operands.Cons (inner text known named (in_scope text known named around (Form.BoundedQuantifier l) parts) parts).text (outer_operands text known named (before_scope text known named around (Form.BoundedQuantifier l) parts) parts))
  IsMade around (Node written s parts) form made =
      IsOperation (form_rule written) (rule_operands written (operands text known named (before_scope text known named around written parts) (in_scope text known named around written parts) parts)) form made
