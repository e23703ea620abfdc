-- How the node of a form is made.
use Rattle.std.specs.Prelude.{ℕ, List, [], ◌∷◌, Option, Some, None}
use Rattle.tla_symbols.specs.declared.place.Fix.TheVariants as fix
use Rattle.tla_symbols.specs.declared.lexeme.Lexeme.{Lexeme}
use Rattle.tla_tree.specs.declared.form.Form.TheVariants as Form
use Rattle.tla_tree.specs.Syntax.{Trees, Node, Nil, Cons}
use Rattle.tla_model.specs.Tables.{Named}
use Rattle.tla_model.specs.Entities.{Meaning, name_of}
use Rattle.kind_text.specs.FlatModule.{Form as NodeForm, Node as FlatNode}
use Rattle.level_text.specs.FormRules.{form_rule, symbol_rule}
use Rattle.tree_kinds.specs.Expanding.{bare_rule}
use Rattle.flattened_trees.specs.Leads.{Setting}
use Rattle.flattened_trees.specs.NodeForms.{bare_node, constant_node, rule_order, inside_node, last_first, operator_node, path_node, plain_node, ruled_node}
use Rattle.tree_flattener.specs.declared.shapes.Making.TheVariants as making
use Rattle.tree_flattener.specs.declared.shapes.Shape.TheVariants as shape

-- how the node of a form is made
abbrev pub making_of : Form.the_data → making.the_data
making_of Form.Identifier = making.Path
making_of (Form.Number l) = making.Constant
making_of (Form.Text l) = making.Constant
making_of (Form.At l) = making.Old
making_of (Form.Symbol l) = making.Bare l
making_of (Form.Prefix l) = making.Operator fix.Prefix l
making_of (Form.Infix l) = making.Operator fix.Infix l
making_of (Form.Postfix l) = making.Operator fix.Postfix l
making_of Form.Parentheses = making.Inside
making_of (Form.BoundedQuantifier l) = making.Bounded
making_of form = making.Ruled

-- the node that is made so
abbrev pub made_node : List ℕ → (ℕ → Option Meaning) → Setting → making.the_data → Form.the_data → Trees → List ℕ → FlatNode
made_node source means setting making.Path form parts is = path_node source means setting parts is
made_node source means setting making.Constant form parts is = constant_node
made_node source means setting making.Old form parts is = plain_node NodeForm.Old setting.olds
made_node source means setting (making.Bare l) form parts is = bare_node source means setting l (bare_rule l.kind)
made_node source means setting (making.Operator at l) form parts is = operator_node source means setting l (symbol_rule at l.kind) is
made_node source means setting making.Inside form parts is = inside_node is
made_node source means setting making.Bounded form parts is = plain_node NodeForm.Bounded (last_first [] is)
made_node source means setting making.Ruled form parts is = ruled_node (form_rule form) (rule_order form is)

-- which trees are walked in a way of their own: LET, and an EXCEPT with a function
abbrev pub shape_of : Form.the_data → List ℕ → shape.the_data
shape_of Form.Let children = shape.Let
shape_of Form.Except (function ∷ updates) = shape.Except function
shape_of form children = shape.Plain

-- the name of a segment
abbrev pub segment_of : Form.the_data → Option Lexeme
segment_of (Form.Segment l) = Some l
segment_of form = None

-- the same as a list of names
abbrev pub names_of : List ℕ → Option Lexeme → List Named
names_of source None = []
names_of source (Some l) = name_of source l ∷ []

-- the second of two, and then the first
abbrev pub swapped : List ℕ → List ℕ
swapped (first ∷ second ∷ []) = second ∷ first ∷ []
swapped is = is

-- the name of the first segment of a path
abbrev pub head_of : Trees → Option Lexeme
head_of Nil = None
head_of (Cons (Node form s parts) rest) = segment_of form

-- the left side of a replacement
abbrev pub left_of : Form.the_data → Option Lexeme
left_of (Form.Replacement l) = Some l
left_of form = None

-- the name of the module of an INSTANCE
abbrev pub module_of : Form.the_data → Option Lexeme
module_of (Form.Instance l) = Some l
module_of form = None
