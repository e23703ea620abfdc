-- Which node a form becomes, by the nodes of what it is made of.
use Rattle.std.specs.Prelude.{ℕ, false, List, [], ◌∷◌, ◌++◌, Option, Some, None, if◌then◌else◌}
use Rattle.tla_symbols.specs.declared.level.Kind.TheVariants.{Const}
use Rattle.tla_symbols.specs.declared.level.Rule.{Rule}
use Rattle.tla_symbols.specs.declared.lexeme.LexKind.TheVariants as LexKind
use Rattle.tla_symbols.specs.declared.lexeme.Lexeme.{Lexeme}
use Rattle.tla_symbols.specs.declared.place.Fix.TheVariants.{Prefix, Infix, Postfix}
use Rattle.tla_tree.specs.declared.form.Form.TheVariants as Form
use Rattle.tla_tree.specs.Syntax.{Trees, Node, Nil, Cons}
use Rattle.tla_model.specs.Tables.{Named}
use Rattle.tla_model.specs.Entities.{Meaning}
use Rattle.tla_model.specs.Scopes.{is_free}
use Rattle.kind_text.specs.FlatModule.{Form as NodeForm, Node as FlatNode}
use Rattle.level_text.specs.FormRules.{form_rule, symbol_rule}
use Rattle.tree_kinds.specs.Standing.{operator_places}
use Rattle.tree_kinds.specs.Expanding.{bare_rule, built_in_places, is_bare}
use Rattle.tree_kinds.specs.TreeDepths.{path_names}
use Rattle.flat_trees.specs.Names.{places_by}
use Rattle.flattened_trees.specs.declared.End.TheVariants as end
use Rattle.flattened_trees.specs.Leads.{Lead, Leads, Setting, nowhere}

-- a node of this form, an expression
abbrev pub plain_node : NodeForm → List ℕ → FlatNode
plain_node form parts = record { form = form; places = None; parts = parts }

-- a constant, which stands where nothing else does, too
abbrev pub constant_node : FlatNode
constant_node = plain_node (NodeForm.Leaf Const) []

-- ---- names

-- a use of a definition behind a path, or the same as a bare operator with so many places
abbrev pub use_node : Option ℕ → List ℕ → ℕ → List ℕ → FlatNode
use_node None path d arguments = plain_node (NodeForm.Use path d) arguments
use_node (Some count) path d arguments = record { form = NodeForm.Name path d; places = Some count; parts = arguments }

-- an item at a place, or a call of it
abbrev pub place_node : ℕ → ℕ → List ℕ → FlatNode
place_node place order [] = record { form = NodeForm.Parameter place; places = places_by order; parts = [] }
place_node place order (i ∷ is) = plain_node (NodeForm.Call place) (i ∷ is)

-- a name that leads there, on all arguments; a bare operator, where it has places
abbrev pub name_node : Option ℕ → Lead → List ℕ → FlatNode
name_node places lead arguments = elim lead.end [
  | end.Nowhere ↦ constant_node
  | end.Leaf kind ↦ plain_node (NodeForm.Leaf kind) []
  | end.Place place order ↦ place_node place order arguments
  | end.Definition d ↦ use_node places lead.path d arguments
]

-- where something leads that may mean nothing
abbrev pub lead_of : Leads → Option Meaning → List Named → Lead
lead_of leads None names = nowhere
lead_of leads (Some meaning) names = leads meaning names

-- ---- forms

-- an operation with this rule
abbrev pub ruled_node : Option Rule → List ℕ → FlatNode
ruled_node None is = constant_node
ruled_node (Some rule) is = plain_node (NodeForm.Operation rule) is

-- the operands in the order of the rule: `WF_` and `SF_` are written with the subscript first
abbrev pub rule_order : Form.the_data → List ℕ → List ℕ
rule_order (Form.Fairness l) (subscript ∷ action ∷ []) = action ∷ subscript ∷ []
rule_order form is = is

-- the last of these, and then the others
abbrev pub last_first : List ℕ → List ℕ → List ℕ
last_first before [] = before
last_first before (i ∷ []) = i ∷ before
last_first before (i ∷ j ∷ is) = last_first (before ++ i ∷ []) (j ∷ is)

-- parentheses, and what stands in them
abbrev pub inside_node : List ℕ → FlatNode
inside_node [] = constant_node
inside_node (i ∷ is) = plain_node NodeForm.Let (i ∷ is)

-- LET: the body, and what stands in the definitions
abbrev pub let_node : Option ℕ → List ℕ → FlatNode
let_node None roots = constant_node
let_node (Some body) roots = plain_node NodeForm.Let (body ∷ roots)

-- the name of the last segment of a path
abbrev pub last_segment : Option Lexeme → Trees → Option Lexeme
last_segment before Nil = before
last_segment before (Cons (Node (Form.Segment l) s arguments) rest) = last_segment (Some l) rest
last_segment before (Cons x rest) = last_segment before rest

module _ (source : List ℕ) (means : ℕ → Option Meaning) where
  -- what the name means that a lexeme is
  abbrev pub meant_at : Option Lexeme → Option Meaning
  meant_at None = None
  meant_at (Some l) = means l.span.start

  -- the places of a path that is a bare operator
  abbrev pub path_places : Trees → Option ℕ
  path_places segments = if is_bare false segments then operator_places (meant_at (last_segment None segments)) else None

  -- a path of names, on all arguments
  abbrev pub path_node : Setting → Trees → List ℕ → FlatNode
  path_node setting (Cons (Node (Form.Segment l) s arguments) rest) is =
      name_node (path_places (Cons (Node (Form.Segment l) s arguments) rest)) (lead_of setting.leads (means l.span.start) (path_names source rest)) is
  path_node setting _ is = constant_node

  -- the places of a bare symbol
  abbrev pub bare_places : Lexeme → LexKind.the_data → Option ℕ
  bare_places l (LexKind.Sym op) = if is_free op then operator_places (means l.span.start) else Some (built_in_places op)
  bare_places l _ = None

  -- a bare symbol
  abbrev pub bare_node : Setting → Lexeme → Option Rule → FlatNode
  bare_node setting l (Some rule) = record { form = NodeForm.Symbol rule; places = bare_places l l.kind; parts = [] }
  bare_node setting l None = name_node (bare_places l l.kind) (lead_of setting.leads (means l.span.start) []) []

  -- a symbol on operands: an operation, where it is built in
  abbrev pub operator_node : Setting → Lexeme → Option Rule → List ℕ → FlatNode
  operator_node setting l (Some rule) is = plain_node (NodeForm.Operation rule) is
  operator_node setting l None is = name_node None (lead_of setting.leads (means l.span.start) []) is

  -- the node of a form, by the nodes of the expressions that it is made of, in the order of the text
  abbrev pub form_node : Setting → Form.the_data → Trees → List ℕ → FlatNode
  form_node setting Form.Identifier parts is = path_node setting parts is
  form_node setting (Form.Number l) parts is = constant_node
  form_node setting (Form.Text l) parts is = constant_node
  form_node setting (Form.At l) parts is = plain_node NodeForm.Old setting.olds
  form_node setting (Form.Symbol l) parts is = bare_node setting l (bare_rule l.kind)
  form_node setting (Form.Prefix l) parts is = operator_node setting l (symbol_rule Prefix l.kind) is
  form_node setting (Form.Infix l) parts is = operator_node setting l (symbol_rule Infix l.kind) is
  form_node setting (Form.Postfix l) parts is = operator_node setting l (symbol_rule Postfix l.kind) is
  form_node setting Form.Parentheses parts is = inside_node is
  form_node setting (Form.BoundedQuantifier l) parts is = plain_node NodeForm.Bounded (last_first [] is)
  form_node setting form parts is = ruled_node (form_rule form) (rule_order form is)
