-- The resolved trees of what is written: of expressions, and where the names of definitions lead.
use Rattle.std.specs.Prelude.{ℕ, zero, suc, Bool, true, false, List, [], ◌∷◌, ◌++◌, Option, Some, None, drop, if◌then◌else◌, length, slice_get}
use Rattle.tla_symbols.specs.declared.level.Kind.TheVariants.{Const}
use Rattle.tla_symbols.specs.declared.level.Rule.{Rule}
use Rattle.tla_symbols.specs.declared.level.Rule.TheVariants as rule
use Rattle.tla_symbols.specs.declared.lexeme.Lexeme.{Lexeme}
use Rattle.tla_symbols.specs.declared.lexeme.Span.{Span}
use Rattle.tla_symbols.specs.declared.place.Fix.TheVariants.{Prefix, Infix, Postfix}
use Rattle.tla_tree.specs.declared.form.Form.TheVariants as Form
use Rattle.tla_tree.specs.Forms.{helps}
use Rattle.tla_tree.specs.Syntax.{Tree, Trees, Node as TreeNode, Nil as NoTrees, Cons as ConsTree}
use Rattle.tla_model.specs.Tables.{Named, same_named}
use Rattle.tla_model.specs.Entities.{Meaning, Text, Nothing, Operator, Function, Module, defines, name_of}
use Rattle.tla_model.specs.Lexemes.{spelled}
use Rattle.module_model.specs.Exports.{Exports}
use Rattle.level_text.specs.FormRules.{form_rule, symbol_rule}
use Rattle.tree_kinds.specs.Standing.{operator_places}
use Rattle.tree_kinds.specs.Expanding.{Outer, Helper, Whole, bare_rule, greatest_level, part_of, stands_outside}
use Rattle.tree_kinds.specs.TreeDepths.{path_names}
use Rattle.flat_trees.specs.Layouts.{parameters_of}
use Rattle.flat_trees.specs.Names.{places_by}
use Rattle.flattened_trees.specs.Flattened.{all_parts, inside_parts}
use Rattle.flattened_trees.specs.NodeForms.{bare_places, path_places}
use Rattle.resolved_trees.specs.Resolved.{Body, Bounded, Call, Cons, Definition, Instance, Leaf, Let, Name, Nil, Node, Old, Operation, Over, Parameter, Parts, Path, Replace, Replaced, Replacements, Resolved, Symbol, Use}
use Rattle.written_trees.specs.Leading.{Defined, Face, Lead, Leads, Place, Setting, behind, behind_instance, nowhere, only, repeating, with_parameters}
use Rattle.written_trees.specs.Leading as leading

-- ---- parts

-- some parts, and then others
abbrev pub and_parts : Parts → Parts → Parts
and_parts Nil others = others
and_parts (Cons first rest) others = Cons first (and_parts rest others)

-- one part
abbrev pub one : Resolved → Parts
one tree = Cons tree Nil

-- a constant, which stands where nothing else does, too
abbrev pub constant : Resolved
constant = Node (Leaf Const) None Nil

-- an operation on parts
abbrev pub operation : Rule → Parts → Resolved
operation rule parts = Node (Operation rule) None parts

-- the first of some parts, or a constant
abbrev pub root_of : Parts → Resolved
root_of Nil = constant
root_of (Cons first rest) = first

-- ---- names

-- a use of a definition behind a path, or the same as a bare operator with so many places
abbrev pub used : Option ℕ → Path → Definition → Parts → Resolved
used None path definition parts = Use path definition None parts
used (Some count) path definition parts = Name path definition (Some count) parts

-- an item at a place, or a call of it
abbrev pub placed : ℕ → ℕ → Parts → Resolved
placed place order Nil = Node (Parameter place) (places_by order) Nil
placed place order (Cons first rest) = Node (Call place) None (Cons first rest)

-- a name that leads there, on all arguments; a bare operator, where it has places
abbrev pub named : Option ℕ → Lead → Parts → Resolved
named places lead parts = elim lead.end [
  | leading.Nowhere ↦ constant
  | leading.Leaf kind ↦ Node (Leaf kind) None Nil
  | leading.Place place order ↦ placed place order parts
  | leading.Defined definition ↦ used places lead.path definition parts
]

-- where something leads that may mean nothing
abbrev pub lead_of : Leads → Option Meaning → List Named → Lead
lead_of leads None names = nowhere
lead_of leads (Some meaning) names = leads meaning names

-- ---- forms

-- an operation with this rule
abbrev pub ruled : Option Rule → Parts → Resolved
ruled None parts = constant
ruled (Some rule) parts = operation rule parts

-- the operands in the order of the rule: `WF_` and `SF_` are written with the subscript first
abbrev pub rule_order : Form.the_data → Parts → Parts
rule_order (Form.Fairness l) (Cons subscript (Cons action Nil)) = Cons action (Cons subscript Nil)
rule_order form parts = parts

-- the last of these, and then the others
abbrev pub last_first : Parts → Parts → Parts
last_first before Nil = before
last_first before (Cons last Nil) = Cons last before
last_first before (Cons first (Cons next rest)) = last_first (and_parts before (one first)) (Cons next rest)

-- parentheses, and what stands in them
abbrev pub inside : Parts → Resolved
inside Nil = constant
inside (Cons first rest) = Node Let None (Cons first rest)

-- LET: the body, and what stands in the definitions
abbrev pub let_over : Option Resolved → Parts → Resolved
let_over None roots = constant
let_over (Some body) roots = Node Let None (Cons body roots)

-- ---- replacements

-- a right side that is written for a name, and where it stands
pub record Right : Type 0 where
  pub name : Named
  pub tree : Resolved
  pub at : Span

-- the first right side that is written for a name
abbrev pub right_for : List Right → Named → Option Right
right_for [] name = None
right_for (right ∷ rest) name = if same_named name right.name then Some right else right_for rest name

-- the right side of a replacement, by its parts
abbrev pub right_of : Named → Trees → Parts → List Right
right_of name (ConsTree (TreeNode form at parts) others) (Cons first rest) = record { name = name; tree = first; at = at } ∷ []
right_of name _ _ = []

-- so many symbols stay, from the one at this place on, before others that are replaced
abbrev pub staying : ℕ → ℕ → Replacements → Replacements
staying place zero made = made
staying place (suc count) made = Replace (Node (Parameter place) None Nil) None (staying (suc place) count made)

-- what stands for a parameter, and the symbols that are left for further ones
abbrev pub replacing : Leads → Bool → List Right → Exports → List Meaning → Replacements
replacing leads is_constant rights [] symbols = Over
replacing leads is_constant rights (parameter ∷ parameters) symbols = elim (right_for rights parameter.0) [
  | Some right ↦ Replace right.tree (Some (greatest_level is_constant parameter.1)) (replacing leads is_constant rights parameters symbols)
  | None ↦ Replace (named (operator_places (Some parameter.1)) (lead_of leads (slice_get symbols 0) []) Nil) (Some (greatest_level is_constant parameter.1))
      (replacing leads is_constant rights parameters (drop 1 symbols))
]

-- ---- trees

-- trees of a text, by what its names mean, where they begin; by the symbols that stand in for the parameters which an INSTANCE does not
-- replace, where the name of its module begins; and by what modules are to their instances
module _ (text : Text) (means : ℕ → Option Meaning) (implied : ℕ → List Meaning) (faces : List ℕ → Face) where
  -- the module of a name
  abbrev pub face_of : Lexeme → Face
  face_of l = faces (spelled text.source l)

  -- a path of names, on all arguments
  abbrev pub path_tree : Setting → Trees → Parts → Resolved
  path_tree setting (ConsTree (TreeNode (Form.Segment l) s arguments) rest) is =
      named (path_places text.source means (ConsTree (TreeNode (Form.Segment l) s arguments) rest)) (lead_of setting.leads (means l.span.start) (path_names text.source rest)) is
  path_tree setting _ is = constant

  -- a bare symbol
  abbrev pub bare_tree : Setting → Lexeme → Option Rule → Resolved
  bare_tree setting l (Some rule) = Node (Symbol rule) (bare_places text.source means l l.kind) Nil
  bare_tree setting l None = named (bare_places text.source means l l.kind) (lead_of setting.leads (means l.span.start) []) Nil

  -- a symbol on operands: an operation, where it is built in
  abbrev pub operator_tree : Setting → Lexeme → Option Rule → Parts → Resolved
  operator_tree setting l (Some rule) is = operation rule is
  operator_tree setting l None is = named None (lead_of setting.leads (means l.span.start) []) is

  -- a form, by the expressions that it is made of, in the order of the text
  abbrev pub form_tree : Setting → Form.the_data → Trees → Parts → Resolved
  form_tree setting Form.Identifier parts is = path_tree setting parts is
  form_tree setting (Form.Number l) parts is = constant
  form_tree setting (Form.Text l) parts is = constant
  form_tree setting (Form.At l) parts is = Node Old None setting.olds
  form_tree setting (Form.Symbol l) parts is = bare_tree setting l (bare_rule l.kind)
  form_tree setting (Form.Prefix l) parts is = operator_tree setting l (symbol_rule Prefix l.kind) is
  form_tree setting (Form.Infix l) parts is = operator_tree setting l (symbol_rule Infix l.kind) is
  form_tree setting (Form.Postfix l) parts is = operator_tree setting l (symbol_rule Postfix l.kind) is
  form_tree setting Form.Parentheses parts is = inside is
  form_tree setting (Form.BoundedQuantifier l) parts is = Node Bounded None (last_first Nil is)
  form_tree setting form parts is = ruled (form_rule form) (rule_order form is)

  -- an instance of the module of a name, with so many places round it and so many parameters
  abbrev pub instance_of : Setting → ℕ → ℕ → Bool → Lexeme → List Right → Instance
  instance_of setting outer count guards l rights =
      Replaced outer count guards (staying 0 (face_of l).outer (replacing setting.leads (face_of l).is_constant rights (face_of l).parameters (implied l.span.start)))

  abbrev mutual
    -- the tree of an expression
    pub tree_of : Setting → Tree → Resolved
    tree_of setting (TreeNode Form.Let s parts) = let_over (body_in setting parts) (roots_in setting parts)
    tree_of setting (TreeNode Form.Except s (ConsTree function updates)) =
        operation rule.Plain (Cons (tree_of setting function) (updates_of setting (tree_of setting function) updates))
    tree_of setting (TreeNode form s parts) = form_tree setting form parts (operands_of all_parts setting parts)

    -- the expressions that some of these parts are made of, in their order
    pub operands_of : (Form.the_data → Bool) → Setting → Trees → Parts
    operands_of taken setting NoTrees = Nil
    operands_of taken setting (ConsTree (TreeNode form s parts) rest) = and_parts
        (elim (taken form) [
          | true ↦ elim (part_of form) [
            | Outer ↦ operands_of all_parts setting parts
            | Helper ↦ operands_of all_parts setting parts
            | Whole ↦ one (tree_of setting (TreeNode form s parts))
          ]
          | false ↦ Nil
        ])
        (operands_of taken setting rest)

    -- the updates of a function: in their right sides `@` repeats the function and the indices
    pub updates_of : Setting → Resolved → Trees → Parts
    updates_of setting f NoTrees = Nil
    updates_of setting f (ConsTree (TreeNode form s parts) rest) = and_parts
        (operands_of stands_outside setting parts)
        (and_parts (operands_of inside_parts (repeating setting (Cons f (operands_of stands_outside setting parts))) parts) (updates_of setting f rest))

    -- the body behind definitions
    pub body_in : Setting → Trees → Option Resolved
    body_in setting NoTrees = None
    body_in setting (ConsTree (TreeNode form s parts) rest) = elim (helps form) [
      | true ↦ body_in (behind text setting (TreeNode form s parts) (defined_lead setting (TreeNode form s parts))) rest
      | false ↦ Some (tree_of setting (TreeNode form s parts))
    ]

    -- what counts for the depth of definitions
    pub roots_in : Setting → Trees → Parts
    roots_in setting NoTrees = Nil
    roots_in setting (ConsTree (TreeNode form s parts) rest) = elim (helps form) [
      | true ↦ and_parts (defined_roots setting (TreeNode form s parts)) (roots_in (behind text setting (TreeNode form s parts) (defined_lead setting (TreeNode form s parts))) rest)
      | false ↦ roots_in setting rest
    ]

    -- where the name of a definition leads
    pub defined_lead : Setting → Tree → List Named → Lead
    defined_lead setting (TreeNode form s parts) = elim (defines form) [
      | Nothing ↦ (λ names. nowhere)
      | Operator l ↦ only (Defined (Body (length setting.frame) (root_of (operands_of all_parts (with_parameters text setting form parts) parts))))
      | Function l ↦ only (Defined (Body (length setting.frame) (operation rule.Plain (operands_of all_parts setting parts))))
      | Module l ↦ through_lead (length setting.frame) (with_parameters text setting form parts) (length (parameters_of text form parts)) parts
    ]

    -- what counts for the depth of a definition
    pub defined_roots : Setting → Tree → Parts
    defined_roots setting (TreeNode form s parts) = elim (defines form) [
      | Nothing ↦ Nil
      | Operator l ↦ one (root_of (operands_of all_parts (with_parameters text setting form parts) parts))
      | Function l ↦ one (operation rule.Plain (operands_of all_parts setting parts))
      | Module l ↦ through_roots (with_parameters text setting form parts) parts
    ]

    -- the name of a module definition leads through the instance that is the first INSTANCE among these
    pub through_lead : ℕ → Setting → ℕ → Trees → List Named → Lead
    through_lead outer setting count NoTrees = λ names. nowhere
    through_lead outer setting count (ConsTree (TreeNode (Form.Instance l) s parts) rest) =
        behind_instance (instance_of setting outer count true l (rights_of setting parts)) (face_of l)
    through_lead outer setting count (ConsTree x rest) = through_lead outer setting count rest

    -- its right sides
    pub through_roots : Setting → Trees → Parts
    through_roots setting NoTrees = Nil
    through_roots setting (ConsTree (TreeNode (Form.Instance l) s parts) rest) = right_roots setting parts
    through_roots setting (ConsTree x rest) = through_roots setting rest

    -- the right sides of replacements, by the names that they are written for
    pub rights_of : Setting → Trees → List Right
    rights_of setting NoTrees = []
    rights_of setting (ConsTree (TreeNode (Form.Replacement left) s right) rest) =
        right_of (name_of text.source left) right (operands_of all_parts setting right) ++ rights_of setting rest
    rights_of setting (ConsTree x rest) = rights_of setting rest

    -- all of them
    pub right_roots : Setting → Trees → Parts
    right_roots setting NoTrees = Nil
    right_roots setting (ConsTree (TreeNode (Form.Replacement left) s right) rest) = and_parts (operands_of all_parts setting right) (right_roots setting rest)
    right_roots setting (ConsTree x rest) = right_roots setting rest

-- ---- what is asked of trees

-- each module definition in a tree holds an INSTANCE
abbrev mutual
  pub HoldsInstances : Tree → Type 0
  HoldsInstances (TreeNode form s parts) = elim (defines form) [
    | Module l ↦ HasInstance parts × AllHoldInstances parts
    | Nothing ↦ AllHoldInstances parts
    | Operator l ↦ AllHoldInstances parts
    | Function l ↦ AllHoldInstances parts
  ]

  pub AllHoldInstances : Trees → Type 0
  AllHoldInstances NoTrees = Unit {0}
  AllHoldInstances (ConsTree x rest) = HoldsInstances x × AllHoldInstances rest

  pub HasInstance : Trees → Type 0
  HasInstance NoTrees = ⊥
  HasInstance (ConsTree (TreeNode (Form.Instance l) s parts) rest) = Unit {0}
  HasInstance (ConsTree x rest) = HasInstance rest
