-- The expansion of an expression where its names mean something: every use of a definition is what the definition gives on
-- the arguments. What stands for the names is at hand, so nothing is left but forms with their rules of levels.
use Rattle.std.specs.Prelude.{ℕ, Bool, true, false, List, [], ◌∷◌, Option, Some, None, if◌then◌else◌, is_some, map}
use Rattle.std.specs.Option.{option_or}
use Rattle.tla_symbols.specs.declared.lexeme.LexKind.TheVariants as LexKind
use Rattle.tla_symbols.specs.declared.lexeme.Lexeme.{Lexeme}
use Rattle.tla_symbols.specs.declared.lexeme.Span.{Span}
use Rattle.tla_symbols.specs.declared.level.Kind.TheVariants.{Const}
use Rattle.tla_symbols.specs.declared.level.Rule.{Rule}
use Rattle.tla_symbols.specs.declared.level.Rule.TheVariants.{Plain, Boolean}
use Rattle.tla_symbols.specs.declared.op.Op.TheVariants as Op
use Rattle.tla_symbols.specs.declared.place.Fix.TheVariants.{Prefix, Infix, Postfix}
use Rattle.tla_symbols.specs.Symbols.{range_of}
use Rattle.tla_tree.specs.declared.form.Form.TheVariants as Form
use Rattle.tla_tree.specs.Forms.{helps}
use Rattle.tla_tree.specs.Syntax.{Tree, Trees, Node, Nil, Cons}
use Rattle.tla_model.specs.declared.entity.Entity.TheVariants as entity
use Rattle.tla_model.specs.declared.names.Meaning.TheVariants.{Declared}
use Rattle.tla_model.specs.Tables.{Named, Symbol, same_named}
use Rattle.tla_model.specs.Entities.{Meaning, Text, meant, name_of}
use Rattle.tla_model.specs.Contexts.{Context, meaning_of}
use Rattle.tla_model.specs.Lexemes.{spelled}
use Rattle.tla_model.specs.Scopes.{behind, binders, definition, has_set, is_free, prefixed, reserved, scope, itself as as_spelled}
use Rattle.module_model.specs.Exports.{Behind, Exports, Known, behind_meaning, entry_of, onward}
use Rattle.kind_text.specs.ExpandedKind.{Expanded, Operands, Given, Ruled}
use Rattle.kind_text.specs.Expansion.{Guard, bounded, guard}
use Rattle.kind_text.specs.Substitution.{Item, expression, expressions, judged, operator, texts}
use Rattle.level_text.specs.FormRules.{form_rule, rule_operands, symbol_rule}
use Rattle.tree_kinds.specs.Standing.{Environment, Outside, Steps, Value, applied_to, item_of, operator_places, single, value_in, value_of, with_entries, with_items, with_value, with_values}

-- what stands round an expression: its context, what stands for the names there, and what `@` repeats
pub record Around : Type 0 where
  pub context : Context
  pub standing : Environment
  pub old : Operands

-- operands, and further ones
abbrev pub and_operands : Operands → Operands → Operands
and_operands Operands.Nil us = us
and_operands (Operands.Cons t ts) us = Operands.Cons t (and_operands ts us)

-- the last of these segments is written without arguments
abbrev pub is_bare : Bool → Trees → Bool
is_bare before Nil = before
is_bare before (Cons (Node form s Nil) rest) = is_bare true rest
is_bare before (Cons (Node form s (Cons x arguments)) rest) = is_bare false rest

-- ---- symbols

-- the rule of a bare symbol, at whichever place it is built in
abbrev pub bare_rule : LexKind.the_data → Option Rule
bare_rule kind = option_or (symbol_rule Infix kind) (option_or (symbol_rule Prefix kind) (symbol_rule Postfix kind))

-- a symbol as a name
abbrev pub symbol_name : (Op.the_data → Op.the_data) → LexKind.the_data → Option Named
symbol_name which (LexKind.Sym op) = Some (Symbol (which op))
symbol_name which _ = None

-- the places of a symbol that is built in
abbrev pub built_in_places : Op.the_data → ℕ
built_in_places op = if is_some (range_of op Infix) then 2 else 1

-- the places of a bare symbol
abbrev pub symbol_places : Context → LexKind.the_data → Option ℕ
symbol_places context (LexKind.Sym op) = if is_free op then operator_places (meaning_of context (Symbol op)) else Some (built_in_places op)
symbol_places context _ = None

-- what stands at a path of names
abbrev pub at_names : Around → Steps → Expanded
at_names around [] = Given None
at_names around (step ∷ path) = value_in around.standing (meaning_of around.context step.name) step.arguments path

-- a symbol that is defined, on arguments
abbrev pub named_symbol : Around → Option Named → List Item → Expanded
named_symbol around None arguments = Given None
named_symbol around (Some name) arguments = at_names around (single name arguments)

-- a symbol on arguments: its rule, if it is built in
abbrev pub symbol_text : Around → Option Rule → Option Named → List Item → Expanded
symbol_text around (Some rule) name arguments = Ruled rule (texts arguments)
symbol_text around None name arguments = named_symbol around name arguments

-- a form with a rule, on its operands
abbrev pub ruled_text : Option Rule → Operands → Expanded
ruled_text None ts = Given None
ruled_text (Some rule) ts = Ruled rule ts

-- ---- replacements

-- a right side that is written, with the name on its left
pub record Written : Type 0 where
  pub name : Named
  pub item : Item
  pub at : Span

-- what stands for a parameter of a module that is instantiated, and where that is written
pub record Replaced : Type 0 where
  pub parameter : Meaning
  pub item : Item
  pub at : Span

-- the first right side that is written for a name
abbrev pub written_for : List Written → Named → Option Written
written_for [] name = None
written_for (right ∷ rest) name = if same_named name right.name then Some right else written_for rest name

-- a bare operator where the parameter is one, and else the expression that a name is
abbrev pub named_item : Around → Named × Meaning → Item
named_item around parameter = item_of (operator_places (Some parameter.1)) (λ more. at_names around (single parameter.0 more))

-- what stands for a parameter: the right side for it, or what its name means, which stands at the name of the module
abbrev pub replaced_by : Around → Lexeme → Named × Meaning → Option Written → Replaced
replaced_by around l parameter (Some right) = record { parameter = parameter.1; item = right.item; at = right.at }
replaced_by around l parameter None = record { parameter = parameter.1; item = named_item around parameter; at = l.span }

-- with these in place of the parameters
abbrev pub with_replaced : Environment → List Replaced → Environment
with_replaced standing [] = standing
with_replaced standing (r ∷ rest) = with_value (with_replaced standing rest) r.parameter (value_of r.item)

-- the greatest level of what replaces a parameter, by whether its module is constant
abbrev pub greatest_level : Bool → Meaning → ℕ
greatest_level true parameter = 2
greatest_level false (Declared entity.Variable callee) = 1
greatest_level false parameter = 0

-- what is judged of a replacement: of an operator, what it gives on constants
abbrev pub replaced_text : Replaced → Expanded
replaced_text r = judged (operator_places (Some r.parameter)) r.item

-- a replacement as a guard
abbrev pub guard_of : Bool → Replaced → Guard
guard_of constant r = record { most = greatest_level constant r.parameter; replacement = replaced_text r }

-- ---- trees

-- a part of a form that stands outside of the scope of its names, and outside of its right sides
abbrev pub stands_outside : Form.the_data → Bool
stands_outside Form.IndexStep = true
stands_outside form = has_set form

-- what a part of a form is: one that stands outside, another helper form, or an expression
pub data Part : Type 0 where
  Outer : Part
  Helper : Part
  Whole : Part

-- what a part with this form is
abbrev pub part_of : Form.the_data → Part
part_of form = if stands_outside form then Outer else if helps form then Helper else Whole

-- an expression is read in the text of a module, by what is known to stand behind instances, and by what the modules are
module _ (text : Text) (known : Known) (named : List ℕ → Outside) where
  -- the module of a name
  abbrev pub module_of : Lexeme → Outside
  module_of l = named (spelled text.source l)

  -- what the last name of a path means, behind what its names before lead to
  abbrev pub called_behind : Behind → Option Meaning → Trees → Option Meaning
  called_behind held meaning Nil = meaning
  called_behind held meaning (Cons (Node (Form.Segment l) s arguments) rest) = called_behind (onward held (name_of text.source l)) (entry_of (held []) (name_of text.source l)) rest
  called_behind held meaning (Cons _ rest) = None

  -- what the last name of a path means
  abbrev pub called : Context → Trees → Option Meaning
  called context (Cons (Node (Form.Segment l) s arguments) rest) =
      called_behind (behind_meaning known (meaning_of context (name_of text.source l))) (meaning_of context (name_of text.source l)) rest
  called context _ = None

  -- the places of a tree that is a bare operator
  abbrev pub places_at : Context → Tree → Option ℕ
  places_at context (Node Form.Identifier s parts) = if is_bare false parts then operator_places (called context parts) else None
  places_at context (Node (Form.Symbol l) s parts) = symbol_places context l.kind
  places_at context _ = None

  -- round the parts of a form that stand outside of the scope of its names
  abbrev pub before_scope : Around → Form.the_data → Trees → Around
  before_scope around form parts = record around { context = reserved text around.context form parts }

  -- in the scope of a form's names
  abbrev pub in_scope : Around → Form.the_data → Trees → Around
  in_scope around form parts = record around { context = scope text around.context form parts }

  -- the same, where these items stand for its parameters
  abbrev pub with_parameters : Around → Form.the_data → Trees → List Item → Around
  with_parameters around form parts arguments =
      record {
        context = scope text around.context form parts;
        standing = with_items around.standing (map (meant text) (binders form parts)) arguments;
        old = around.old;
      }

  -- behind a definition that gives this
  abbrev pub behind_definition : Around → Tree → Value → Around
  behind_definition around x value =
      record { context = behind text around.context x; standing = with_values around.standing (map (meant text) (definition x)) value; old = around.old }

  -- what stands for the parameters of the module of a name, by the right sides that are written
  abbrev pub replacements : Around → Lexeme → List Written → List Replaced
  replacements around l rights = map (λ parameter. replaced_by around l parameter (written_for rights parameter.0)) (module_of l).view.parameters

  -- what stands at a path behind an INSTANCE, its replacements put in
  abbrev pub put_into : Around → Lexeme → List Replaced → Steps → Expanded
  put_into around l rs path = (module_of l).standing (with_replaced around.standing rs) path

  -- the same of an instance with a name, under the guards of its replacements
  abbrev pub behind_instance : Around → Lexeme → List Replaced → Steps → Expanded
  behind_instance around l rs path = guard (map (guard_of (module_of l).is_constant) rs) (put_into around l rs path)

  abbrev mutual
    -- the expansion of an expression
    pub expand : Around → Tree → Item
    expand around (Node Form.Identifier s parts) =
        item_of (places_at around.context (Node Form.Identifier s parts)) (λ more. at_names around (applied_to (steps around parts) more))
    expand around (Node (Form.Number l) s parts) = expression (Given (Some Const))
    expand around (Node (Form.Text l) s parts) = expression (Given (Some Const))
    expand around (Node (Form.At l) s parts) = expression (Ruled Boolean around.old)
    expand around (Node (Form.Symbol l) s parts) = operator (λ ts. symbol_text around (bare_rule l.kind) (symbol_name as_spelled l.kind) (expressions ts))
    expand around (Node (Form.Prefix l) s parts) = expression (symbol_text around (symbol_rule Prefix l.kind) (symbol_name prefixed l.kind) (items around parts))
    expand around (Node (Form.Infix l) s parts) = expression (symbol_text around (symbol_rule Infix l.kind) (symbol_name as_spelled l.kind) (items around parts))
    expand around (Node (Form.Postfix l) s parts) = expression (symbol_text around (symbol_rule Postfix l.kind) (symbol_name as_spelled l.kind) (items around parts))
    expand around (Node Form.Parentheses s parts) = inner around parts
    expand around (Node Form.Let s parts) = inner around parts
    expand around (Node Form.Except s parts) = expression (Ruled Plain (changed around parts))
    expand around (Node (Form.BoundedQuantifier l) s parts) =
        expression (bounded (Operands.Cons (inner (in_scope around (Form.BoundedQuantifier l) parts) parts).text (outer_operands (before_scope around (Form.BoundedQuantifier l) parts) parts)))
    expand around (Node form s parts) =
        expression (ruled_text (form_rule form) (rule_operands form (operands (before_scope around form parts) (in_scope around form parts) parts)))

    -- the body of a form, behind the definitions before it
    pub inner : Around → Trees → Item
    inner around Nil = expression (Given None)
    inner around (Cons (Node form s parts) rest) = elim (helps form) [
      | true ↦ inner (behind_definition around (Node form s parts) (defined_value around (Node form s parts))) rest
      | false ↦ expand around (Node form s parts)
    ]

    -- what a definition gives: its body, with the arguments in place of its parameters, or what stands behind its INSTANCE
    pub defined_value : Around → Tree → List Item → Steps → Expanded
    defined_value around (Node (Form.FunctionDefinition l) s parts) arguments path =
        Ruled Plain (operands (before_scope around (Form.FunctionDefinition l) parts) (in_scope around (Form.FunctionDefinition l) parts) parts)
    defined_value around (Node (Form.ModuleDefinition l) s parts) arguments path = through (with_parameters around (Form.ModuleDefinition l) parts arguments) parts path
    defined_value around (Node form s parts) arguments path = (inner (with_parameters around form parts arguments) parts).text

    -- what stands at a path behind the INSTANCE among these
    pub through : Around → Trees → Steps → Expanded
    through around Nil path = Given None
    through around (Cons (Node (Form.Instance l) s parts) rest) path = behind_instance around l (replacements around l (right_sides around parts)) path
    through around (Cons x rest) path = through around rest path

    -- the right sides of replacements
    pub right_sides : Around → Trees → List Written
    right_sides around Nil = []
    right_sides around (Cons (Node (Form.Replacement l) s (Cons (Node form at parts) others)) rest) =
        record { name = name_of text.source l; item = expand around (Node form at parts); at = at } ∷ right_sides around rest
    right_sides around (Cons x rest) = right_sides around rest

    -- the items of arguments
    pub items : Around → Trees → List Item
    items around Nil = []
    items around (Cons x rest) = expand around x ∷ items around rest

    -- the segments of a path
    pub steps : Around → Trees → Steps
    steps around Nil = []
    steps around (Cons (Node (Form.Segment l) s arguments) rest) = record { name = name_of text.source l; arguments = items around arguments } ∷ steps around rest
    steps around (Cons x rest) = steps around rest

    -- the expressions that parts are made of, in their order, by what stands round those outside and those inside of a scope
    pub operands : Around → Around → Trees → Operands
    operands outside around Nil = Operands.Nil
    operands outside around (Cons (Node form s parts) rest) = and_operands
        (elim (part_of form) [
          | Outer ↦ operands outside outside parts
          | Helper ↦ operands around around parts
          | Whole ↦ Operands.Cons (judged (places_at around.context (Node form s parts)) (expand around (Node form s parts))) Operands.Nil
        ])
        (operands outside around rest)

    -- the same of those parts alone that stand outside
    pub outer_operands : Around → Trees → Operands
    outer_operands outside Nil = Operands.Nil
    outer_operands outside (Cons (Node form s parts) rest) = and_operands
        (elim (stands_outside form) [ true ↦ operands outside outside parts | false ↦ Operands.Nil ])
        (outer_operands outside rest)

    -- what an EXCEPT is made of: the function, and the indices and the value of each update
    pub changed : Around → Trees → Operands
    changed around Nil = Operands.Nil
    changed around (Cons function updates) = Operands.Cons (expand around function).text (updated around (expand around function).text updates)

    -- the same of the updates of a function; in their right sides `@` repeats the function and the indices
    pub updated : Around → Expanded → Trees → Operands
    updated around function Nil = Operands.Nil
    updated around function (Cons (Node form s parts) rest) =
        and_operands (operands around (record around { old = Operands.Cons function (outer_operands around parts) }) parts) (updated around function rest)

  -- behind a definition
  abbrev pub behind_tree : Around → Tree → Around
  behind_tree around x = behind_definition around x (defined_value around x)

  -- what stands at a path behind an INSTANCE without a name
  abbrev pub unguarded : Around → Tree → Steps → Expanded
  unguarded around (Node (Form.Instance l) s parts) path = put_into around l (replacements around l (right_sides around parts)) path
  unguarded around x path = Given None

  -- with these entries, which an INSTANCE without a name brings
  abbrev pub bringing : Around → Exports → Tree → Environment
  bringing around brought x = with_entries around.standing brought (unguarded around x)

  -- round the right side of an update of a function
  abbrev pub in_update : Around → Expanded → Trees → Around
  in_update around function parts = record around { old = Operands.Cons function (outer_operands around parts) }

  -- what a written node is made of
  abbrev pub made_of : Around → Tree → Operands
  made_of around (Node (Form.At l) s parts) = around.old
  made_of around (Node Form.Except s parts) = changed around parts
  made_of around (Node form s parts) = operands (before_scope around form parts) (in_scope around form parts) parts
