-- The kinds of what is written in a tree, and what is found of levels there. The parameters of the definitions round it stand
-- for themselves, and count as constant.
use Rattle.std.specs.Prelude.{ℕ, Bool, true, false, ◌&&◌, ◌++◌, List, [], ◌∷◌, Option, Some, None, if◌then◌else◌, is_some, map, nat_lt, not}
use Rattle.tla_symbols.specs.declared.level.Kind.{Kind}
use Rattle.tla_symbols.specs.declared.lexeme.LexKind.TheVariants as LexKind
use Rattle.tla_symbols.specs.declared.lexeme.Lexeme.{Lexeme}
use Rattle.tla_symbols.specs.declared.lexeme.Span.{Span}
use Rattle.tla_symbols.specs.declared.op.Op.TheVariants as Op
use Rattle.tla_tree.specs.declared.form.Form.TheVariants as Form
use Rattle.tla_tree.specs.Forms.{helps}
use Rattle.tla_tree.specs.Syntax.{Tree, Trees, Node, Nil, Cons}
use Rattle.tla_model.specs.declared.entity.Entity.TheVariants as entity
use Rattle.tla_model.specs.declared.entity.Level.{Level}
use Rattle.tla_model.specs.declared.names.Binding.TheVariants as as_binding
use Rattle.tla_model.specs.declared.names.Meaning.TheVariants.{BuiltIn, Declared}
use Rattle.tla_model.specs.Entities.{Meaning, Text, binding_of, meant, name_of}
use Rattle.tla_model.specs.Scopes.{binders, is_free, itself as as_spelled, prefixed}
use Rattle.module_model.specs.Exports.{Known, entry_of}
use Rattle.level_rules.specs.Kinds.{level}
use Rattle.kind_text.specs.ExpandedKind.{Expanded, Given, all_kinds, kind, kinds}
use Rattle.kind_text.specs.Substitution.{Item, expression, judged}
use Rattle.tree_kinds.specs.Standing.{Outside, itself}
use Rattle.tree_kinds.specs.Expanding.{Around, Replaced, before_scope, behind_tree, expand, greatest_level, in_scope, in_update, made_of, module_of, places_at, replaced_text, replacements, right_sides, stands_outside, with_parameters}

-- what is found of levels: a node whose parts have kinds and that has none, an assumption that is not constant, a
-- replacement of a higher level than it may have, and the level of a use
pub data LevelFinding : Type 0 where
  Refused : (at : Span) → LevelFinding
  NotConstant : (at : Span) → LevelFinding
  TooHigh : (at : Span) → LevelFinding
  Leveled : (name : Lexeme) (level : Level) → LevelFinding

-- the level of a kind, as a user reads it; without a kind a module is refused
abbrev pub level_word : Option Kind → Level
level_word None = Level.Constant
level_word (Some Kind.Const) = Level.Constant
level_word (Some Kind.State) = Level.State
level_word (Some Kind.Action) = Level.Action
level_word (Some Kind.BoxAction) = Level.Action
level_word (Some Kind.DiamondAction) = Level.Action
level_word (Some Kind.Temporal) = Level.Temporal

-- there is a kind of more than this level
abbrev pub is_above : ℕ → Option Kind → Bool
is_above most None = false
is_above most (Some k) = nat_lt most (level k)

-- what is written and judged by itself: expressions, bare operators, and functions that are defined. What stands in
-- parentheses, in LET and in LAMBDA is judged there
abbrev pub is_judged : Form.the_data → Bool
is_judged (Form.FunctionDefinition l) = true
is_judged Form.Parentheses = false
is_judged Form.Let = false
is_judged Form.Lambda = false
is_judged form = not (helps form)

-- ---- levels of uses

-- a symbol that is used, with the level of its node
abbrev pub symbol_level : Level → Lexeme → (Op.the_data → Op.the_data) → LexKind.the_data → List LevelFinding
symbol_level level l which (LexKind.Sym op) = if is_free (which op) then Leveled l level ∷ [] else []
symbol_level level l which _ = []

-- the names of a path, the last with the level of the whole
abbrev pub path_levels : Level → Trees → List LevelFinding
path_levels level Nil = []
path_levels level (Cons (Node (Form.Segment l) s arguments) Nil) = Leveled l level ∷ []
path_levels level (Cons (Node (Form.Segment l) s arguments) (Cons x rest)) = Leveled l Level.Instance ∷ path_levels level (Cons x rest)
path_levels level (Cons x rest) = path_levels level rest

-- the uses that a form is itself, with their levels
abbrev pub form_levels : Level → Form.the_data → Trees → List LevelFinding
form_levels level Form.Identifier parts = path_levels level parts
form_levels level (Form.Symbol l) parts = symbol_level level l as_spelled l.kind
form_levels level (Form.Prefix l) parts = symbol_level level l prefixed l.kind
form_levels level (Form.Infix l) parts = symbol_level level l as_spelled l.kind
form_levels level (Form.Postfix l) parts = symbol_level level l as_spelled l.kind
form_levels level form parts = []

-- the level of a parameter by its declaration
abbrev pub declared_level : Option Meaning → Level
declared_level (Some (Declared entity.Variable callee)) = Level.State
declared_level _ = Level.Constant

-- ---- replacements

-- a replacement of a higher level than it may have, by whether its module is constant
abbrev pub high_replacement : Bool → Replaced → List LevelFinding
high_replacement constant r = if is_above (greatest_level constant r.parameter) (kind (replaced_text r)) then TooHigh r.at ∷ [] else []

-- the same of several
abbrev pub high_replacements : Bool → List Replaced → List LevelFinding
high_replacements constant [] = []
high_replacements constant (r ∷ rest) = high_replacement constant r ++ high_replacements constant rest

-- ---- trees

-- a name by itself
abbrev pub by_itself : Meaning → Item
by_itself BuiltIn = expression (Given (Some Kind.Const))
by_itself (Declared e callee) = itself e

module _ (text : Text) (known : Known) (named : List ℕ → Outside) where
  -- the kind of what is written; of a bare operator, that on constants
  abbrev pub kind_at : Around → Tree → Option Kind
  kind_at around x = kind (judged (places_at text known named around.context x) (expand text known named around x))

  -- no kind, where everything that it is made of has one
  abbrev pub is_refused : Around → Tree → Option Kind → Bool
  is_refused around x found = not (is_some found) && is_some (all_kinds (kinds (made_of text known named around x)))

  -- a node that is refused
  abbrev pub refusal : Around → Form.the_data → Span → Tree → List LevelFinding
  refusal around form s x = if is_judged form && is_refused around x (kind_at around x) then Refused s ∷ [] else []

  -- what is found at a node itself
  abbrev pub at_node : Around → Form.the_data → Span → Trees → List LevelFinding
  at_node around form s parts = form_levels (level_word (kind_at around (Node form s parts))) form parts ++ refusal around form s (Node form s parts)

  -- the replacements of an INSTANCE that are too high
  abbrev pub high_in : Around → Lexeme → Trees → List LevelFinding
  high_in around l parts = high_replacements (module_of text known named l).is_constant (replacements text known named around l (right_sides text known named around parts))

  -- in the scope of a form's names, its parameters by themselves
  abbrev pub in_body : Around → Form.the_data → Trees → Around
  in_body around form parts = elim (binding_of form) [
    | as_binding.Constant ↦ in_scope text known named around form parts
    | as_binding.Parameter ↦ with_parameters text known named around form parts (map by_itself (map (meant text) (binders form parts)))
    | as_binding.Bound state ↦ in_scope text known named around form parts
  ]

  -- the function of an EXCEPT
  abbrev pub function_text : Around → Tree → Expanded
  function_text around x = (expand text known named around x).text

  abbrev mutual
    -- what is found in a tree
    pub levels : Around → Tree → List LevelFinding
    levels around (Node Form.Let s parts) = levels_chain around parts
    levels around (Node Form.Except s (Cons function updates)) =
        at_node around Form.Except s (Cons function updates) ++ levels around function ++ levels_updates around (function_text around function) updates
    levels around (Node (Form.Instance l) s parts) = levels_replaced around l parts ++ high_in around l parts
    levels around (Node form s parts) =
        at_node around form s parts ++ levels_parts (before_scope text known named around form parts) (in_body around form parts) parts

    -- the same of parts, by what stands round those outside and those inside of a scope
    pub levels_parts : Around → Around → Trees → List LevelFinding
    levels_parts outside around Nil = []
    levels_parts outside around (Cons (Node form s parts) rest) = elim (stands_outside form) [
      | true ↦ levels_parts outside outside parts ++ levels_parts outside around rest
      | false ↦ levels around (Node form s parts) ++ levels_parts outside around rest
    ]

    -- each definition, and then the body behind them
    pub levels_chain : Around → Trees → List LevelFinding
    levels_chain around Nil = []
    levels_chain around (Cons x rest) = levels around x ++ levels_chain (behind_tree text known named around x) rest

    -- the updates of a function
    pub levels_updates : Around → Expanded → Trees → List LevelFinding
    levels_updates around function Nil = []
    levels_updates around function (Cons (Node form s parts) rest) =
        levels_parts around (in_update text known named around function parts) parts ++ levels_updates around function rest

    -- left sides, by the declarations of the parameters of a module, and right sides
    pub levels_replaced : Around → Lexeme → Trees → List LevelFinding
    levels_replaced around l Nil = []
    levels_replaced around l (Cons (Node (Form.Replacement left) s right) rest) =
        Leveled left (declared_level (entry_of (module_of text known named l).view.parameters (name_of text.source left)))
        ∷ levels_parts around around right ++ levels_replaced around l rest
    levels_replaced around l (Cons x rest) = levels_replaced around l rest

  -- an assumption that has a kind and is not constant
  abbrev pub assumed : Around → Tree → List LevelFinding
  assumed around (Node form s parts) = if is_above 0 (kind_at around (Node form s parts)) then NotConstant s ∷ [] else []
