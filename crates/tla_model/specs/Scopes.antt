-- The names that forms declare and bind, their scopes, and what is found at names and symbols that are used.
use Rattle.std.specs.Prelude.{Bool, true, false, ◌||◌, ℕ, List, [], ◌∷◌, ◌++◌, Option, Some, None, if◌then◌else◌}
use Rattle.tla_symbols.specs.declared.lexeme.LexKind.TheVariants as LexKind
use Rattle.tla_symbols.specs.declared.lexeme.Lexeme.{Lexeme}
use Rattle.tla_symbols.specs.declared.op.Op.TheVariants as Op
use Rattle.tla_symbols.specs.declared.place.Fix.TheVariants.{Prefix, Infix, Postfix}
use Rattle.tla_symbols.specs.Symbols.{is_definable}
use Rattle.tla_tree.specs.declared.form.Form.TheVariants as Form
use Rattle.tla_tree.specs.Syntax.{Tree, Trees, Node, Nil, Cons}
use Rattle.tla_model.specs.declared.names.Binding.TheVariants as as_binding
use Rattle.tla_model.specs.declared.names.Finding.TheVariants as finding
use Rattle.tla_model.specs.Tables.{Symbol, has}
use Rattle.tla_model.specs.Entities.{Meaning, Binder, Text, entity_of, binding_of, bound_as, all_placed, defined, is_group, name_of}
use Rattle.tla_model.specs.Contexts.{Context, bind, bind_all, meaning_of, reserve_all}
pub use Rattle.tla_model.specs.declared.names.Finding.TheVariants.{Means, Unknown, Taken, Clashes, InstanceClashes, NotReplaceable, ReplacedTwice, Unreplaced, Implied}

-- what is found at a name or symbol
abbrev pub Finding : Type 0
Finding = finding.the_data

-- ---- the names that a form binds

-- the names of a group, from those of its parts
abbrev pub names_in : Bool → Trees → List (Lexeme × ℕ)
names_in true parts = all_placed parts
names_in false parts = []

-- the names inside those parts that are groups
abbrev pub all_grouped : Trees → List (Lexeme × ℕ)
all_grouped Nil = []
all_grouped (Cons (Node form s parts) rest) = names_in (is_group form) parts ++ all_grouped rest

-- the names that a form binds for its parts, one by one or in groups; a group binds none itself
abbrev pub binders : Form.the_data → Trees → List Binder
binders form parts = if is_group form then [] else bound_as (binding_of form) (all_placed parts ++ all_grouped parts)

-- a set of a bound stands outside the scope of the names of its list
abbrev pub has_set : Form.the_data → Bool
has_set Form.Bound = true
has_set Form.TupleBound = true
has_set _ = false

-- ---- where symbols and names are used

-- a symbol that means what a module defines it to be
abbrev pub is_free : Op.the_data → Bool
is_free op = is_definable op Prefix || is_definable op Infix || is_definable op Postfix

-- minus before its operand is the symbol `-.`
abbrev pub prefixed : Op.the_data → Op.the_data
prefixed Op.Minus = Op.Negative
prefixed op = op

-- a symbol as it is spelled, where nothing stands before it that would make it another
abbrev pub itself : Op.the_data → Op.the_data
itself op = op

-- a use at the lexeme, by its meaning, which may be none
abbrev pub use_findings : Lexeme → Option Meaning → List Finding
use_findings l None = Unknown l ∷ []
use_findings l (Some meaning) = Means l meaning ∷ []

-- a use of this symbol; one that no module may define is built in and looked up nowhere
abbrev pub used_as : Context → Lexeme → Op.the_data → List Finding
used_as context l op = if is_free op then use_findings l (meaning_of context (Symbol op)) else []

-- a use of a symbol, unless it is built in
abbrev pub symbol_findings : Context → (Op.the_data → Op.the_data) → Lexeme → LexKind.the_data → List Finding
symbol_findings context which l (LexKind.Sym op) = used_as context l (which op)
symbol_findings context which l _ = []

module _ (text : Text) where
  -- a declaring name where it is taken
  abbrev pub taken_findings : Context → Lexeme → List Finding
  taken_findings context l = if has context (name_of text.source l) then Taken l ∷ [] else []

  -- the same of several names, each in the context behind those before it
  abbrev pub all_refused : Context → List Binder → List Finding
  all_refused context [] = []
  all_refused context (binder ∷ rest) = taken_findings context binder.name ++ all_refused (bind text context binder) rest

  -- the name being defined is taken in its parameters and its body
  abbrev pub reserved : Context → Form.the_data → Trees → Context
  reserved context form parts = reserve_all text context (defined form parts)

  -- in the body a function's name is a bound name
  abbrev pub inside : Context → Form.the_data → Trees → Context
  inside context (Form.FunctionDefinition l) parts = bind text context (record { name = l; entity = entity_of (as_binding.Bound false) 0 })
  inside context form parts = reserved context form parts

  -- the context of what is in the scope of a form's names
  abbrev pub scope : Context → Form.the_data → Trees → Context
  scope context form parts = bind_all text (inside context form parts) (binders form parts)

  -- behind a definition
  abbrev pub behind : Context → Tree → Context
  behind context (Node form s parts) = bind_all text context (defined form parts)

-- the name that a tree defines
abbrev pub definition : Tree → List Binder
definition (Node form s parts) = defined form parts
