-- What names and symbols stand for, and which declaring name of a text a declaration is.
use Rattle.std.specs.Prelude.{ℕ, suc, zero, Bool, true, false, ◌&&◌, List, [], ◌∷◌, ◌++◌, if◌then◌else◌, map, nat_eq}
use Rattle.std.specs.Str.{bytes_eq}
use Rattle.tla_symbols.specs.declared.lexeme.LexKind.TheVariants as LexKind
use Rattle.tla_symbols.specs.declared.lexeme.Lexeme.{Lexeme}
use Rattle.tla_symbols.specs.declared.lexeme.LexKind.{LexKind as Kind}
use Rattle.tla_tree.specs.declared.form.Form.{Form}
use Rattle.tla_tree.specs.Syntax.{Tree, Trees, Node, Nil, Cons}
use Rattle.tla_model.specs.declared.ids.Callee.{Callee}
use Rattle.tla_model.specs.declared.ids.DeclId.{DeclId}
use Rattle.tla_model.specs.declared.ids.UnitId.{UnitId}
use Rattle.tla_model.specs.declared.entity.Entity.TheVariants as entity
use Rattle.tla_model.specs.declared.names.Binding.TheVariants as as_binding
use Rattle.tla_model.specs.declared.names.Meaning.TheVariants as meaning
use Rattle.tla_model.specs.Lexemes.{spelled}
use Rattle.tla_model.specs.Tables.{Named, Word, Symbol}
use Rattle.unit_grammar.specs.Units.{UnitTree, Variables, Constants, OperatorDefinition, FunctionDefinition, ModuleDefinition, Instance, Assumption, Theorem, ModuleBegin}
pub use Rattle.tla_model.specs.declared.names.Meaning.TheVariants.{BuiltIn, Declared}
pub use Rattle.tla_model.specs.declared.names.Binder.{Binder}

-- what a declared or bound name stands for
abbrev pub Entity : Type 0
Entity = entity.the_data

-- a symbol, or an identifier by its bytes
abbrev pub name_by : List ℕ → Kind → Named
name_by bytes (LexKind.Sym op) = Symbol op
name_by bytes _ = Word bytes

-- the name that a lexeme of the text is
abbrev pub name_of : List ℕ → Lexeme → Named
name_of source l = name_by (spelled source l) l.kind

-- what is built in, or an entity with the declaration that is called
abbrev pub Meaning : Type 0
Meaning = meaning.the_data

-- both are the same declaring name of the same module's text
abbrev pub same_decl : DeclId → DeclId → Bool
same_decl a b = bytes_eq a.«module» b.«module» && nat_eq a.place b.place

-- both came through the same INSTANCEs, in the same order
abbrev pub same_units : List UnitId → List UnitId → Bool
same_units [] [] = true
same_units (a ∷ as_) (b ∷ bs) = bytes_eq a.«module» b.«module» && nat_eq a.place b.place && same_units as_ bs
same_units _ _ = false

-- entities are the same where the declaration is, and the units through which it came
abbrev pub same_meaning : Meaning → Meaning → Bool
same_meaning BuiltIn BuiltIn = true
same_meaning (Declared e a) (Declared f b) = same_decl a.decl b.decl && same_units a.via b.via
same_meaning _ _ = false

-- ---- what a form declares or binds

-- what a name is that is declared or bound as a part of a form
abbrev pub Binding : Type 0
Binding = as_binding.the_data

-- the entity of a name with so many places that is declared or bound so
abbrev pub entity_of : Binding → ℕ → Entity
entity_of as_binding.Constant places = entity.Constant places
entity_of as_binding.Parameter places = entity.Parameter places
entity_of (as_binding.Bound state) places = entity.Bound state

-- as what a form binds names
abbrev pub binding_of : Form → Binding
binding_of (Form.OperatorDefinition l) = as_binding.Parameter
binding_of (Form.PrefixDefinition l) = as_binding.Parameter
binding_of (Form.InfixDefinition l) = as_binding.Parameter
binding_of (Form.PostfixDefinition l) = as_binding.Parameter
binding_of (Form.ModuleDefinition l) = as_binding.Parameter
binding_of Form.Lambda = as_binding.Parameter
binding_of (Form.TemporalQuantifier q) = as_binding.Bound true
binding_of _ = as_binding.Bound false

-- the name that is declared or bound at a form, with the number of its places
abbrev pub placed : Form → List (Lexeme × ℕ)
placed (Form.Name l) = (l, 0) ∷ []
placed (Form.OperatorParameter l places) = (l, places) ∷ []
placed (Form.PrefixParameter l) = (l, 1) ∷ []
placed (Form.InfixParameter l) = (l, 2) ∷ []
placed (Form.PostfixParameter l) = (l, 1) ∷ []
placed _ = []

-- the same of each of these parts; what stands inside them is not looked at
abbrev pub all_placed : Trees → List (Lexeme × ℕ)
all_placed Nil = []
all_placed (Cons (Node form s parts) rest) = placed form ++ all_placed rest

-- names with their places, as what they are bound
abbrev pub bound_as : Binding → List (Lexeme × ℕ) → List Binder
bound_as binding names = map (λ name. record { name = name.0; entity = entity_of binding name.1 }) names

-- the orders of the parameters of a definition
abbrev pub orders : Trees → List ℕ
orders parts = map (λ name. name.1) (all_placed parts)

-- the name that a definition declares, and whether it has parameters
pub data Defines : Type 0 where
  Nothing : Defines
  Operator : (l : Lexeme) → Defines
  Function : (l : Lexeme) → Defines
  Module : (l : Lexeme) → Defines

-- what a form defines, by its name; a form that is no definition defines nothing
abbrev pub defines : Form → Defines
defines (Form.OperatorDefinition l) = Operator l
defines (Form.PrefixDefinition l) = Operator l
defines (Form.InfixDefinition l) = Operator l
defines (Form.PostfixDefinition l) = Operator l
defines (Form.FunctionDefinition l) = Function l
defines (Form.ModuleDefinition l) = Module l
defines _ = Nothing

-- the name with its entity: operators and instances have orders of parameters, a function has none
abbrev pub defined_as : Defines → Trees → List Binder
defined_as Nothing parts = []
defined_as (Operator l) parts = record { name = l; entity = entity.Definition (orders parts) } ∷ []
defined_as (Function l) parts = record { name = l; entity = entity.Definition [] } ∷ []
defined_as (Module l) parts = record { name = l; entity = entity.Instance (orders parts) } ∷ []

-- the name that a definition declares
abbrev pub defined : Form → Trees → List Binder
defined form parts = defined_as (defines form) parts

-- names that are bound together, over a set or over none
abbrev pub is_group : Form → Bool
is_group Form.Names = true
is_group Form.TupleNames = true
is_group Form.Bound = true
is_group Form.TupleBound = true
is_group Form.Bounds = true
is_group _ = false

-- ---- the declaring names of a text, in its order

-- the first part of a definition stands before the symbol that it defines
abbrev pub follows_first : Form → Bool
follows_first (Form.InfixDefinition l) = true
follows_first (Form.PostfixDefinition l) = true
follows_first _ = false

-- as what the names in the parts of a form are bound
abbrev pub binding_in : Binding → Form → Binding
binding_in binding form = if is_group form then binding else binding_of form

abbrev mutual
  -- the names that a tree declares, and as what it binds them where it stands as a part
  pub declared_in : Binding → Tree → List Binder
  declared_in binding (Node form s parts) =
      bound_as binding (placed form)
      ++ (if follows_first form then declared_round form parts else defined form parts ++ declared_among (binding_in binding form) parts)

  -- the same of the parts of a form that defines a symbol behind its first part
  pub declared_round : Form → Trees → List Binder
  declared_round form Nil = defined form Nil
  declared_round form (Cons x rest) = declared_in (binding_of form) x ++ defined form (Cons x rest) ++ declared_among (binding_of form) rest

  -- the same of several trees, one after another
  pub declared_among : Binding → Trees → List Binder
  declared_among binding Nil = []
  declared_among binding (Cons x rest) = declared_in binding x ++ declared_among binding rest

-- the names that the tree of a unit declares and binds, its own among them
abbrev pub within : Tree → List Binder
within x = declared_in (as_binding.Bound false) x

-- the names of variables, as they are declared
abbrev pub variables : List Lexeme → List Binder
variables names = map (λ name. record { name = name; entity = entity.Variable }) names

-- the names that a unit declares; a nested module declares its own
abbrev pub declared_by : UnitTree → List Binder
declared_by (Variables names) = variables names
declared_by (Constants declarations) = declared_among as_binding.Constant declarations
declared_by (OperatorDefinition local x) = within x
declared_by (FunctionDefinition local x) = within x
declared_by (ModuleDefinition local x) = within x
declared_by (Instance local x) = within x
declared_by (Assumption word name x) = within x
declared_by (Theorem word name x) = within x
declared_by (ModuleBegin dashes name extends) = record { name = name; entity = entity.Module } ∷ []
declared_by _ = []

-- the declaring names of these units, in the order of the text
abbrev pub declaring : List UnitTree → List Binder
declaring [] = []
declaring (unit ∷ units) = declared_by unit ++ declaring units

-- ---- declarations

-- a text that declares names: the module's name, the bytes, and where its declaring names begin, in order
pub record Text : Type 0 where
  pub file : List ℕ
  pub source : List ℕ
  pub starts : List ℕ

-- which of these numbers is the first that is this one; their number where none is
abbrev pub place_in : List ℕ → ℕ → ℕ
place_in [] start = zero
place_in (first ∷ rest) start = if nat_eq first start then zero else suc (place_in rest start)

-- the declaration of a name: how many declaring names of the text stand before it
abbrev pub declaration : Text → Lexeme → DeclId
declaration text l = record { «module» = text.file; place = place_in text.starts l.span.start }

-- what a declared name calls
abbrev pub own : Text → Lexeme → Callee
own text l = record { instance = 0; decl = declaration text l; via = [] }

-- what a declaring name means in its own text
abbrev pub meant : Text → Binder → Meaning
meant text binder = Declared binder.entity (own text binder.name)
