-- What each declaration declares, in a text and in the modules that it names: a name, as an entity.
use Rattle.std.specs.Prelude.{◌≡◌, ℕ, Bool, true, false, List, [], ◌∷◌, Option, Some, None, slice_get}
use Rattle.std.specs.List.{AllByRecursion}
use Rattle.std.specs.Str.{bytes_eq}
use Rattle.unit_grammar.specs.Units.{UnitTree, Variables, Constants, OperatorDefinition, FunctionDefinition, ModuleDefinition, ModuleUnits}
use Rattle.tla_model.specs.declared.ids.DeclId.{DeclId}
use Rattle.tla_model.specs.declared.names.Binder.{Binder}
use Rattle.tla_model.specs.declared.names.Meaning.TheVariants.{BuiltIn, Declared}
use Rattle.tla_model.specs.Tables.{Table, Named, same_symbol}
use Rattle.tla_model.specs.Entities.{Entity, Meaning, Text, declaring, meant, name_of, variables}
use Rattle.tla_model.specs.EntityKinds.{stands_behind, stands_for_parameter}
use Rattle.tla_model.specs.Lexemes.{spelled}
use Rattle.tla_model.specs.Scopes.{definition}
use Rattle.module_scope.specs.Environments.{Environment}
use Rattle.module_model.specs.Exports.{Exports, ModuleView, exported, exports_of}
use Rattle.module_model.specs.Modules.{Reading, constants}
use Rattle.tree_kinds.specs.Standing.{Environment as Standing, Outside}
use Rattle.module_kinds.specs.ModuleKinds.{KindState}
use Rattle.flat_kinds.specs.Symbols.{AreDistinct}

-- the name and the entity of each declaration
abbrev pub Declarations : Type 0
Declarations = DeclId → Named × Entity

-- the names that a unit declares or defines in its module
abbrev pub declared_names : UnitTree → List Binder
declared_names (Variables names) = variables names
declared_names (Constants declarations) = constants declarations
declared_names (OperatorDefinition local x) = definition x
declared_names (FunctionDefinition local x) = definition x
declared_names (ModuleDefinition local x) = definition x
declared_names unit = []

-- no two of these numbers are the same
abbrev pub StandApart : List ℕ → Type 0
StandApart starts = (i j start : ℕ) → slice_get starts i ≡ Some start → slice_get starts j ≡ Some start → i ≡ j

-- what is said of a module that is known holds, where it is
abbrev pub OfKnown : {Known : Type 0} → (Known → Type 0) → Option Known → Type 0
OfKnown says None = Unit {0}
OfKnown says (Some known) = says known

-- the same of each module that can be named
abbrev pub OfAllKnown : {Known : Type 0} → (Known → Type 0) → Environment Known → Type 0
OfAllKnown says modules = AllByRecursion (λ named. OfKnown says named.1) modules

-- each key of these entries once
abbrev pub EachOnce : {K V : Type 0} → (K → K → Bool) → List (K × V) → Type 0
EachOnce same [] = Unit {0}
EachOnce same (entry ∷ rest) = AllByRecursion (λ other. same other.0 entry.0 ≡ false) rest × EachOnce same rest

-- each name of a table once
abbrev pub IsOnce : {V : Type 0} → Table V → Type 0
IsOnce table = EachOnce bytes_eq table.words × EachOnce same_symbol table.symbols

module _ (declares : Declarations) where
  -- a name means this by its declaration
  abbrev pub IsDeclared : Named → Meaning → Type 0
  IsDeclared name BuiltIn = Unit {0}
  IsDeclared name (Declared e callee) = declares callee.decl ≡ (name, e)

  -- the same of entries
  abbrev pub AreDeclared : Exports → Type 0
  AreDeclared entries = AllByRecursion (λ entry. IsDeclared entry.0 entry.1) entries

  -- the declaration at each place of a text declares the name that stands there, as its entity
  abbrev pub HasPlaces : List ℕ → ModuleUnits → Type 0
  HasPlaces source units =
      (place : ℕ) (binder : Binder) → slice_get (declaring units.units) place ≡ Some binder
      → declares (record { «module» = spelled source units.name; place = place }) ≡ (name_of source binder.name, binder.entity)

  -- what a module exports is declared so
  abbrev pub IsViewDeclared : ModuleView → Type 0
  IsViewDeclared view = AreDeclared (exported view)

  -- the same of a module with what stands for its names
  abbrev pub IsOutsideDeclared : Outside → Type 0
  IsOutsideDeclared outside = IsViewDeclared outside.view

  -- names of a text are declared so
  abbrev pub AreNamesDeclared : Text → List Binder → Type 0
  AreNamesDeclared text names = AllByRecursion (λ binder. IsDeclared (name_of text.source binder.name) (meant text binder)) names

  -- those of these units
  abbrev pub AreUnitsDeclared : Text → List UnitTree → Type 0
  AreUnitsDeclared text units = AllByRecursion (λ unit. AreNamesDeclared text (declared_names unit)) units

  -- what a module that is read exports so far has names of its own and is declared so, and so is what the modules export that can be
  -- named there
  pub record IsReadingDeclared (reading : Reading) : Type 0 where
    pub once : IsOnce reading.exports
    pub exports : AreDeclared (exports_of reading.exports)
    pub modules : OfAllKnown IsViewDeclared reading.modules

  -- the same of a state, and of the modules round the one that is read
  pub record IsStateDeclared (state : KindState) : Type 0 where
    pub here : IsReadingDeclared state.read.place.here
    pub round : AllByRecursion IsReadingDeclared state.read.place.round
    pub modules : OfAllKnown IsOutsideDeclared state.modules.here
    pub modules_round : AllByRecursion (λ nested. OfAllKnown IsOutsideDeclared nested.1) state.modules.round

  -- by its declaration this is no definition and no instance
  abbrev pub IsNoDefinition : Meaning → Type 0
  IsNoDefinition BuiltIn = Unit {0}
  IsNoDefinition (Declared e callee) = stands_behind (declares callee.decl).1 ≡ false

  -- nothing stands in for what is no definition and no instance
  abbrev pub PassesSymbols : KindState → Type 0
  PassesSymbols state = (meaning : Meaning) → IsNoDefinition meaning → (parameters : Standing) → state.standing parameters meaning ≡ parameters meaning

  -- a state has what is declared, and nothing stands in for symbols
  pub record KeepsDeclarations (state : KindState) : Type 0 where
    pub declared : IsStateDeclared state
    pub passes : PassesSymbols state

  -- by its declaration this is a constant or a variable
  abbrev pub IsSymbol : Meaning → Type 0
  IsSymbol BuiltIn = ⊥
  IsSymbol (Declared e callee) = stands_for_parameter (declares callee.decl).1 ≡ true

  -- these are symbols, and no two of them mean the same
  pub record AreSymbols (symbols : List Meaning) : Type 0 where
    pub distinct : AreDistinct symbols
    pub declared : AllByRecursion IsSymbol symbols
