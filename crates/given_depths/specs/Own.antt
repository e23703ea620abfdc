-- How deep what a module declares is: as deep as it is behind the unit that declares it, or through which it comes.
use Rattle.std.specs.Prelude.{◌≡◌, ℕ, Bool, true, false, List, [], ◌∷◌, if◌then◌else◌, is_some, map}
use Rattle.std.specs.List.{AllByRecursion}
use Rattle.std.specs.Str.{bytes_eq}
use Rattle.tla_tree.specs.declared.form.Form.TheVariants as Form
use Rattle.tla_tree.specs.Syntax.{Tree, Node}
use Rattle.unit_grammar.specs.Units.{UnitTree, OperatorDefinition, FunctionDefinition, ModuleDefinition, Instance, ModuleBegin, ModuleUnits}
use Rattle.tla_model.specs.declared.entity.Entity.TheVariants as entity
use Rattle.tla_model.specs.declared.ids.DeclId.{DeclId}
use Rattle.tla_model.specs.declared.ids.UnitId.{UnitId}
use Rattle.tla_model.specs.declared.names.Meaning.TheVariants.{BuiltIn, Declared}
use Rattle.tla_model.specs.Entities.{Meaning, Text, meant}
use Rattle.tla_model.specs.Scopes.{definition}
use Rattle.tla_model.specs.Tables.{Named}
use Rattle.module_model.specs.Exports.{Exports}
use Rattle.module_model.specs.Modules.{text_of}
use Rattle.module_model.specs.NamedModules.{view_of}
use Rattle.module_model.specs.Resolution.{instance_brings, module_named, words_of}
use Rattle.tree_kinds.specs.Standing.{Outside, Reached, name_among}
use Rattle.module_kinds.specs.ModuleKinds.{KindState, after, depths_behind, first, views}
use Rattle.flat_kinds.specs.Readings.{is_among}
use Rattle.given_depths.specs.Given.{GivenDepths, given_depth}

-- these entries, if there are parameters
abbrev pub if_replaced : Exports → Exports → Exports
if_replaced [] entries = []
if_replaced (parameter ∷ parameters) entries = entries

-- a name that means what is declared so, and came through these units
abbrev pub declared_as : DeclId → List UnitId → Meaning
declared_as decl via = Declared (entity.Definition []) (record { instance = 0; decl = decl; via = via })

-- a name is declared in another module than this, and came through INSTANCEs of others
abbrev pub IsOfOthers : List ℕ → Meaning → Type 0
IsOfOthers title BuiltIn = Unit {0}
IsOfOthers title (Declared e callee) = (bytes_eq callee.decl.«module» title ≡ false) × AllByRecursion (λ unit. bytes_eq unit.«module» title ≡ false) callee.via

module _ (text : Text) (files : List ℕ → Outside) (words : List ℕ) where
  -- what an INSTANCE without a name brings that replaces parameters
  abbrev pub own_brings : KindState → Tree → Exports
  own_brings state (Node (Form.Instance l) s rights) =
      if_replaced (view_of text (module_named text (views text files words) words state.read) l).parameters
      (instance_brings text (views text files words) words state.read (Node (Form.Instance l) s rights))
  own_brings state x = []

  -- a unit declares a name, or is an INSTANCE through which it comes
  abbrev pub is_own : KindState → UnitTree → Meaning → Bool
  is_own state (OperatorDefinition local x) meaning = is_among (map (meant text) (definition x)) meaning
  is_own state (FunctionDefinition local x) meaning = is_among (map (meant text) (definition x)) meaning
  is_own state (ModuleDefinition local x) meaning = is_among (map (meant text) (definition x)) meaning
  is_own state (Instance local x) meaning = is_some (name_among (own_brings state x) meaning)
  is_own state unit meaning = false

  -- all that a unit does not leave is so: it is no INSTANCE of a module without parameters, and begins no nested module
  abbrev pub HasOwnNames : KindState → UnitTree → Type 0
  HasOwnNames state (Instance local x) = own_brings state x ≡ instance_brings text (views text files words) words state.read x
  HasOwnNames state (ModuleBegin dashes name extends) = ⊥
  HasOwnNames state unit = Unit {0}

  -- a name is so by none of these units
  abbrev pub IsOfNone : KindState → List UnitTree → Meaning → Type 0
  IsOfNone state [] meaning = Unit {0}
  IsOfNone state (unit ∷ units) meaning = (is_own state unit meaning ≡ false) × IsOfNone (after text files words state unit) units meaning

  -- no name is so by two of these units
  abbrev pub AreOwnApart : KindState → List UnitTree → Type 0
  AreOwnApart state [] = Unit {0}
  AreOwnApart state (unit ∷ units) =
      ((meaning : Meaning) → is_own state unit meaning ≡ true → IsOfNone (after text files words state unit) units meaning) × AreOwnApart (after text files words state unit) units

  -- how deep a name is behind the first of these units by which it is so; or else as is given
  abbrev pub own_depth : GivenDepths → KindState → List UnitTree → Meaning → List Named → Reached
  own_depth given state [] meaning path = given_depth given meaning path
  own_depth given state (unit ∷ units) meaning path =
      if is_own state unit meaning then depths_behind text files words state unit meaning path else own_depth given (after text files words state unit) units meaning path

-- with how deep what a module declares is
abbrev pub with_own_depths : (List ℕ → Outside) → List ℕ → ModuleUnits → GivenDepths → GivenDepths
with_own_depths files source units given decl via path =
    own_depth (text_of source units) files (words_of units) given (first files source units) units.units (declared_as decl via) path
