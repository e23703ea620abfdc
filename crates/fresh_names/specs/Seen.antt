-- Where a name that was seen comes from, if not from the unit that is looked at; and what units bring of other modules.
use Rattle.std.specs.Prelude.{◌≡◌, ◌⊎◌, false, ℕ, List, [], ◌∷◌, ◌++◌}
use Rattle.std.specs.Str.{bytes_eq}
use Rattle.unit_grammar.specs.Units.{UnitTree, Variables, Constants, Instance, ModuleBegin}
use Rattle.tla_model.specs.declared.ids.DeclId.{DeclId}
use Rattle.tla_model.specs.declared.names.Binder.{Binder}
use Rattle.tla_model.specs.declared.names.Meaning.TheVariants.{BuiltIn, Declared}
use Rattle.tla_model.specs.Entities.{Meaning, Text, declaration, same_units, variables}
use Rattle.tla_model.specs.Lexemes.{spelled}
use Rattle.module_scope.specs.Environments.{begun}
use Rattle.module_model.specs.Modules.{constants}
use Rattle.module_model.specs.Resolution.{instance_brings}
use Rattle.tree_kinds.specs.Standing.{Outside}
use Rattle.module_kinds.specs.ModuleKinds.{KindState, views}
use Rattle.flattened_units.specs.Units.{Reader, meanings_of}
use Rattle.module_meanings.specs.Premises.{extended_meanings}

-- the constants and variables that units declare
abbrev pub symbols_in : List UnitTree → List Binder
symbols_in [] = []
symbols_in (Variables names ∷ units) = variables names ++ symbols_in units
symbols_in (Constants declarations ∷ units) = constants declarations ++ symbols_in units
symbols_in (unit ∷ units) = symbols_in units

module _ (text : Text) where
  -- it is declared by one of these names
  abbrev pub IsDeclaredBy : List Binder → DeclId → Type 0
  IsDeclaredBy [] decl = ⊥
  IsDeclaredBy (binder ∷ rest) decl = (decl ≡ declaration text binder.name) ⊎ IsDeclaredBy rest decl

  -- it is built in, came through an INSTANCE, or is declared in another text or by one of these names
  abbrev pub IsElsewhere : List Binder → Meaning → Type 0
  IsElsewhere others BuiltIn = Unit {0}
  IsElsewhere others (Declared entity callee) = (same_units [] callee.via ≡ false) ⊎ ((bytes_eq callee.decl.«module» text.file ≡ false) ⊎ IsDeclaredBy others callee.decl)

  -- what a unit brings, by the reader behind it: an INSTANCE without a name what its module exports, and a nested module its symbols and
  -- what it extends
  abbrev pub brought_by : (List ℕ → Outside) → List ℕ → KindState → UnitTree → Reader → List Meaning
  brought_by outsides words state (Instance local x) next = meanings_of (instance_brings text (views text outsides words) words state.read x)
  brought_by outsides words state (ModuleBegin dashes name extends) next =
      next.setting.frame ++ extended_meanings text outsides words (begun state.modules (spelled text.source name)) extends
  brought_by outsides words state unit next = []
