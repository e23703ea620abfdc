-- What is found of a module, its levels and depths among it, by what the modules are that it names.
use Rattle.std.specs.Prelude.{ℕ, List, [], ◌∷◌, map}
use Rattle.tla_model.specs.declared.Diagnostic.{Diagnostic}
use Rattle.tla_model.specs.declared.entity.Decl.{Decl}
use Rattle.tla_model.specs.declared.entity.Use.{Use}
use Rattle.unit_grammar.specs.Units.{ModuleUnits}
use Rattle.module_facts.specs.Checks as names
use Rattle.module_facts.specs.Checks.{ImportStatus, or_others}
use Rattle.module_facts.specs.Ordered.{in_order}
use Rattle.tree_kinds.specs.Standing.{Outside}
use Rattle.tree_kinds.specs.TreeLevels.{LevelFinding}
use Rattle.module_kinds.specs.ModuleKinds.{kind_faults, level_findings, level_of, nowhere, outside as module_outside}

-- what a module is to one that names it
pub data Status : Type 0 where
  Unknown : Status
  Cyclic : Status
  Refused : Status
  Accepted : (outside : Outside) → Status

-- the same to its names alone
abbrev pub import_status : Status → ImportStatus
import_status Unknown = names.Unknown
import_status Cyclic = names.Cyclic
import_status Refused = names.Refused
import_status (Accepted outside) = names.Accepted outside.view

-- what an accepted module is to others; another one is nothing to them
abbrev pub outside_by : Status → Outside
outside_by (Accepted outside) = outside
outside_by _ = nowhere

-- a use with its level
abbrev pub leveled_use : List LevelFinding → Use → Use
leveled_use found u = record { name = u.name; «module» = u.«module»; place = u.place; level = level_of found u.name.start }

module _ (given : List ℕ → Status) where
  -- what the modules of all names are to the names of this one
  abbrev pub imports : List ℕ → ImportStatus
  imports name = import_status (given name)

  -- and what they are to all of it
  abbrev pub outsides : List ℕ → Outside
  outsides name = outside_by (given name)

  module _ (source : List ℕ) (units : ModuleUnits) where
    -- what is at fault: imports, or else names and arities, or else depths, or else levels
    abbrev pub all_faults : List Diagnostic
    all_faults = or_others (names.all_faults imports source units) (kind_faults outsides source units)

    -- what is found of levels, if the module is accepted
    abbrev pub levels_by : List Diagnostic → List LevelFinding
    levels_by [] = level_findings outsides source units
    levels_by (fault ∷ faults) = []

    -- the uses of names, with their levels where the module is accepted
    abbrev pub all_uses : List Use
    all_uses = map (leveled_use (levels_by all_faults)) (names.all_uses imports source units)

-- all that is found of a module: its faults, the uses of its names, the names that it declares, and what it is to others where it has no faults
pub record Leveled : Type 0 where
  pub faults : List Diagnostic
  pub uses : List Use
  pub decls : List Decl
  pub outside : Outside

-- this is found of a module without front fault
abbrev pub leveled_by : (List ℕ → Status) → List ℕ → ModuleUnits → Leveled
leveled_by given source units =
    record {
      faults = in_order (all_faults given source units);
      uses = all_uses given source units;
      decls = names.all_decls (imports given) source units;
      outside = module_outside (outsides given) source units;
    }

-- and this of one with a front fault
abbrev pub front_refused : Diagnostic → Leveled
front_refused fault = record { faults = fault ∷ []; uses = []; decls = []; outside = nowhere }
