-- How a check ends: with faults of imports, or with names resolved and arities looked at.
use Rattle.std.specs.Prelude.{◌≡◌, ℕ, List, [], ◌∷◌, ◌++◌, Option, None, map}
use Rattle.tla_model.specs.declared.Diagnostic.{Diagnostic}
use Rattle.module_model.specs.Bindings.{AreInOrder, decls, resolved}
use Rattle.tla_model.specs.Entities.{declaring}
use Rattle.tla_model.specs.Lexemes.{spelled}
use Rattle.module_model.specs.declared.bound.Bound.{Bound}
use Rattle.module_model.specs.declared.face.Face.{Face}
use Rattle.module_model.specs.Exports.{face_outside, files_of}
use Rattle.module_model.specs.Given.{IsFaceOver}
use Rattle.module_model.specs.Imports.{Imports}
use Rattle.module_model.specs.Modules.{text_of}
use Rattle.module_model.specs.Resolution.{findings, outside_in}
use Rattle.module_facts.specs.Checks.{CheckedModule, name_faults}
use Rattle.symbol_scope.specs.Exporting.{IsShown}
use Rattle.unit_grammar.specs.Units.{ModuleUnits}

-- with these faults of imports
pub record IsRefused (all : List Diagnostic) (checked : CheckedModule) : Type 0 where
  pub faults : AreInOrder all checked.faults
  pub uses : checked.uses ≡ []
  pub decls : checked.decls ≡ []

-- with what its names stand for
pub record IsResolved (imports : Imports) (source : List ℕ) (units : ModuleUnits) (checked : CheckedModule) : Type 0 where
  pub faults : AreInOrder (name_faults (findings (files_of imports) source units) units) checked.faults
  pub uses : checked.uses ≡ map (λ r. r.«use») (resolved (findings (files_of imports) source units))
  pub decls : checked.decls ≡ decls (text_of source units) (declaring units.units)

-- the face, unless there is a fault
abbrev pub face_unless : List Diagnostic → Option Face → Option Face
face_unless [] face = face
face_unless (fault ∷ rest) face = None

-- what names stand for, with faults of arities among those of names, and the face where there is none
pub record IsJudged (imports : Imports) (source : List ℕ) (units : ModuleUnits) (bound : Bound) (face : Option Face) : Type 0 where
  pub uses : bound.uses ≡ map (λ r. r.«use») (resolved (findings (files_of imports) source units))
  pub decls : bound.decls ≡ decls (text_of source units) (declaring units.units)
  pub faults : AreInOrder (name_faults (findings (files_of imports) source units) units) bound.faults
  pub shown : IsShown imports source units bound.faults face

-- what was found, with these faults of arities
pub record IsWithArities (arities : List Diagnostic) (before : Bound) (face : Option Face) (after : Bound) (face_after : Option Face) : Type 0 where
  pub uses : after.uses ≡ before.uses
  pub decls : after.decls ≡ before.decls
  pub faults : AreInOrder (before.faults ++ arities) after.faults
  pub shown : face_after ≡ face_unless arities face

-- the face of a module with these faults: it holds what its exports reach, and is to others what the module is where it has none
pub record IsFaceWith (imports : Imports) (source : List ℕ) (units : ModuleUnits) (faults : List Diagnostic) (face : Face) : Type 0 where
  pub outside : faults ≡ [] → face_outside face ≡ outside_in (files_of imports) source units
  pub over : IsFaceOver imports (spelled source units.name) face
