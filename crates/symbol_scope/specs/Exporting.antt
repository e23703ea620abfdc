-- What a module is to those that name it, where it has no fault.
use Rattle.std.specs.Prelude.{◌≡◌, ℕ, List, [], ◌∷◌, ⊤, Option, None, Some}
use Rattle.tla_model.specs.declared.Diagnostic.{Diagnostic}
use Rattle.tla_model.specs.Lexemes.{spelled}
use Rattle.unit_grammar.specs.Units.{ModuleUnits}
use Rattle.module_model.specs.declared.face.Face.{Face}
use Rattle.module_model.specs.Exports.{ModuleView, face_outside, files_of}
use Rattle.module_model.specs.Given.{IsFaceOver}
use Rattle.module_model.specs.Imports.{Imports}
use Rattle.module_model.specs.Resolution.{outside_in}

-- the face of a module of this title, which is this to others
pub record IsFaceOf (imports : Imports) (title : List ℕ) (view : ModuleView) (face : Face) : Type 0 where
  pub outside : face_outside face ≡ view
  pub over : IsFaceOver imports title face

-- a face is there exactly where there is no fault
abbrev pub IsFaceUnless : List Diagnostic → Imports → List ℕ → ModuleView → Option Face → Type 0
IsFaceUnless [] imports title view (Some face) = IsFaceOf imports title view face
IsFaceUnless [] imports title view None = ⊥
IsFaceUnless (fault ∷ rest) imports title view (Some face) = ⊥
IsFaceUnless (fault ∷ rest) imports title view None = ⊤

-- the face of a module, by its imports and its source, where it has none of these faults
abbrev pub IsShown : Imports → List ℕ → ModuleUnits → List Diagnostic → Option Face → Type 0
IsShown imports source units faults face = IsFaceUnless faults imports (spelled source units.name) (outside_in (files_of imports) source units) face
