-- What modules are to others is steady, and has no name that is built in.
use Rattle.std.proofs.Common.{◌≡◌, ℕ, List, Option, Some, None, refl}
use Rattle.std.specs.Arc.{arc_value}
use Rattle.tla_symbols.specs.declared.lexeme.Lexeme.{Lexeme}
use Rattle.unit_grammar.specs.Derivation.{DerivesModule}
use Rattle.unit_grammar.specs.Units.{ModuleUnits}
use Rattle.module_model.specs.declared.face.Face.{Face}
use Rattle.module_model.specs.declared.imported.Import.{Import}
use Rattle.module_model.specs.Given.{face_of, imported}
use Rattle.module_model.specs.Exports.{ModuleView, exported, face_outside, files_of, import_outside, parameters_in}
use Rattle.module_model.specs.Imports.{Imports, import_of}
use Rattle.module_model.specs.Resolution.{outside_in}
use Rattle.readable_laws.specs.Steady.{IsSteadyView}
use Rattle.accepted_modules.specs.Beside.{IsBeside}
use Rattle.accepted_modules.specs.Coming.{ComesOfModules, no_module, a_module}
use Rattle.accepted_modules.specs.Named.{AllNamed}
use Rattle.accepted_modules.proofs.Beside.{outside-beside}
use Rattle.accepted_modules.specs.Offered.{IsOffered}
use Rattle.accepted_modules.proofs.Symbols.{outside-offered}
use Rattle.accepted_modules.proofs.Reading.{front-derives}

pub steady-of : ((files : List ℕ → ModuleView) (source : List ℕ) (units : ModuleUnits) (a : List Lexeme) → DerivesModule units a → ((name : List ℕ) → IsSteadyView (files name)) → IsSteadyView (outside_in files source units)) → {view : ModuleView} → ComesOfModules view → IsSteadyView view
steady-of stays no_module = record { entries = tt; behind = λ path name m at. absurd (cc) }
steady-of stays (a_module {files = files} {name = name} {bytes = bytes} {units = units} front over) =
    let derives = front-derives name bytes units front in
    stays files bytes units derives.0 derives.1 (λ title. steady-of stays (over title))

pub beside-of : {view : ModuleView} → ComesOfModules view → AllNamed IsBeside view
beside-of no_module = record { entries = tt; parameters = tt; once = tt }
beside-of (a_module {files = files} {bytes = bytes} {units = units} front over) = outside-beside files bytes units (λ title. beside-of (over title))

pub offered-of : {view : ModuleView} → ComesOfModules view → AllNamed IsOffered view
offered-of no_module = record { entries = tt; parameters = tt; once = tt }
offered-of (a_module {files = files} {bytes = bytes} {units = units} front over) = outside-offered files bytes units (λ title. offered-of (over title))

pub parameters-of : {view : ModuleView} → ComesOfModules view → view.parameters ≡ parameters_in (exported view)
parameters-of no_module = refl
parameters-of (a_module front over) = refl

pub imports-come : (imports : Imports) → ((name : List ℕ) (face : Face) → imported imports name ≡ Some face → ComesOfModules (face_outside face)) → (name : List ℕ) → ComesOfModules (files_of imports name)
imports-come imports each name = by (import_of imports name) (each name)
  where
    by : (o : Option Import) → ((face : Face) → face_of o ≡ Some face → ComesOfModules (face_outside face)) → ComesOfModules (import_outside o)
    by None each = no_module
    by (Some Import.Unknown) each = no_module
    by (Some Import.Cyclic) each = no_module
    by (Some Import.Refused) each = no_module
    by (Some (Import.Module face)) each = each (arc_value face) refl
