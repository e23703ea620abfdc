-- What an INSTANCE brings, by whether its module has parameters.
use Rattle.std.proofs.Common.{◌≡◌, [], ◌∷◌, refl}
use Rattle.tla_model.specs.declared.ids.UnitId.{UnitId}
use Rattle.module_model.specs.Exports.{Exports, instantiable}
use Rattle.module_model.specs.Instances.{brought_entries}
use Rattle.name_exports.specs.Brought.{behind_through}
use Rattle.instance_leads.specs.Found.{unit_if}

-- what an INSTANCE brings of a module with these parameters
pub brought-as : (parameters entries : Exports) (unit : UnitId) → behind_through (unit_if parameters unit) entries ≡ brought_entries unit parameters (instantiable entries)
brought-as [] entries unit = refl
brought-as (parameter ∷ parameters) entries unit = refl
