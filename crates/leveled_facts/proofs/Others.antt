-- What is at fault first, and what modules are to the names of one that names them.
use Rattle.std.proofs.Common.{◌≡◌, ◌≢◌, ℕ, List, [], ◌∷◌, refl, sym, ap}
use mathlib.Core.Path.{fun_ext}
use Rattle.tla_model.specs.declared.Diagnostic.{Diagnostic}
use Rattle.unit_grammar.specs.Units.{ModuleUnits}
use Rattle.module_model.specs.Exports.{ModuleView}
use Rattle.module_model.specs.Resolution.{findings, outside_in}
use Rattle.module_facts.specs.Checks as names
use Rattle.module_facts.specs.Checks.{files_given, import_faults, name_faults, or_others}
use Rattle.module_kinds.specs.ModuleKinds.{kind_faults, outside as module_outside}
use Rattle.leveled_facts.specs.Modules.{Status, Unknown, Cyclic, Refused, Accepted, all_faults, import_status, imports, outside_by, outsides}

-- ---- faults

none-first : (faults others : List Diagnostic) → or_others faults others ≡ [] → faults ≡ []
none-first [] others e = refl
none-first (fault ∷ faults) others e = cc

none-behind : (faults others : List Diagnostic) → or_others faults others ≡ [] → others ≡ []
none-behind [] others e = e
none-behind (fault ∷ faults) others e = cc

-- where some are at fault first, these are all
some-first : (faults others : List Diagnostic) → faults ≢ [] → or_others faults others ≡ faults
some-first [] others some = absurd (some refl)
some-first (fault ∷ faults) others some = refl

module _ (given : List ℕ → Status) (source : List ℕ) (units : ModuleUnits) where
  module _ (none : all_faults given source units ≡ []) where
    names-none : names.all_faults (imports given) source units ≡ []
    names-none = none-first (names.all_faults (imports given) source units) (kind_faults (outsides given) source units) none

    -- without faults no import is at fault
    pub imports-none : import_faults (imports given) source units ≡ []
    imports-none = none-first (import_faults (imports given) source units) (name_faults (findings (files_given (imports given)) source units) units) names-none

    -- no name and no arity
    pub name-faults-none : name_faults (findings (files_given (imports given)) source units) units ≡ []
    name-faults-none = none-behind (import_faults (imports given) source units) (name_faults (findings (files_given (imports given)) source units) units) names-none

    -- and no depth and no level
    pub kinds-none : kind_faults (outsides given) source units ≡ []
    kinds-none = none-behind (names.all_faults (imports given) source units) (kind_faults (outsides given) source units) none

  -- faults of names are all there are, where there are some
  pub names-first : names.all_faults (imports given) source units ≢ [] → all_faults given source units ≡ names.all_faults (imports given) source units
  names-first = some-first (names.all_faults (imports given) source units) (kind_faults (outsides given) source units)

-- ---- views

status-view : (status : Status) → names.outside_by (import_status status) ≡ (outside_by status).view
status-view Unknown = refl
status-view Cyclic = refl
status-view Refused = refl
status-view (Accepted outside) = refl

module _ (given : List ℕ → Status) where
  -- what a module is to names is the view of what it is to all of one that names it
  pub view-given : (name : List ℕ) → files_given (imports given) name ≡ (outsides given name).view
  view-given name = status-view (given name)

  pub views-given : files_given (imports given) ≡ (λ (name : List ℕ). (outsides given name).view)
  views-given = fun_ext view-given

  -- and so is what the module is to others
  pub outside-view : (source : List ℕ) (units : ModuleUnits) → (module_outside (outsides given) source units).view ≡ outside_in (files_given (imports given)) source units
  outside-view source units = ap (λ (files : List ℕ → ModuleView). outside_in files source units) (sym views-given)
