-- What is found of a module goes by what modules are to its names, and by what is found of its levels and depths.
use mathlib.Core.Path.{fun_ext}
use Rattle.std.proofs.Common.{◌≡◌, ℕ, List, [], ◌∷◌, refl, sym, ap, ◌∙◌, map}
use Rattle.tla_model.specs.declared.Diagnostic.{Diagnostic}
use Rattle.unit_grammar.specs.Units.{ModuleUnits}
use Rattle.module_model.specs.Resolution.{outside_in}
use Rattle.module_facts.specs.Checks as names
use Rattle.module_facts.specs.Checks.{ImportStatus, files_given, or_others}
use Rattle.module_facts.specs.Ordered.{in_order}
use Rattle.module_kinds.specs.ModuleKinds.{depth_faults, level_faults, level_findings, or_levels, too_deep, outside as module_outside}
use Rattle.leveled_facts.specs.Modules.{Status, all_faults, import_status, imports, leveled_by, leveled_use, levels_by, outsides}
use Rattle.alike_modules.specs.Alike.{AreFoundAlike}

-- the view of a module by what modules are to names
abbrev pub IsViewGiven : (List ℕ → Status) → List ℕ → ModuleUnits → Type 0
IsViewGiven given source units = (module_outside (outsides given) source units).view ≡ outside_in (files_given (imports given)) source units

module _ (given others : List ℕ → Status) (source : List ℕ) (units : ModuleUnits) (same : (other : List ℕ) → import_status (given other) ≡ import_status (others other)) where
  imports-same : imports given ≡ imports others
  imports-same = fun_ext same

  decls-same : names.all_decls (imports given) source units ≡ names.all_decls (imports others) source units
  decls-same = ap (λ (modules : List ℕ → ImportStatus). names.all_decls modules source units) imports-same

  view-same : IsViewGiven given source units → IsViewGiven others source units → (module_outside (outsides given) source units).view ≡ (module_outside (outsides others) source units).view
  view-same one two = one ∙ (ap (λ (modules : List ℕ → ImportStatus). outside_in (files_given modules) source units) imports-same ∙ sym two)

  -- where the faults are the same, and the levels of what has none, the same is found
  found-alike : IsViewGiven given source units → IsViewGiven others source units
      → (faults-same : all_faults given source units ≡ all_faults others source units)
      → levels_by given source units (all_faults given source units) ≡ levels_by others source units (all_faults others source units)
      → AreFoundAlike (leveled_by given source units) (leveled_by others source units)
  found-alike one two faults-same levels-same = record {
    faults = ap in_order faults-same;
    uses = λ i. map (leveled_use (levels-same i)) (names.all_uses (imports-same i) source units);
    decls = decls-same;
    view = view-same one two;
  }

  -- with what is found of levels and depths
  module _ (levels : level_findings (outsides given) source units ≡ level_findings (outsides others) source units) (depths : too_deep (outsides given) source units ≡ too_deep (outsides others) source units) where
    faults-same : all_faults given source units ≡ all_faults others source units
    faults-same = λ i. or_others (names.all_faults (imports-same i) source units) (or_levels (depth_faults (depths i)) (level_faults (levels i)))

    levels-by : (faults : List Diagnostic) → levels_by given source units faults ≡ levels_by others source units faults
    levels-by [] = levels
    levels-by (fault ∷ faults) = refl

    -- a module is found alike where the same is found of its levels and depths
    pub module-alike : IsViewGiven given source units → IsViewGiven others source units → AreFoundAlike (leveled_by given source units) (leveled_by others source units)
    module-alike one two = found-alike one two faults-same (levels-by (all_faults given source units) ∙ ap (levels_by others source units) faults-same)

  -- with faults before all levels
  module _ (fault : Diagnostic) (rest : List Diagnostic) (first : names.all_faults (imports given) source units ≡ fault ∷ rest) where
    first-of-others : names.all_faults (imports others) source units ≡ fault ∷ rest
    first-of-others = sym (ap (λ (modules : List ℕ → ImportStatus). names.all_faults modules source units) imports-same) ∙ first

    all-given : all_faults given source units ≡ fault ∷ rest
    all-given = ap (λ (faults : List Diagnostic). or_others faults (or_levels (depth_faults (too_deep (outsides given) source units)) (level_faults (level_findings (outsides given) source units)))) first

    all-others : all_faults others source units ≡ fault ∷ rest
    all-others = ap (λ (faults : List Diagnostic). or_others faults (or_levels (depth_faults (too_deep (outsides others) source units)) (level_faults (level_findings (outsides others) source units)))) first-of-others

    -- a module with such faults is found alike
    pub refused-alike : IsViewGiven given source units → IsViewGiven others source units → AreFoundAlike (leveled_by given source units) (leveled_by others source units)
    refused-alike one two = found-alike one two (all-given ∙ sym all-others) (ap (levels_by given source units) all-given ∙ sym (ap (levels_by others source units) all-others))
