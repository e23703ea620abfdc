-- What code finds of the levels of a module, by what was found of its names, its symbols and its constancy.
use Rattle.std.proofs.Common.{◌≡◌, ℕ, Bool, List, [], Option, Some, None, Result, Ok, Err, IfOk, refl, sym, ap, ◌∙◌, subst}
use mathlib.Core.Path.{fun_ext}
use Rattle.std.specs.Prelude.{unwrap_or}
use Rattle.tool_list.specs.declared.Memory.{Memory}
use Rattle.unit_grammar.specs.Units.{ModuleUnits}
use Rattle.tla_model.specs.Entities.{Meaning}
use Rattle.module_model.specs.Exports.{Exports, exports_of, files_of}
use Rattle.module_model.specs.Imports.{Imports}
use Rattle.module_model.specs.Resolution.{findings, outside_in}
use Rattle.tree_kinds.specs.Standing.{Outside}
use Rattle.module_kinds.specs.ModuleKinds.{last as last_state, outside}
use Rattle.flattened_trees.specs.Leads.{FlatFace}
use Rattle.flattened_units.specs.Units.{IsModuleMade, meanings_of}
use Rattle.readable_laws.specs.Uses.{implied_by, means_by}
use Rattle.tree_flattener.specs.Found.{listed_in}
use Rattle.tree_flattener.specs.Worlds.{implied_of, means_of}
use Rattle.tree_flattener.specs.declared.written.Written.{Written}
use Rattle.module_leads.specs.Leading.{face_over}
use Rattle.module_constancy.specs.Places.{IsConstancyOf}
use Rattle.module_levels.specs.Kept.{IsLeveled}
use Rattle.module_levels.specs.declared.levels.ModuleLevels.{ModuleLevels}
use Rattle.module_levels.specs.declared.tables.LevelTables.{LevelTables}
use Rattle.leveled_modules.specs.Leveled.{AreFilesOf, IsModuleLeveled, names_found}
use Rattle.leveled_modules.specs.Parts.{constant_files}

-- symbols that may be listed
pub listed-or-none : (kept : Option (List Meaning)) → listed_in kept ≡ unwrap_or kept []
listed-or-none None = refl
listed-or-none (Some symbols) = refl

module _ (imports : Imports) (faces : List ℕ → FlatFace) (outsides : List ℕ → Outside) (source : List ℕ) (units : ModuleUnits) (files : AreFilesOf faces imports outsides) where
  -- what is found of names is found over the imports
  names-found : findings (files_of imports) source units ≡ names_found outsides source units
  names-found = ap (λ views. findings views source units) (sym files.names)

  -- symbols of a module over its imports are those of the module over its files
  symbols-are : (symbols : Exports) → symbols ≡ (outside_in (files_of imports) source units).parameters → symbols ≡ (outside outsides source units).view.parameters
  symbols-are symbols same = same ∙ ap (λ views. (outside_in views source units).parameters) (sym files.names)

  -- the answer for a module is whether it is constant
  constant-is : (constant : Bool) → IsConstancyOf (constant_files faces) source units constant → constant ≡ (outside outsides source units).is_constant
  constant-is constant says = says outsides (λ name. sym (files.constant name))

  -- what nodes of a module are made by, and its face, are what is found
  leveled-module : (written : Written) (old new : LevelTables) (symbols : Exports) (constant : Bool) (found : ModuleLevels) → IsLeveled written source units faces outsides old new symbols constant found
      → ((start : ℕ) → means_of written start ≡ means_by (findings (files_of imports) source units) start)
      → ((start : ℕ) → implied_of written start ≡ implied_by (findings (files_of imports) source units) start)
      → symbols ≡ (outside_in (files_of imports) source units).parameters
      → IsConstancyOf (constant_files faces) source units constant → IsModuleLeveled faces outsides source units old new found
  leveled-module written old new symbols constant found leveled means implied same says =
      let flat = new.tables.state.flat in
      let symbols_are = symbols-are symbols same in
      let constant_is = constant-is constant says in
      let exports = exports_of (last_state outsides source units).read.place.here.exports in
      let means_are : means_of written ≡ means_by (names_found outsides source units) = fun_ext means ∙ ap means_by names-found in
      let implied_are : implied_of written ≡ implied_by (names_found outsides source units) = fun_ext implied ∙ ap implied_by names-found in
      record {
        last = leveled.last;
        asked = leveled.asked;
        extends = leveled.extends;
        more_faces = leveled.more_faces;
        faces = leveled.faces;
        there = leveled.there;
        is = leveled.is ∙ (λ i. face_over (symbols_are i) 0 (constant_is i) exports leveled.last.setting.leads);
        made = subst (λ (names : Exports). IsModuleMade flat (means_by (names_found outsides source units)) (implied_by (names_found outsides source units)) faces outsides source units (meanings_of names) leveled.last leveled.asked) symbols_are
            (subst (λ (implied : ℕ → List Meaning). IsModuleMade flat (means_by (names_found outsides source units)) implied faces outsides source units (meanings_of symbols) leveled.last leveled.asked) implied_are
            (subst (λ (means : ℕ → Option Meaning). IsModuleMade flat means (implied_of written) faces outsides source units (meanings_of symbols) leveled.last leveled.asked) means_are leveled.made));
        answered = leveled.answered;
      }

-- where the levels of a module are answered, over files of what its reader was given, its levels are found over files of its imports
pub leveled-answer : (imports read : Imports) (faces : List ℕ → FlatFace) (source : List ℕ) (units : ModuleUnits) (written : Written) (old : LevelTables) (symbols : Exports) (constant : Bool) (result : Result (LevelTables × ModuleLevels) Memory)
    → IfOk result (λ made. (outsides : List ℕ → Outside) → (λ name. (outsides name).view) ≡ files_of read → IsLeveled written source units faces outsides old made.0 symbols constant made.1)
    → read ≡ imports
    → ((start : ℕ) → means_of written start ≡ means_by (findings (files_of imports) source units) start)
    → ((start : ℕ) → implied_of written start ≡ implied_by (findings (files_of imports) source units) start)
    → symbols ≡ (outside_in (files_of imports) source units).parameters
    → IsConstancyOf (constant_files faces) source units constant
    → IfOk result (λ made. (outsides : List ℕ → Outside) → AreFilesOf faces imports outsides → IsModuleLeveled faces outsides source units old made.0 made.1)
leveled-answer imports read faces source units written old symbols constant (Ok made) leveled given means implied same says = λ outsides files.
    leveled-module imports faces outsides source units files written old made.0 symbols constant made.1 (leveled outsides (files.names ∙ sym (ap files_of given))) means implied same says
leveled-answer imports read faces source units written old symbols constant (Err e) leveled given means implied same says = tt
