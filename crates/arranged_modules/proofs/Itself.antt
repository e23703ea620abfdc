-- A module that leads as deep as it is does so to modules that name it.
use Rattle.std.proofs.Common.{◌≡◌, ℕ, List, [], ◌∷◌, Option, Some, sym, ap, subst, ◌∙◌}
use Rattle.unit_grammar.specs.Units.{ModuleUnits, UnitTree}
use Rattle.tla_model.specs.Contexts.{meaning_of}
use Rattle.tla_model.specs.Entities.{Meaning, Text}
use Rattle.tla_model.specs.Tables.{Named}
use Rattle.module_scope.specs.Environments.{first as first_scope}
use Rattle.module_model.specs.Exports.{ModuleView, behind_instance, behind_meaning, entries_from, entry_of, exports_of, onward, parameters_in}
use Rattle.module_model.specs.Modules.{text_of}
use Rattle.module_model.specs.Resolution.{ReadState, words_of}
use Rattle.kind_text.specs.FlatModule.{FlatModule}
use Rattle.tree_kinds.specs.Standing.{Outside}
use Rattle.module_kinds.specs.ModuleKinds.{KindState, after, first, last, outside}
use Rattle.flat_trees.specs.Stands.{Stand}
use Rattle.flat_kinds.specs.Declarations.{IsOnce}
use Rattle.flat_kinds.proofs.Declarations.{read-same}
use Rattle.flattened_trees.specs.Agreeing.{TakesBehind}
use Rattle.flattened_trees.specs.Leads.{FlatFace, Lead}
use Rattle.flattened_trees.specs.NodeForms.{lead_of}
use Rattle.flattened_trees.specs.Questions.{Question}
use Rattle.flattened_units.specs.Units.{AreUnitsMade, IsModuleMade, Reader, exported_leads, symbol_setting}
use Rattle.given_modules.specs.Passed.{AreUnitsGiven, IsModuleGiven, seen_behind}
use Rattle.given_modules.proofs.Passed.{AllDefinitionsLead, extended-further, first-further, unit-further}
use Rattle.given_modules.proofs.Passed.{table-own}
use Rattle.given_modules.proofs.Passed.{brought-entry, further-takes}
use Rattle.given_modules.specs.Passed.{IsDeepSo}
use Rattle.given_modules.specs.Good.{face_of}
use Rattle.arranged_modules.specs.Files.{IsDeepFace}

module _ (flat : FlatModule) (text : Text) (means : ℕ → Option Meaning) (implied : ℕ → List Meaning) (files : List ℕ → FlatFace) (outsides : List ℕ → Outside) (words : List ℕ) where
  -- definitions lead further than symbols, behind all units
  units-further : (units : List UnitTree) (state : KindState) (reader : Reader) (seen : List Meaning) (next : Reader) (asked : List Question) (made : AreUnitsMade flat text means implied files outsides words state reader units next asked) → AreUnitsGiven flat text means implied files outsides words state reader seen units next asked made
      → AllDefinitionsLead reader → AllDefinitionsLead next
  units-further [] state reader seen next asked made given all = subst AllDefinitionsLead (sym made.0) all
  units-further (unit ∷ units) state reader seen next asked made given all =
      units-further units (after text outsides words state unit) made.0 (seen_behind text outsides words state unit made.0 seen) next made.2 made.4 given.2
      (unit-further flat text means implied files outsides words state reader seen unit made.0 made.1 all given.1 made.3)

-- what a module is to others, by what is read of it
abbrev view_by : ReadState → ModuleView
view_by state = record { entries = entries_from state.known (exports_of state.place.here.exports); parameters = parameters_in (exports_of state.place.here.exports) }

module _ (flat : FlatModule) (means : ℕ → Option Meaning) (implied : ℕ → List Meaning) (files : List ℕ → FlatFace) (outsides : List ℕ → Outside) (source : List ℕ) (units : ModuleUnits) (symbols : List Meaning) (final : Reader) (asked : List Question)
    (made : IsModuleMade flat means implied files outsides source units symbols final asked) (given : IsModuleGiven flat means implied files outsides source units symbols final asked made) (once : IsOnce (last outsides source units).read.place.here.exports)
    (usable : (name : Named) (m : Meaning) → entry_of (exports_of (last outsides source units).read.place.here.exports) name ≡ Some m → meaning_of (last outsides source units).read.place.here.context name ≡ Some m) (deep : IsDeepSo flat outsides source units symbols final) where
  abbrev text : Text
  text = text_of source units

  abbrev words : List ℕ
  words = words_of units

  final-further : AllDefinitionsLead final
  final-further =
      units-further flat text means implied files outsides words units.units (first outsides source units) _ _ final asked made.2 given.given (
        extended-further flat text means implied files outsides words (first_scope text.file) (first_scope text.file) (symbol_setting flat means implied files outsides source units symbols)
            (symbol_setting flat means implied files outsides source units symbols).leads units.extends made.0 (first-further symbols) made.1,
        tt,
      )

  takes-read : (name : Named) (m : Meaning) → entry_of (behind_instance (view_by (last outsides source units).read) []) name ≡ Some m
      → TakesBehind (deep.inner name) (onward (behind_instance (view_by (last outsides source units).read)) name) m
  takes-read name m found =
      let state : ReadState = (last outsides source units).read in
      let entry = brought-entry (exports_of state.place.here.exports) name m (table-own state once) found in
      let led : final.setting.leads m [] ≡ exported_leads final.setting.leads (exports_of state.place.here.exports) (name ∷ []) = sym (ap (λ (o : Option Meaning). lead_of final.setting.leads o []) entry.0) in
      let takes =
      further-takes (deep.inner name) (behind_meaning state.known (Some m)) m (final.setting.leads m []) (led ∙ deep.leads name []) (final-further.0 m entry.1)
      (deep.takes name name m entry.0 (usable name m entry.0)) in
      subst (λ (o : Option Meaning). TakesBehind (deep.inner name) (λ path. behind_meaning state.known o path) m) (sym entry.0) takes

  takes : (name : Named) (m : Meaning) → entry_of (behind_instance (outside outsides source units).view []) name ≡ Some m → TakesBehind (deep.inner name) (onward (behind_instance (outside outsides source units).view) name) m
  takes name m =
      subst (λ (state : ReadState). entry_of (behind_instance (view_by state) []) name ≡ Some m → TakesBehind (deep.inner name) (onward (behind_instance (view_by state)) name) m)
      (read-same text outsides words (first outsides source units) units.units) (takes-read name m)

  -- the module is deep to others
  pub itself-deep : IsDeepFace flat deep.inner (face_of outsides source units final) (outside outsides source units)
  itself-deep = record { leads = λ name names. deep.leads name names; deep = deep.deep; parameters = deep.parameters; takes = takes }
