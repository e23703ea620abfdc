-- The face of a module leads where its text says.
use Rattle.std.proofs.Common.{◌≡◌, ℕ, List, ap, ◌∙◌}
use Rattle.unit_grammar.specs.Units.{ModuleUnits}
use Rattle.tla_model.specs.Entities.{Meaning}
use Rattle.tla_model.specs.Tables.{Named}
use Rattle.module_model.specs.Exports.{exports_of}
use Rattle.kind_text.specs.FlatModule.{FlatModule}
use Rattle.tree_kinds.specs.Standing.{Outside}
use Rattle.module_kinds.specs.ModuleKinds as kinds
use Rattle.flat_kinds.specs.Declarations.{Declarations}
use Rattle.flattened_trees.specs.Leads.{FlatFace}
use Rattle.flattened_trees.specs.Questions.{Question}
use Rattle.flattened_units.specs.Units as units
use Rattle.written_trees.specs.Leading.{Face, Leads, face_in, leads_in}
use Rattle.written_modules.specs.Modules.{Reader, face_over, module_reader}
use Rattle.written_modules.proofs.Placing.{exported-told}
use Rattle.written_modules.proofs.Asked.{module-known}
use Rattle.readable_laws.specs.Uses.{implied_by, means_by}
use Rattle.accepted_modules.proofs.Leading.{reader-ends}
use Rattle.accepted_modules.proofs.Reading.{front-derives}
use Rattle.known_modules.specs.Known.{IsMadeOver, Knowledge, face_of, found_over}
use Rattle.module_interfaces.specs.Interfaces.{written_face}
use Rattle.module_interfaces.proofs.Holding.{front-holds}

module _ (flat : FlatModule) (files : List ℕ → FlatFace) (outsides : List ℕ → Outside) (source : List ℕ) (module_units : ModuleUnits) where
  -- the modules that are named, by resolved trees
  abbrev by_trees : List ℕ → Face
  by_trees name = face_in flat (files name)

  -- what the module is to its instances, where its names lead so
  abbrev shown : Leads → Face
  shown leads = face_over (kinds.outside outsides source module_units).view.parameters 0 (kinds.outside outsides source module_units).is_constant (exports_of (kinds.last outsides source module_units).read.place.here.exports) leads

  face-led : (last : units.Reader) → face_in flat (face_of outsides source module_units last) ≡ shown (leads_in flat last.setting.leads)
  face-led last = λ i. record {
    parameters = (kinds.outside outsides source module_units).view.parameters;
    outer = 0;
    leads = λ (names : List Named). exported-told flat last.setting.leads (exports_of (kinds.last outsides source module_units).read.place.here.exports) names i;
    is_constant = (kinds.outside outsides source module_units).is_constant;
  }

  pub face-written : (declares : Declarations) (knowledge : Knowledge) (name : List ℕ) (symbols : List Meaning) (last : units.Reader) (asked : List Question)
      → IsMadeOver declares flat knowledge files outsides name source module_units symbols last asked
      → face_in flat (face_of outsides source module_units last) ≡ written_face by_trees outsides source module_units
  face-written declares knowledge name symbols last asked is =
      let means = means_by (found_over outsides source module_units) in
      let implied = implied_by (found_over outsides source module_units) in
      let derives = front-derives name source module_units is.faultless.front in
      let ends = reader-ends flat means implied files outsides source module_units symbols last asked derives.0 derives.1 is.made in
      let known = module-known flat is.ordered means implied files outsides source module_units symbols last asked (front-holds name source module_units is.faultless.front) is.made ends in
      face-led last
      ∙ ap (λ (r : Reader). shown r.setting.leads) known.0
      ∙ ap (λ (own : List Meaning). shown (module_reader means implied by_trees outsides source module_units own).setting.leads) is.same
