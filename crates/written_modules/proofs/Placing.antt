-- Where names lead, in a flat module and by resolved trees.
use Rattle.std.proofs.Common.{◌≡◌, ℕ, suc, Bool, true, false, List, [], ◌∷◌, Option, Some, None, refl, ap, ◌∙◌, length}
use Rattle.std.specs.Prelude.{if◌then◌else◌, slice_get}
use Rattle.tla_model.specs.declared.entity.Entity.TheVariants as entity
use Rattle.tla_model.specs.declared.names.Meaning.TheVariants.{BuiltIn, Declared}
use Rattle.tla_model.specs.Tables.{Named}
use Rattle.tla_model.specs.Entities.{Meaning}
use Rattle.module_model.specs.Exports.{Exports, entry_of}
use Rattle.kind_text.specs.FlatModule.{FlatModule, IsOrdered, Replacement}
use Rattle.tree_kinds.specs.Standing.{name_among, operator_places}
use Rattle.flat_trees.specs.Layouts.{order_of}
use Rattle.flat_kinds.specs.Symbols.{same_symbol}
use Rattle.flattened_trees.specs.declared.End.TheVariants as end
use Rattle.flattened_trees.specs.Leads as flat_leads
use Rattle.flattened_units.specs.Units as units
use Rattle.resolved_trees.specs.Resolved.{Replace, Replaced, instance_at, replacements_at, resolved}
use Rattle.written_trees.specs.Leading.{end_in, face_in, lead_in, leads_in, only, setting_in}
use Rattle.written_trees.specs.Written.{staying}
use Rattle.written_trees.proofs.Instances.{node-told, staying-told}
use Rattle.written_trees.proofs.Nodes.{lead-told, name-told}
use Rattle.written_trees.proofs.Settings.{only-told}
use Rattle.written_modules.specs.Modules.{coming_lead, exported_leads, extension_of, no_leads, sharing, with_brought, with_symbols}

module _ (flat : FlatModule) where
  only-at : (e : end.the_data) (names : List Named) → lead_in flat (flat_leads.only e names) ≡ only (end_in flat e) names
  only-at e names = λ i. only-told flat e i names

  no-lead : (meaning : Meaning) (names : List Named) → lead_in flat (units.no_leads meaning names) ≡ no_leads meaning names
  no-lead BuiltIn names = only-at _ names
  no-lead (Declared (entity.Bound state) callee) names = only-at _ names
  no-lead (Declared e callee) names = refl

  pub none-told : leads_in flat units.no_leads ≡ no_leads
  none-told = λ i meaning names. no-lead meaning names i

  symbol-lead : (own : List Meaning) (leads : flat_leads.Leads) (place : ℕ) (other : Meaning) (names : List Named)
      → lead_in flat (units.with_symbols leads own place other names) ≡ with_symbols (leads_in flat leads) own place other names
  symbol-lead [] leads place other names = refl
  symbol-lead (meaning ∷ rest) leads place other names = by (same_symbol other meaning) (symbol-lead rest leads (suc place) other names)
    where
      by : (b : Bool) → lead_in flat (units.with_symbols leads rest (suc place) other names) ≡ with_symbols (leads_in flat leads) rest (suc place) other names
          → lead_in flat (if b then flat_leads.only (end.Place place (order_of meaning)) names else units.with_symbols leads rest (suc place) other names)
          ≡ (if b then only (end_in flat (end.Place place (order_of meaning))) names else with_symbols (leads_in flat leads) rest (suc place) other names)
      by true more = only-at (end.Place place (order_of meaning)) names
      by false more = more

  pub symbols-told : (own : List Meaning) (leads : flat_leads.Leads) (place : ℕ) → leads_in flat (units.with_symbols leads own place) ≡ with_symbols (leads_in flat leads) own place
  symbols-told own leads place = λ i other names. symbol-lead own leads place other names i

  pub brought-told : (leads : flat_leads.Leads) (entries : Exports) (j : ℕ) (face : flat_leads.FlatFace)
      → leads_in flat (units.with_brought leads entries j face) ≡ with_brought (leads_in flat leads) entries (instance_at flat (resolved flat) (slice_get flat.instances j)) (face_in flat face)
  brought-told leads entries j face = λ i meaning names. by meaning names (name_among entries meaning) i
    where
      by : (meaning : Meaning) (names : List Named) (found : Option Named) → lead_in flat (units.coming_lead j face (leads meaning names) names found)
          ≡ coming_lead (instance_at flat (resolved flat) (slice_get flat.instances j)) (face_in flat face) (lead_in flat (leads meaning names)) names found
      by meaning names None = refl
      by meaning names (Some name) = refl

  pub exported-told : (leads : flat_leads.Leads) (entries : Exports) (names : List Named) → lead_in flat (units.exported_leads leads entries names) ≡ exported_leads (leads_in flat leads) entries names
  exported-told leads entries [] = refl
  exported-told leads entries (name ∷ names) = lead-told flat leads (entry_of entries name) names

  module _ (ordered : IsOrdered flat) where
    sharing-told : (leads : flat_leads.Leads) (parameters : Exports) (made : List Replacement) → units.AreShared flat leads parameters made → replacements_at flat (resolved flat) made ≡ sharing (leads_in flat leads) parameters
    sharing-told leads [] [] are = refl
    sharing-told leads [] (r ∷ made) are = absurd are
    sharing-told leads (parameter ∷ parameters) [] are = absurd are
    sharing-told leads (parameter ∷ parameters) (r ∷ made) (has, free, are) =
        let tree = node-told flat ordered r.root _ has ∙ name-told flat (operator_places (Some parameter.1)) (leads parameter.1 []) [] in
        let rest = sharing-told leads parameters made are in
        λ i. Replace (tree i) (free i) (rest i)

    pub extension-told : (setting : flat_leads.Setting) (face : flat_leads.FlatFace) (j : ℕ) → units.IsExtension flat setting face j
        → instance_at flat (resolved flat) (slice_get flat.instances j) ≡ extension_of (setting_in flat setting) (face_in flat face)
    extension-told setting face j (kept, made, at, stay, shared) =
        ap (instance_at flat (resolved flat)) at
        ∙ ap (λ z. Replaced (length setting.frame) 0 false z) (staying-told flat ordered 0 face.outer kept made stay ∙ ap (staying 0 face.outer) (sharing-told setting.leads face.parameters made shared))
