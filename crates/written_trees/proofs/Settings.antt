-- What is known round a tree, in a flat module and by resolved trees.
use Rattle.std.proofs.Common.{◌≡◌, ℕ, suc, Bool, true, false, List, [], ◌∷◌, ◌++◌, refl, ap, ◌∙◌, length, map}
use Rattle.std.specs.Prelude.{if◌then◌else◌, slice_get}
use mathlib.Core.Path.{fun_ext}
use Rattle.tla_tree.specs.declared.form.Form.{Form}
use Rattle.tla_tree.specs.Syntax.{Tree, Trees}
use Rattle.tla_model.specs.Tables.{Named}
use Rattle.tla_model.specs.Entities.{Meaning, Text, meant}
use Rattle.tla_model.specs.Scopes.{definition}
use Rattle.kind_text.specs.FlatModule.{FlatModule}
use Rattle.tree_kinds.specs.Standing.{same_standing}
use Rattle.flat_trees.specs.Layouts.{order_of, parameters_of}
use Rattle.flattened_trees.specs.declared.End.TheVariants as end
use Rattle.flattened_trees.specs.Leads as flat_leads
use Rattle.resolved_trees.specs.Resolved.{instance_at, parts_at, resolved}
use Rattle.written_trees.specs.Leading.{Lead, Leads, behind, behind_instance, end_in, face_in, lead_in, leads_in, only, setting_in, with_lead, with_leads, with_parameters, with_places}

module _ (flat : FlatModule) where
  -- where the names of a path lead
  abbrev pub leading_in : (List Named → flat_leads.Lead) → List Named → Lead
  leading_in lead names = lead_in flat (lead names)

  pub only-told : (e : end.the_data) → leading_in (flat_leads.only e) ≡ only (end_in flat e)
  only-told e = fun_ext by
    where
      by : (names : List Named) → lead_in flat (flat_leads.only e names) ≡ only (end_in flat e) names
      by [] = refl
      by (name ∷ names) = refl

  with-told : (leads : flat_leads.Leads) (meaning : Meaning) (lead : List Named → flat_leads.Lead)
      → leads_in flat (flat_leads.with_lead leads meaning lead) ≡ with_lead (leads_in flat leads) meaning (leading_in lead)
  with-told leads meaning lead = λ i other names. by other names (same_standing other meaning) i
    where
      by : (other : Meaning) (names : List Named) (b : Bool) → lead_in flat (if b then lead names else leads other names) ≡ (if b then lead_in flat (lead names) else lead_in flat (leads other names))
      by other names true = refl
      by other names false = refl

  all-told : (meanings : List Meaning) (leads : flat_leads.Leads) (lead : List Named → flat_leads.Lead)
      → leads_in flat (flat_leads.with_leads leads meanings lead) ≡ with_leads (leads_in flat leads) meanings (leading_in lead)
  all-told [] leads lead = refl
  all-told (meaning ∷ rest) leads lead = all-told rest (flat_leads.with_lead leads meaning lead) lead ∙ ap (λ (l : Leads). with_leads l rest (leading_in lead)) (with-told leads meaning lead)

  places-told : (meanings : List Meaning) (leads : flat_leads.Leads) (place : ℕ) → leads_in flat (flat_leads.with_places leads meanings place) ≡ with_places (leads_in flat leads) meanings place
  places-told [] leads place = refl
  places-told (meaning ∷ rest) leads place =
      places-told rest (flat_leads.with_lead leads meaning (flat_leads.only (end.Place place (order_of meaning)))) (suc place)
      ∙ ap (λ (l : Leads). with_places l rest (suc place))
      (with-told leads meaning (flat_leads.only (end.Place place (order_of meaning))) ∙ ap (with_lead (leads_in flat leads) meaning) (only-told (end.Place place (order_of meaning))))

  pub parameters-told : (text : Text) (setting : flat_leads.Setting) (form : Form) (parts : Trees)
      → setting_in flat (flat_leads.with_parameters text setting form parts) ≡ with_parameters text (setting_in flat setting) form parts
  parameters-told text setting form parts =
      let leads = places-told (parameters_of text form parts) setting.leads (length setting.frame) in
      λ i. record { leads = leads i; frame = setting.frame ++ parameters_of text form parts; olds = parts_at flat (resolved flat) setting.olds }

  pub behind-told : (text : Text) (setting : flat_leads.Setting) (x : Tree) (lead : List Named → flat_leads.Lead)
      → setting_in flat (flat_leads.behind text setting x lead) ≡ behind text (setting_in flat setting) x (leading_in lead)
  behind-told text setting x lead =
      let leads = all-told (map (meant text) (definition x)) setting.leads lead in
      λ i. record { leads = leads i; frame = setting.frame; olds = parts_at flat (resolved flat) setting.olds }

  pub through-told : (j : ℕ) (face : flat_leads.FlatFace) → leading_in (flat_leads.behind_instance j face) ≡ behind_instance (instance_at flat (resolved flat) (slice_get flat.instances j)) (face_in flat face)
  through-told j face = fun_ext by
    where
      by : (names : List Named) → lead_in flat (flat_leads.behind_instance j face names) ≡ behind_instance (instance_at flat (resolved flat) (slice_get flat.instances j)) (face_in flat face) names
      by [] = refl
      by (name ∷ names) = refl
