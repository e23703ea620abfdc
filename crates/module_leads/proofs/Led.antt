-- What is known leads to what is there in a flat module, whatever is put, and in each flat module that has more.
use Rattle.std.proofs.Common.{ℕ, suc, Bool, true, false, List, [], ◌∷◌, Option, Some, None, if◌then◌else◌, length}
use Rattle.std.specs.Prelude.{nat_eq}
use Rattle.std.specs.List.{AllByRecursion}
use Rattle.list_laws.proofs.Lists.{all-weaker}
use Rattle.tla_model.specs.declared.entity.Entity.TheVariants as entity
use Rattle.tla_model.specs.declared.names.Meaning.TheVariants.{BuiltIn, Declared}
use Rattle.tla_model.specs.Tables.{Named}
use Rattle.tla_model.specs.Entities.{Meaning}
use Rattle.module_model.specs.Exports.{Exports, entry_of}
use Rattle.kind_text.specs.FlatModule.{Extends, FlatModule, UsesInstance}
use Rattle.tree_kinds.specs.Standing.{name_among, same_standing}
use Rattle.flat_trees.specs.Layouts.{order_of}
use Rattle.flat_kinds.specs.Symbols.{same_symbol}
use Rattle.flattened_trees.specs.declared.End.TheVariants as end
use Rattle.flattened_trees.specs.Leads.{FlatFace, Lead, Leads, behind_instance, nowhere, only, through, with_lead, with_leads}
use Rattle.flattened_trees.specs.NodeForms.{lead_of}
use Rattle.flattened_units.specs.Units.{coming_lead, exported_leads, no_face, no_leads, with_brought, with_symbols}
use Rattle.flattened_trees.specs.Within.{IsEndWithin, IsLeadWithin}
use Rattle.tree_flattener.proofs.Within.{lead-on}
use Rattle.module_leads.specs.Leading.{Leading, entered, face_over, leading, left, left_by, nothing_led, with_face}
use Rattle.module_leads.specs.There.{AllLeadWithin, IsFaceThere, LeadWithin}
use Rattle.module_leads.specs.Ways.{face_at}

module _ (flat : FlatModule) where
  -- ---- leads

  nowhere-there : IsLeadWithin flat nowhere
  nowhere-there = record { path = tt; end = tt }

  only-there : (e : end.the_data) (names : List Named) → IsEndWithin flat e → IsLeadWithin flat (only e names)
  only-there e [] there = record { path = tt; end = there }
  only-there e (name ∷ names) there = nowhere-there

  through-there : (j : ℕ) (lead : Lead) → UsesInstance flat (length flat.nodes) j → IsLeadWithin flat lead → IsLeadWithin flat (through j lead)
  through-there j lead used there = record { path = (used, there.path); end = there.end }

  behind-there : (j : ℕ) (face : FlatFace) (names : List Named) → UsesInstance flat (length flat.nodes) j → IsFaceThere flat face → IsLeadWithin flat (behind_instance j face names)
  behind-there j face [] used there = nowhere-there
  behind-there j face (name ∷ names) used there = through-there j (face.leads (name ∷ names)) used (there (name ∷ names))

  -- ---- nothing

  no-leads-there : LeadWithin flat no_leads
  no-leads-there BuiltIn names = only-there _ names tt
  no-leads-there (Declared (entity.Bound state) callee) names = only-there _ names tt
  no-leads-there (Declared e callee) names = nowhere-there

  no-face-there : IsFaceThere flat no_face
  no-face-there names = nowhere-there

  pub nothing-there : AllLeadWithin flat nothing_led
  nothing-there = record { faces = λ number. no-face-there; leads = no-leads-there; round = tt }

  -- ---- what is put

  symbols-there : (leads : Leads) (own : List Meaning) (place : ℕ) → LeadWithin flat leads → LeadWithin flat (with_symbols leads own place)
  symbols-there leads [] place there meaning names = there meaning names
  symbols-there leads (symbol ∷ rest) place there meaning names = by (same_symbol meaning symbol) (symbols-there leads rest (suc place) there meaning names)
    where
      by : (b : Bool) → IsLeadWithin flat (with_symbols leads rest (suc place) meaning names)
          → IsLeadWithin flat (if b then only (end.Place place (order_of symbol)) names else with_symbols leads rest (suc place) meaning names)
      by true other = only-there _ names tt
      by false other = other

  lead-there : (leads : Leads) (meaning : Meaning) (lead : List Named → Lead) → LeadWithin flat leads → ((names : List Named) → IsLeadWithin flat (lead names)) → LeadWithin flat (with_lead leads meaning lead)
  lead-there leads meaning lead there new other names = by (same_standing other meaning)
    where
      by : (b : Bool) → IsLeadWithin flat (if b then lead names else leads other names)
      by true = new names
      by false = there other names

  leads-there : (meanings : List Meaning) (leads : Leads) (lead : List Named → Lead) → LeadWithin flat leads → ((names : List Named) → IsLeadWithin flat (lead names)) → LeadWithin flat (with_leads leads meanings lead)
  leads-there [] leads lead there new = there
  leads-there (meaning ∷ rest) leads lead there new = leads-there rest (with_lead leads meaning lead) lead (lead-there leads meaning lead there new) new

  coming-there : (j : ℕ) (face : FlatFace) (lead : Lead) (names : List Named) (found : Option Named) → UsesInstance flat (length flat.nodes) j → IsFaceThere flat face → IsLeadWithin flat lead
      → IsLeadWithin flat (coming_lead j face lead names found)
  coming-there j face lead names None used faced there = there
  coming-there j face lead names (Some name) used faced there = through-there j (face.leads (name ∷ names)) used (faced (name ∷ names))

  face-there : (faces : ℕ → FlatFace) (face : Option ℕ) → ((number : ℕ) → IsFaceThere flat (faces number)) → IsFaceThere flat (face_at faces face)
  face-there faces None there = no-face-there
  face-there faces (Some number) there = there number

  exported-there : (leads : Leads) (entries : Exports) → LeadWithin flat leads → (names : List Named) → IsLeadWithin flat (exported_leads leads entries names)
  exported-there leads entries there [] = nowhere-there
  exported-there leads entries there (name ∷ names) = by (entry_of entries name)
    where
      by : (found : Option Meaning) → IsLeadWithin flat (lead_of leads found names)
      by None = nowhere-there
      by (Some meaning) = there meaning names

  -- ---- calls

  pub entered-there : (known : Leading) (own : List Meaning) (place : ℕ) → AllLeadWithin flat known → AllLeadWithin flat (entered known own place)
  entered-there known own place there = record { faces = there.faces; leads = symbols-there known.leads own place there.leads; round = (there.leads, there.round) }

  pub left-there : (known : Leading) → AllLeadWithin flat known → AllLeadWithin flat (left known)
  left-there known there = by known.round there.round
    where
      by : (round : List Leads) → AllByRecursion (LeadWithin flat) round → AllLeadWithin flat (left_by known round)
      by [] all = there
      by (leads ∷ round) all = record { faces = there.faces; leads = all.0; round = all.1 }

  pub brought-there : (known : Leading) (entries : Exports) (j : ℕ) (face : Option ℕ) → UsesInstance flat (length flat.nodes) j → AllLeadWithin flat known
      → AllLeadWithin flat (leading known (with_brought known.leads entries j (face_at known.faces face)))
  brought-there known entries j face used there = record {
    faces = there.faces;
    leads = λ meaning names. coming-there j (face_at known.faces face) (known.leads meaning names) names (name_among entries meaning) used (face-there known.faces face there.faces) (there.leads meaning names);
    round = there.round;
  }

  pub defined-there : (known : Leading) (meanings : List Meaning) (e : end.the_data) → IsEndWithin flat e → AllLeadWithin flat known
      → AllLeadWithin flat (leading known (with_leads known.leads meanings (only e)))
  defined-there known meanings e used there = record {
    faces = there.faces;
    leads = leads-there meanings known.leads (only e) there.leads (λ names. only-there e names used);
    round = there.round;
  }

  pub instanced-there : (known : Leading) (meanings : List Meaning) (j : ℕ) (face : Option ℕ) → UsesInstance flat (length flat.nodes) j → AllLeadWithin flat known
      → AllLeadWithin flat (leading known (with_leads known.leads meanings (behind_instance j (face_at known.faces face))))
  instanced-there known meanings j face used there = record {
    faces = there.faces;
    leads = leads-there meanings known.leads (behind_instance j (face_at known.faces face)) there.leads (λ names. behind-there j (face_at known.faces face) names used (face-there known.faces face there.faces));
    round = there.round;
  }

  pub faced-there : (known : Leading) (parameters : Exports) (outer : ℕ) (is_constant : Bool) (entries : Exports) → AllLeadWithin flat known
      → AllLeadWithin flat (with_face known (face_over parameters outer is_constant entries known.leads))
  faced-there known parameters outer is_constant entries there = record {
    faces = λ number. by number (nat_eq number known.count);
    leads = there.leads;
    round = there.round;
  }
    where
      by : (number : ℕ) (b : Bool) → IsFaceThere flat (if b then face_over parameters outer is_constant entries known.leads else known.faces number)
      by number true = exported-there known.leads entries there.leads
      by number false = there.faces number

-- ---- more

-- what is there stays there
pub there-on : (flat more : FlatModule) (known : Leading) → Extends flat more → AllLeadWithin flat known → AllLeadWithin more known
there-on flat more known extends there = record {
  faces = λ number names. lead-on flat more extends ((known.faces number).leads names) (there.faces number names);
  leads = λ meaning names. lead-on flat more extends (known.leads meaning names) (there.leads meaning names);
  round = all-weaker (LeadWithin flat) (LeadWithin more) (λ leads all meaning names. lead-on flat more extends (leads meaning names) (all meaning names)) known.round there.round;
}
