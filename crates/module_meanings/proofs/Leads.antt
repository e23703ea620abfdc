-- Where names lead by what they stand for.
use Rattle.std.proofs.Common.{◌≡◌, ℕ, suc, Bool, true, false, cond, List, [], ◌∷◌, Option, Some, None, refl, ap, ◌∙◌}
use Rattle.tla_symbols.specs.declared.level.Kind.{Kind}
use Rattle.tla_model.specs.Tables.{Named}
use Rattle.tla_model.specs.Entities.{Meaning}
use Rattle.module_model.specs.Exports.{Exports, entry_of}
use Rattle.tree_kinds.specs.Standing.{name_among}
use Rattle.flat_trees.specs.Stands.{Stand, Unsaid, Leaf, Place, Defined, Through, Brought}
use Rattle.flat_trees.specs.Layouts.{coming_stand, order_of, with_brought}
use Rattle.flat_kinds.specs.Readings.{exported_stand, stand_in}
use Rattle.flat_kinds.specs.Symbols.{same_symbol, symbols_at}
use Rattle.flattened_trees.specs.declared.End.TheVariants as end
use Rattle.flattened_trees.specs.Agreeing.{lead_by, unsaid_stand}
use Rattle.flattened_trees.specs.Leads.{FlatFace, Lead, Leads, only, through}
use Rattle.flattened_trees.specs.NodeForms.{lead_of}
use Rattle.flattened_meanings.specs.Faces.{StandsAs}
use Rattle.flattened_units.specs.Units.{coming_lead, exported_leads, no_leads, with_brought as with_brought_leads, with_symbols}
use Rattle.module_meanings.specs.Faces.{LeadsAs}
use Rattle.module_meanings.specs.Following.{LeadsBy}

-- ---- what leads to a leaf or to a place stands for that

pub lead-leaf : (stand : Stand) (kind : Kind) → lead_by stand [] ≡ only (end.Leaf kind) [] → stand ≡ Leaf kind
lead-leaf stand kind e = by_stand stand (ap (λ (lead : Lead). lead.end) e) (ap (λ (lead : Lead). lead.path) e)
  where
    by_stand : (s : Stand) → (lead_by s []).end ≡ end.Leaf kind → (lead_by s []).path ≡ [] → s ≡ Leaf kind
    by_stand Unsaid e p = cc
    by_stand (Leaf k) e p = ap Leaf (cc e)
    by_stand (Place place order) e p = cc
    by_stand (Defined d orders) e p = cc
    by_stand (Through j orders inner) e p = cc
    by_stand (Brought j inner) e p = cc

pub lead-place : (stand : Stand) (place order : ℕ) → lead_by stand [] ≡ only (end.Place place order) [] → stand ≡ Place place order
lead-place stand place order e = by_stand stand (ap (λ (lead : Lead). lead.end) e) (ap (λ (lead : Lead). lead.path) e)
  where
    by_stand : (s : Stand) → (lead_by s []).end ≡ end.Place place order → (lead_by s []).path ≡ [] → s ≡ Place place order
    by_stand Unsaid e p = cc
    by_stand (Leaf k) e p = cc
    by_stand (Place a b) e p = let one : a ≡ place = cc e in let other : b ≡ order = cc e in ap (λ n. Place n b) one ∙ ap (Place place) other
    by_stand (Defined d orders) e p = cc
    by_stand (Through j orders inner) e p = cc
    by_stand (Brought j inner) e p = cc

pub leads-as : (outer : ℕ) (base here : Stand) → LeadsAs outer base (lead_by here []) → StandsAs outer base here
leads-as outer Unsaid here leads = tt
leads-as outer (Leaf kind) here leads = lead-leaf here kind leads
leads-as outer (Place place order) here leads = (leads.0, lead-place here place order leads.1)
leads-as outer (Defined d orders) here leads = absurd leads
leads-as outer (Through j orders inner) here leads = absurd leads
leads-as outer (Brought j inner) here leads = absurd leads

-- ---- symbols

pub none-leads : LeadsBy unsaid_stand no_leads
none-leads m names = refl

pub symbols-lead : (stands : Meaning → Stand) (leads : Leads) (symbols : List Meaning) (place : ℕ) → LeadsBy stands leads → LeadsBy (symbols_at stands symbols place) (with_symbols leads symbols place)
symbols-lead stands leads [] place all m names = all m names
symbols-lead stands leads (s ∷ rest) place all m names = by_sameness (same_symbol m s) (symbols-lead stands leads rest (suc place) all m names)
  where
    by_sameness : (b : Bool) → with_symbols leads rest (suc place) m names ≡ lead_by (symbols_at stands rest (suc place) m) names → cond b (only (end.Place place (order_of s)) names) (with_symbols leads rest (suc place) m names) ≡ lead_by (cond b (Place place (order_of s)) (symbols_at stands rest (suc place) m)) names
    by_sameness true others = refl
    by_sameness false others = others

-- ---- what comes from other modules, and what others see

pub brought-lead : (stands : Meaning → Stand) (leads : Leads) (entries : Exports) (j : ℕ) (face : FlatFace) (inner : Named → Stand) → LeadsBy stands leads → ((name : Named) (names : List Named) → face.leads (name ∷ names) ≡ lead_by (inner name) names) → LeadsBy (with_brought stands entries j inner) (with_brought_leads leads entries j face)
brought-lead stands leads entries j face inner all paths m names = by_name (name_among entries m)
  where
    by_name : (o : Option Named) → coming_lead j face (leads m names) names o ≡ lead_by (coming_stand j inner (stands m) o) names
    by_name None = all m names
    by_name (Some name) = ap (through j) (paths name names)

pub exported-lead : (stands : Meaning → Stand) (leads : Leads) (entries : Exports) (name : Named) (names : List Named) → LeadsBy stands leads → exported_leads leads entries (name ∷ names) ≡ lead_by (exported_stand stands entries name) names
exported-lead stands leads entries name names all = by_entry (entry_of entries name)
  where
    by_entry : (o : Option Meaning) → lead_of leads o names ≡ lead_by (stand_in stands o) names
    by_entry None = refl
    by_entry (Some m) = all m names
