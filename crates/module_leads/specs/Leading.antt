-- What is known at a place of a module of where names lead.
use Rattle.std.specs.Prelude.{◌≡◌, ℕ, suc, Bool, List, [], ◌∷◌, if◌then◌else◌, length, nat_eq}
use Rattle.std.specs.List.{AllByRecursion}
use Rattle.tla_model.specs.Entities.{Meaning}
use Rattle.module_model.specs.Exports.{Exports}
use Rattle.flattened_trees.specs.Leads.{FlatFace, Leads}
use Rattle.flattened_units.specs.Units.{exported_leads, no_face, no_leads, with_symbols}
use Rattle.module_leads.specs.declared.faces.ModuleFace.{ModuleFace}
use Rattle.module_leads.specs.declared.layer.Layer.{Layer}
use Rattle.module_leads.specs.declared.leads.ModuleLeads.{ModuleLeads}
use Rattle.module_leads.specs.Faces.{faces_of}
use Rattle.module_leads.specs.Layers.{IsLayerWithin, IsSilent, leads_by, round_by, way_by}

-- what modules are to their instances, by so many numbers, and none by any other; where meanings lead, and where they led round
-- the nested modules in which the place is, the innermost first
pub record Leading : Type 0 where
  pub count : ℕ
  pub faces : ℕ → FlatFace
  pub leads : Leads
  pub round : List Leads

-- nothing is known
abbrev pub nothing_led : Leading
nothing_led = record { count = 0; faces = λ number. no_face; leads = no_leads; round = [] }

-- with other leads
abbrev pub leading : Leading → Leads → Leading
leading known leads = record known { leads = leads }

-- inside a module with these symbols, at places from this one on
abbrev pub entered : Leading → List Meaning → ℕ → Leading
entered known own place = record known { leads = with_symbols known.leads own place; round = known.leads ∷ known.round }

-- behind the innermost module, by what was known round it
abbrev pub left_by : Leading → List Leads → Leading
left_by known [] = known
left_by known (leads ∷ round) = record known { leads = leads; round = round }

-- behind the innermost module
abbrev pub left : Leading → Leading
left known = left_by known known.round

-- what a module is to its instances, by its symbols and what it exports
abbrev pub face_over : Exports → ℕ → Bool → Exports → Leads → FlatFace
face_over parameters outer is_constant entries leads =
    record { parameters = parameters; outer = outer; leads = exported_leads leads entries; is_constant = is_constant }

-- with one more module
abbrev pub with_face : Leading → FlatFace → Leading
with_face known face = record known { count = suc known.count; faces = λ number. if nat_eq number known.count then face else known.faces number }

-- ---- in code

-- what is known by a table of faces, and by layers: those round the innermost module, the outermost first, and its own
abbrev pub leading_of : List ModuleFace → List Layer → Layer → Leading
leading_of faces round here =
    record {
      count = length faces;
      faces = faces_of faces;
      leads = leads_by (faces_of faces) (way_by round here);
      round = round_by (faces_of faces) round (length round);
    }

-- the same in code
abbrev pub leading_in : ModuleLeads → Leading
leading_in leads = leading_of leads.faces.items leads.round.items leads.here

-- all ways of layers lead behind faces of a table
pub record AreWithin (faces : List ModuleFace) (round : List Layer) (here : Layer) : Type 0 where
  pub outer : AllByRecursion (IsLayerWithin (length faces)) round
  pub inner : IsLayerWithin (length faces) here

-- the same in code
abbrev pub IsSound : ModuleLeads → Type 0
IsSound leads = AreWithin leads.faces.items leads.round.items leads.here

-- ---- a module ends

-- one module alone is round the place, of which nothing is said
pub record IsOutermost (round : List Layer) : Type 0 where
  pub outer : Layer
  pub alone : round ≡ outer ∷ []
  pub silent : IsSilent outer

-- the place is left for the one round it, and what was said in the module is handed over
pub record IsTaken (old new : ModuleLeads) (layer : Layer) : Type 0 where
  pub faces : new.faces ≡ old.faces
  pub here : layer ≡ old.here
  pub round : old.round.items ≡ new.here ∷ []
  pub left : new.round.items ≡ []
  pub silent : IsSilent new.here
