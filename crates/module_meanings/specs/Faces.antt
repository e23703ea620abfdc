-- What is asked of the modules that units name: they are to these what a flat module has for them. It is said by where names lead
-- there, and so without what these stand for.
use Rattle.std.specs.Prelude.{◌≡◌, ℕ, ◌+◌, ◌<◌, Bool, true, false, List, [], ◌∷◌, Some, length}
use Rattle.std.specs.List.{AllByRecursion}
use Rattle.tla_model.specs.Tables.{Named}
use Rattle.tla_model.specs.Entities.{Meaning}
use Rattle.module_model.specs.Exports.{behind_instance, entry_of, onward}
use Rattle.kind_text.specs.FlatModule.{FlatModule}
use Rattle.tree_kinds.specs.Standing.{Outside, is_bound}
use Rattle.flat_trees.specs.Stands.{Stand, Unsaid, Leaf, Place}
use Rattle.flat_trees.specs.Layouts.{order_of}
use Rattle.flat_trees.specs.Instances.{IsModule, IsModuleBehind, symbols_of}
use Rattle.flat_kinds.specs.Declarations.{OfAllKnown}
use Rattle.flat_kinds.specs.Symbols.{symbols_at}
use Rattle.flattened_trees.specs.declared.End.TheVariants as end
use Rattle.flattened_trees.specs.Leads.{FlatFace, Lead, Leads, only}
use Rattle.flattened_trees.specs.Agreeing.{TakesBehind, lead_by, unsaid_stand}
use Rattle.flattened_trees.specs.Within.{IsLeadWithin}
use Rattle.flattened_units.specs.Units.{Reader}

-- where the first so many places stay, a name that stands so leads here where it does there; or nothing is said of it
abbrev pub LeadsAs : ℕ → Stand → Lead → Type 0
LeadsAs outer Unsaid lead = Unit {0}
LeadsAs outer (Leaf kind) lead = lead ≡ only (end.Leaf kind) []
LeadsAs outer (Place place order) lead = (place < outer) × (lead ≡ only (end.Place place order) [])
LeadsAs outer _ lead = ⊥

-- a name leads to a place, as a symbol of its order
abbrev pub IsPlaced : Leads → Meaning → Type 0
IsPlaced leads meaning = (place : ℕ) × (leads meaning [] ≡ only (end.Place place (order_of meaning)) [])

-- what is built in and bound names lead to the leaves that they are
abbrev pub LeavesLead : Leads → Type 0
LeavesLead leads = (meaning : Meaning) → LeadsAs 0 (unsaid_stand meaning) (leads meaning [])

-- all names lead to what is there
abbrev pub LeadsWithin : FlatModule → Leads → Type 0
LeadsWithin flat leads = (meaning : Meaning) (names : List Named) → IsLeadWithin flat (leads meaning names)

-- so do the names of a module behind its instances
abbrev pub IsFaceWithin : FlatModule → FlatFace → Type 0
IsFaceWithin flat face = (name : Named) (names : List Named) → IsLeadWithin flat (face.leads (name ∷ names))

-- the same of all names at a unit, and of all nested modules that can be named there
pub record IsReaderWithin (flat : FlatModule) (reader : Reader) : Type 0 where
  pub leads : LeadsWithin flat reader.setting.leads
  pub round : AllByRecursion (λ setting. LeadsWithin flat setting.leads) reader.round
  pub faces : OfAllKnown (IsFaceWithin flat) reader.faces.here
  pub behind : AllByRecursion (λ nested. OfAllKnown (IsFaceWithin flat) nested.1) reader.faces.round

module _ (flat : FlatModule) where
  -- a module is that to its instances, by where names lead here and by which are new: its names stand so behind the symbols of the modules
  -- round it, which lead where they do here; its own symbols are found by their names; and nothing is said there of new names, but of bound ones
  pub record IsFaceBy (new : Meaning → Bool) (leads : Leads) (face : FlatFace) (outside : Outside) : Type 0 where
    pub base : Meaning → Stand
    pub inner : Named → Stand
    pub paths : (name : Named) (names : List Named) → face.leads (name ∷ names) ≡ lead_by (inner name) names
    pub kept : IsModuleBehind flat base face.outer inner outside
    pub takes : (name : Named) (next : Meaning) → entry_of (behind_instance outside.view []) name ≡ Some next → TakesBehind (inner name) (onward (behind_instance outside.view) name) next
    pub apart : AllByRecursion (λ parameter. entry_of outside.view.parameters parameter.0 ≡ Some parameter.1) outside.view.parameters
    pub symbols : (meaning : Meaning) → LeadsAs face.outer (base meaning) (leads meaning [])
    pub unsaid : (meaning : Meaning) → new meaning ≡ true → is_bound meaning ≡ false → base meaning ≡ Unsaid

  -- a module is that to one that extends it, by where names lead and by where symbols do: its names stand so over its symbols, each of its
  -- own entity alone, which lead to places here, behind those of the modules round it
  pub record IsExtendedBy (leads symbol_leads : Leads) (face : FlatFace) (outside : Outside) : Type 0 where
    pub base : Meaning → Stand
    pub inner : Named → Stand
    pub paths : (name : Named) (names : List Named) → face.leads (name ∷ names) ≡ lead_by (inner name) names
    pub kept : IsModule flat (symbols_at base (symbols_of outside) face.outer) (face.outer + length (symbols_of outside)) inner outside
    pub takes : (name : Named) (next : Meaning) → entry_of (behind_instance outside.view []) name ≡ Some next → TakesBehind (inner name) (onward (behind_instance outside.view) name) next
    pub parameters : face.parameters ≡ outside.view.parameters
    pub symbols : (meaning : Meaning) → LeadsAs face.outer (base meaning) (symbol_leads meaning [])
    pub placed : AllByRecursion (λ meaning. IsPlaced symbol_leads meaning × (leads meaning [] ≡ symbol_leads meaning [])) (symbols_of outside)
