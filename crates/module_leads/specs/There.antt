-- What is known of where names lead is there in a flat module: all to which they lead, and all instances on the way.
use Rattle.std.specs.Prelude.{ℕ, List}
use Rattle.std.specs.List.{AllByRecursion}
use Rattle.tla_model.specs.Tables.{Named}
use Rattle.tla_model.specs.Entities.{Meaning}
use Rattle.kind_text.specs.FlatModule.{FlatModule}
use Rattle.flattened_trees.specs.Leads.{FlatFace, Leads}
use Rattle.flattened_trees.specs.Within.{IsLeadWithin}
use Rattle.module_leads.specs.Leading.{Leading}

module _ (flat : FlatModule) where
  -- all to which meanings lead is there
  abbrev pub LeadWithin : Leads → Type 0
  LeadWithin leads = (meaning : Meaning) (names : List Named) → IsLeadWithin flat (leads meaning names)

  -- and all to which the names of a module lead
  abbrev pub IsFaceThere : FlatFace → Type 0
  IsFaceThere face = (names : List Named) → IsLeadWithin flat (face.leads names)

  -- the same of all that is known
  pub record AllLeadWithin (known : Leading) : Type 0 where
    pub faces : (number : ℕ) → IsFaceThere (known.faces number)
    pub leads : LeadWithin known.leads
    pub round : AllByRecursion LeadWithin known.round
