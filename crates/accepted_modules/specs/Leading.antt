-- Where symbols lead, whatever is defined beside them.
use Rattle.std.specs.Prelude.{◌≡◌, List, [], ◌∷◌}
use Rattle.tla_model.specs.Tables.{Named}
use Rattle.tla_model.specs.Entities.{Meaning}
use Rattle.flattened_trees.specs.Leads.{Setting}
use Rattle.module_meanings.specs.Premises.{symbol_leads}

-- a name leads where symbols do by themselves, in a module and in those round it
abbrev pub LeadsByItself : Meaning → Setting → List Setting → Type 0
LeadsByItself meaning setting [] = (names : List Named) → setting.leads meaning names ≡ symbol_leads [] setting.frame meaning names
LeadsByItself meaning setting (outer ∷ round) =
    ((names : List Named) → setting.leads meaning names ≡ symbol_leads (outer ∷ round) setting.frame meaning names) × LeadsByItself meaning outer round
