use Rattle.std.specs.FinMap.{keys}
use Rattle.fact_values.specs.Values.{needs_in}
use Rattle.fact_values.proofs.ReachLemmas.{reaches_from-leads, leads_from-path}
use Rattle.fact_values.proofs.ValueLemmas.{needs_in-none}
use Rattle.fact_values.proofs.reach_is_paths.Goals as goal

pub returns-clause-path : goal.returns-clause-path
returns-clause-path g c own_of needs_of fact_of texts a b l = reaches_from-leads (needs_in own_of needs_of fact_of texts) (keys texts) a b l

pub returns-clause-found : goal.returns-clause-found
returns-clause-found g c own_of needs_of fact_of texts a b p = leads_from-path (needs_in own_of needs_of fact_of texts) (keys texts) (needs_in-none own_of needs_of fact_of texts) p.0 a b p.1
