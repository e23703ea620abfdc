use Rattle.fact_values.proofs.ValueLemmas.{value-step}
use Rattle.fact_values.proofs.values_unfold.Goals as goal

pub returns : goal.returns
returns g c own_of needs_of fact_of texts name = value-step own_of needs_of fact_of texts name
