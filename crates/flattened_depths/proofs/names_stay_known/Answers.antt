use Rattle.flattened_depths.proofs.Knowing.{known-bound, known-first, known-grown, known-more, known-parameters, known-repeating, known-scope}
use Rattle.flattened_depths.proofs.names_stay_known.Goals as goal

pub returns-clause-first : goal.returns-clause-first
returns-clause-first c flat known = known-first flat known

pub returns-clause-bound : goal.returns-clause-bound
returns-clause-bound c flat text known seen layout setting beneath binder knows there takes = known-bound flat known text seen layout setting beneath binder knows there takes

pub returns-clause-seen : goal.returns-clause-seen
returns-clause-seen c flat known seen more layout setting beneath all knows = known-more flat known seen more layout setting beneath all knows

pub returns-clause-olds : goal.returns-clause-olds
returns-clause-olds c flat known seen layout setting beneath olds knows = known-repeating flat known seen layout setting beneath olds knows

pub returns-clause-scopes : goal.returns-clause-scopes
returns-clause-scopes c flat text known named seen layout setting beneath state form parts knows bound fresh = known-scope flat text known named seen layout setting beneath state form parts knows bound fresh

pub returns-clause-parameters : goal.returns-clause-parameters
returns-clause-parameters c flat text known named seen layout setting beneath form parts knows placed fresh = known-parameters flat text known named seen layout setting beneath form parts knows placed fresh

pub returns-clause-grows : goal.returns-clause-grows
returns-clause-grows c flat more known seen layout setting beneath extends ordered within knows = known-grown flat known more seen layout setting beneath extends ordered within knows
