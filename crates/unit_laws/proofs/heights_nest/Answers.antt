use Rattle.unit_laws.proofs.NestedHeights.{nested-height, beside-height}
use Rattle.unit_laws.proofs.heights_nest.Goals as goal

pub returns : goal.returns
returns c = record { nested = nested-height; beside = beside-height }
