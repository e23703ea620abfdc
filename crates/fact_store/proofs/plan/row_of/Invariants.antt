use Rattle.std.proofs.Common.{take}
use Rattle.fact_store.specs.Plans.{IsRow}
use Rattle.fact_store.proofs.plan.row_of.Given as goal

abbrev pub invariant-loop-name : goal.invariant-loop-name
invariant-loop-name g l = IsRow l.slots (take l.name-index l.names) l.row
