use Rattle.std.proofs.Common.{take}
use Rattle.fact_store.specs.Plans.{IsGround}
use Rattle.fact_store.proofs.plan.ground_of.Given as goal

abbrev pub invariant-loop-index : goal.invariant-loop-index
invariant-loop-index l = IsGround l.groups l.group (take l.index-index l.row) l.ground
