use Rattle.std.proofs.Common.{take}
use Rattle.family_tables.specs.Plans.{AreKept}
use Rattle.family_tables.proofs.order.kept_needs.Given as goal

abbrev pub invariant-loop-need : goal.invariant-loop-need
invariant-loop-need l = AreKept l.graph l.name (take l.need-index l.needs) l.kept
