use Rattle.std.proofs.Common.{take}
use Rattle.std.specs.List.{AllZip}
use Rattle.family_levels.specs.Again.{IsNeed}
use Rattle.family_levels.proofs.next.needs_found.Given as goal

abbrev pub invariant-loop-need : goal.invariant-loop-need
invariant-loop-need l = AllZip (IsNeed l.plan l.outcomes l.versions l.name) (take l.need-index l.needs) l.found
