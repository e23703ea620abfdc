use Rattle.instance_parts.specs.Gathered.{AreDoneFrom, IsGathering, IsGrown}
use Rattle.instance_parts.proofs.reached.Gathering.reach_all.Given as goal

abbrev pub invariant-loop-left : goal.invariant-loop-left
invariant-loop-left l = record {
  gathering : IsGathering l.self;
  grown : IsGrown l.initial.self l.self;
  done : AreDoneFrom l.left l.self;
}

abbrev pub decreases-loop-left : goal.decreases-loop-left
decreases-loop-left l = l.left
