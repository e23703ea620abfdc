use Rattle.std.proofs.Common.{◌≡◌, take}
use Rattle.tla_model.specs.Starting.{AreNoted}
use Rattle.tla_model.proofs.starts.Starts.new.Given as goal

abbrev pub invariant-loop-start : goal.invariant-loop-start
invariant-loop-start l = record {
  kept : l.kept.items ≡ take l.start-index l.starts;
  noted : AreNoted l.places.entries l.kept.items;
}
