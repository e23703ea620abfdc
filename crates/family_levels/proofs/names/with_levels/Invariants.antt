use Rattle.std.proofs.Common.{◌≡◌, ◌++◌, drop, map, take}
use Rattle.family_levels.specs.Judging.{with_level}
use Rattle.family_levels.proofs.names.with_levels.Given as goal

abbrev pub invariant-loop-found : goal.invariant-loop-found
invariant-loop-found l = l.found-items ≡ map (with_level l.levels) (take l.found-index l.initial.found-items) ++ drop l.found-index l.initial.found-items
