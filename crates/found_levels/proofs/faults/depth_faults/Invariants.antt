use Rattle.std.proofs.Common.{◌≡◌, take}
use Rattle.module_kinds.specs.ModuleKinds.{depth_faults}
use Rattle.found_levels.proofs.faults.depth_faults.Given as goal

abbrev pub invariant-loop-name : goal.invariant-loop-name
invariant-loop-name l = l.faults ≡ depth_faults (take l.name-index l.deep)
