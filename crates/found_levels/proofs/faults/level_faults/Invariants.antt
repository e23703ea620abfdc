use Rattle.std.proofs.Common.{◌≡◌, take}
use Rattle.module_kinds.specs.ModuleKinds.{level_faults}
use Rattle.found_levels.specs.Findings.{findings_of}
use Rattle.found_levels.proofs.faults.level_faults.Given as goal

abbrev pub invariant-loop-finding : goal.invariant-loop-finding
invariant-loop-finding l = l.faults ≡ level_faults (findings_of (take l.finding-index l.found))
