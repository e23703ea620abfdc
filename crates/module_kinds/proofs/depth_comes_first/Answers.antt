use Rattle.std.proofs.Common.{ap}
use Rattle.module_kinds.specs.ModuleKinds.{depth_faults, level_faults, level_findings, or_levels}
use Rattle.module_kinds.proofs.depth_comes_first.Goals as goal

pub returns : goal.returns
returns c files source units none = ap (λ deep. or_levels (depth_faults deep) (level_faults (level_findings files source units))) none
