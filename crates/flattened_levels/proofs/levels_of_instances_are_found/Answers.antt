use Rattle.flattened_levels.proofs.TreesAnswered.{instance-levels}
use Rattle.flattened_levels.proofs.levels_of_instances_are_found.Goals as goal

pub returns : goal.returns
returns c flat text known named means implied faces nameable layout setting seen around l at rights outer count guards written roots j asked more ordered round asked-round can shaped are is =
    instance-levels flat text known named means implied faces nameable ordered layout setting seen around l at rights outer count guards written roots j asked more round asked-round can shaped are is
