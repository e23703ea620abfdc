use Rattle.flattened_levels.proofs.TreesAnswered.{definition-levels}
use Rattle.flattened_levels.proofs.levels_of_definitions_are_found.Goals as goal

pub returns : goal.returns
returns c flat text known named means implied faces nameable layout setting seen around x lead roots asked ordered round asked-round can shaped made =
    definition-levels flat text known named means implied faces nameable ordered layout setting seen around x lead roots asked round asked-round can shaped made
