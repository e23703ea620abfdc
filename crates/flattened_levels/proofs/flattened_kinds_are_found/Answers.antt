use Rattle.flattened_levels.proofs.TreesAnswered.{tree-kind}
use Rattle.flattened_levels.proofs.flattened_kinds_are_found.Goals as goal

pub returns : goal.returns
returns c flat text known named means implied faces nameable layout setting seen around x i asked ordered round asked-round can made =
    tree-kind flat text known named means implied faces nameable ordered layout setting seen around x round asked-round i asked can made
