use Rattle.flattened_meanings.proofs.Behind.{fresh-round, known-round, seen-round}
use Rattle.flattened_meanings.proofs.Meant.{tree-kept}
use Rattle.flattened_meanings.proofs.flattened_trees_are_meant.Goals as goal

pub returns : goal.returns
returns c flat text known named means implied faces nameable layout setting seen x i asked ordered round can made =
    tree-kept flat text known named means implied faces nameable ordered x round.instances layout setting (seen-round flat text known named faces nameable layout setting seen x round) i asked
    (known-round flat text known named faces nameable layout setting seen x round) made can (fresh-round flat text known named faces nameable layout setting seen x round)
