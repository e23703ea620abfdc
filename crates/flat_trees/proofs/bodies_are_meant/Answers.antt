use Rattle.flat_trees.proofs.Definitions.{body-behind, body-itself}
use Rattle.flat_trees.proofs.bodies_are_meant.Goals as goal

pub returns-clause-expressions : goal.returns-clause-expressions
returns-clause-expressions c flat text known named layout i form at parts rest help plain meant = body-itself flat text known named layout i form at parts rest help plain meant

pub returns-clause-definitions : goal.returns-clause-definitions
returns-clause-definitions c flat text known named layout i form at parts rest stand help stands body =
    body-behind flat text known named layout i form at parts rest stand help stands body
