use Rattle.flat_depths.proofs.Joining.{expressions-join, greatest-joins, helpers-join, path-parts, sets-join}
use Rattle.flat_depths.proofs.parts_are_joined.Goals as goal

pub returns-clause-nodes : goal.returns-clause-nodes
returns-clause-nodes c f is js = greatest-joins f is js

pub returns-clause-expressions : goal.returns-clause-expressions
returns-clause-expressions c flat text known named outside around form at parts rest i is plain deep others = expressions-join flat text known named outside around form at parts rest i is plain deep others

pub returns-clause-others : goal.returns-clause-others
returns-clause-others c flat text known named outside around form at parts rest is js none first others = helpers-join flat text known named outside around form at parts rest is js none first others

pub returns-clause-sets : goal.returns-clause-sets
returns-clause-sets c flat text known named outside around form at parts rest is js set first others = sets-join flat text known named outside around form at parts rest is js set first others

pub returns-clause-arguments : goal.returns-clause-arguments
returns-clause-arguments c flat text known named around at segments form before own on many = path-parts flat text known named around segments at form before own on many
