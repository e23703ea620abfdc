use Rattle.std.proofs.Common.{ap, ◌∙◌}
use Rattle.tree_flattener.specs.Found.{listed_in}
use Rattle.tree_flattener.proofs.written.Written.implied.Goals as goal

pub returns-in-Some : goal.returns-in-Some
returns-in-Some c = c.as_slice.ensures ∙ ap listed_in c.in-Some.ensures.value

pub returns-in-None : goal.returns-in-None
returns-in-None c = ap listed_in c.in-None.ensures.value
