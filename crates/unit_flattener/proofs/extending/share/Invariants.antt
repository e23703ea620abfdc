use Rattle.std.proofs.Common.{take}
use Rattle.tree_names.specs.Parameters.{entries_in}
use Rattle.unit_flattener.specs.Walked.{IsShared}
use Rattle.unit_flattener.proofs.extending.share.Given as goal

abbrev pub invariant-loop-parameter : goal.invariant-loop-parameter
invariant-loop-parameter g l = IsShared l.fn.state l.state (g.N.Names.leads l.names) (entries_in (take l.parameter-index l.parameters)) l.fn.made.items l.made.items
