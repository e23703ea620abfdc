use Rattle.std.proofs.Common.{◌+◌, length}
use Rattle.index_graph.proofs.Reaching.{IsSearch, unseen}
use Rattle.index_graph.proofs.search.reached.Given as goal

abbrev pub invariant-loop-index : goal.invariant-loop-index
invariant-loop-index l = IsSearch l.edges l.start l.seen.items l.todo.items

abbrev pub decreases-loop-index : goal.decreases-loop-index
decreases-loop-index l = length l.todo.items + unseen l.seen.items l.edges
