use Rattle.name_graph.proofs.Ordering.{IsFirstOf}
use Rattle.name_graph.proofs.rows.first_of.Given as goal

abbrev pub invariant-loop-index : goal.invariant-loop-index
invariant-loop-index l = IsFirstOf l.rows.entries l.indices l.index-index l.first
