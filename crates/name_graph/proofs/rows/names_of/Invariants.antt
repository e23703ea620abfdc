use Rattle.std.proofs.Common.{◌≡◌, take, map}
use Rattle.name_graph.specs.Rows as rows_of
use Rattle.name_graph.proofs.rows.names_of.Given as goal

abbrev pub invariant-loop-index : goal.invariant-loop-index
invariant-loop-index l = l.names ≡ map (rows_of.name_at l.rows.entries) (take l.index-index l.indices)
