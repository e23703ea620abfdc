use Rattle.std.proofs.Common.{◌≡◌, take, map}
use Rattle.name_graph.specs.Rows as rows_of
use Rattle.name_graph.proofs.rows.edges_of.Given as goal

abbrev pub invariant-loop-index : goal.invariant-loop-index
invariant-loop-index l = l.edges.items ≡ map (λ row. rows_of.indices_of l.rows.entries row.1) (take l.index l.rows.entries)
