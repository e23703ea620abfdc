use Rattle.std.proofs.Common.{◌≡◌, take}
use Rattle.name_graph.specs.Rows as rows_of
use Rattle.name_graph.proofs.rows.indices_of.Given as goal

abbrev pub invariant-loop-name : goal.invariant-loop-name
invariant-loop-name l = l.indices ≡ rows_of.indices_of l.rows.entries (take l.name-index l.names)
