use Rattle.std.proofs.Common.{take}
use Rattle.family_tables.specs.Plans.{IsGraph, Needs}
use Rattle.family_tables.specs.Tables.{names_in}
use Rattle.family_tables.proofs.order.graph_of.Given as goal

abbrev pub invariant-loop-index : goal.invariant-loop-index
invariant-loop-index l = IsGraph (names_in (take l.index l.modules)) (Needs l.modules) l.graph
