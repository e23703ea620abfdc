use Rattle.std.proofs.Common.{take}
use Rattle.family_tables.specs.Plans.{IsGraph, NeedsBefore}
use Rattle.family_tables.specs.Tables.{names_in}
use Rattle.family_tables.proofs.order.graph_without.Given as goal

abbrev pub invariant-loop-index : goal.invariant-loop-index
invariant-loop-index l = IsGraph (names_in (take l.index l.modules)) (NeedsBefore l.modules) l.without
