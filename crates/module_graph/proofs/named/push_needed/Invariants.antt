use Rattle.std.proofs.Common.{take}
use Rattle.module_graph.specs.Named.{AddsNeeded}
use Rattle.module_graph.proofs.named.push_needed.Given as goal

abbrev pub invariant-loop-name : goal.invariant-loop-name
invariant-loop-name l = AddsNeeded l.source l.title l.at (take l.name-index l.names) l.initial.found l.found
