use Rattle.std.proofs.Common.{take}
use Rattle.module_graph.specs.Named.{AddsEnclosing}
use Rattle.module_graph.proofs.named.push_enclosing.Given as goal

abbrev pub invariant-loop-name : goal.invariant-loop-name
invariant-loop-name l = AddsEnclosing l.source l.at (take l.name-index l.names) l.initial.found l.found
