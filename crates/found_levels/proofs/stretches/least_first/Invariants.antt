use Rattle.std.proofs.Common.{◌<◌, ◌≤◌, length, take}
use Rattle.std.specs.List.{AllByRecursion}
use Rattle.kind_text.specs.FlatModule.{FlatModule}
use Rattle.kind_table.specs.Flattened.{first_node}
use Rattle.level_facts.specs.Facts.{IsFacts}
use Rattle.found_levels.proofs.stretches.least_first.Given as goal

abbrev pub invariant-loop-node : goal.invariant-loop-node
invariant-loop-node l = record {
  least : l.least ≤ l.first;
  each : (flat : FlatModule) → IsFacts flat l.facts → AllByRecursion (λ i. i < length flat.nodes) l.nodes → AllByRecursion (λ i. l.least ≤ first_node flat i) (take l.node-index l.nodes);
}
