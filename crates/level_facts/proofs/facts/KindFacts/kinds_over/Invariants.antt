use Rattle.std.proofs.Common.{◌≡◌, map}
use Rattle.kind_table.specs.Flattened.{flat_of}
use Rattle.kind_table.specs.Table.{AllWithin, meanings}
use Rattle.level_facts.specs.Facts.{AreKinds, IsFacts, argument_item}
use Rattle.level_facts.specs.Judged.{Found}
use Rattle.level_facts.proofs.facts.KindFacts.kinds_over.Given as goal

abbrev pub invariant-loop-node : goal.invariant-loop-node
invariant-loop-node l = record {
  facts : IsFacts (flat_of l.flat) l.self;
  within : AllWithin l.self.arguments.keys l.frame.items;
  meant : meanings (flat_of l.flat) l.self.arguments.keys l.frame.items ≡ map (argument_item (flat_of l.flat)) l.arguments;
  found : Found (flat_of l.flat) l.self.arguments.keys l.start l.node l.frame.items l.found.items;
  kinds : AreKinds (flat_of l.flat) (map (argument_item (flat_of l.flat)) l.arguments) l.start l.node l.kinds.items;
}
