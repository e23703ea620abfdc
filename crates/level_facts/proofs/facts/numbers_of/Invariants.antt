use Rattle.std.proofs.Common.{take}
use Rattle.kind_table.specs.Flattened.{flat_of}
use Rattle.level_facts.specs.Facts.{AddsArguments, IsFacts}
use Rattle.level_facts.proofs.facts.numbers_of.Given as goal

abbrev pub invariant-loop-argument : goal.invariant-loop-argument
invariant-loop-argument l = record {
  facts : IsFacts (flat_of l.flat) l.facts;
  added : AddsArguments (flat_of l.flat) l.fn.facts.arguments.keys l.facts.arguments.keys l.numbers.items (take l.argument-index l.arguments);
}
