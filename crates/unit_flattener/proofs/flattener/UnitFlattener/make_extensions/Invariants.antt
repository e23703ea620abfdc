use Rattle.std.proofs.Common.{take}
use Rattle.unit_flattener.specs.Changes.{ChangesState}
use Rattle.unit_flattener.specs.Walked.{MakesExtensions}
use Rattle.unit_flattener.specs.Walking.{world_at}
use Rattle.unit_flattener.proofs.flattener.UnitFlattener.make_extensions.Given as goal

abbrev pub invariant-loop-module : goal.invariant-loop-module
invariant-loop-module l = record {
  made : MakesExtensions (world_at l.written l.fn.self) l.fn.self l.self (take l.module-index l.modules) l.instances.items;
  others : ChangesState l.fn.self l.self;
}
