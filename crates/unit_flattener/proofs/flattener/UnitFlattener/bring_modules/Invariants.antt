use Rattle.std.proofs.Common.{take}
use Rattle.unit_flattener.specs.Changes.{ChangesLeads}
use Rattle.unit_flattener.specs.Walked.{BringsAll}
use Rattle.unit_flattener.proofs.flattener.UnitFlattener.bring_modules.Given as goal

abbrev pub invariant-loop-index : goal.invariant-loop-index
invariant-loop-index l = record {
  brings : BringsAll l.written l.fn.self l.self (take l.index l.modules) (take l.index l.instances);
  others : ChangesLeads l.fn.self l.self;
}
