use Rattle.std.proofs.Common.{◌++◌, drop}
use Rattle.std.specs.List.{AllByRecursion}
use Rattle.kind_table.specs.Flattened.{flat_of}
use Rattle.tree_numbers.specs.Numbered.{AreInstances, IsFirst, IsSamePath, KeepsFirsts}
use Rattle.tree_numbers.proofs.instances.Instances.path.Given as goal

-- the instances so far, and then those that are left, are the same path
abbrev pub invariant-loop-instance : goal.invariant-loop-instance
invariant-loop-instance l = record {
  instances : AreInstances (flat_of l.flat) l.numbers l.self;
  kept : KeepsFirsts l.fn.self.known.entries l.self.known.entries;
  same : IsSamePath (flat_of l.flat) l.path (l.firsts.items ++ drop l.instance-index l.path);
  firsts : AllByRecursion (IsFirst l.self.known.entries) l.firsts.items;
}
