use Rattle.std.proofs.Common.{◌≤◌, drop, length, map}
use Rattle.kind_text.specs.FlatModule.{FlatModule}
use Rattle.kind_table.specs.Flattened.{replacement_of}
use Rattle.tree_numbers.specs.Same.{AreSameReplacements}
use Rattle.tree_numbers.proofs.same.are_same_replacements.Given as goal

abbrev pub invariant-loop-index : goal.invariant-loop-index
invariant-loop-index l = record {
  within : l.index ≤ length l.one;
  rest : (flat : FlatModule) → AreSameReplacements flat l.numbers (map replacement_of (drop l.index l.one)) (map replacement_of (drop l.index l.other));
}

abbrev pub decreases-loop-index : goal.decreases-loop-index
decreases-loop-index l = l.index
