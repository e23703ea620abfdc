use Rattle.std.proofs.Common.{◌≡◌, map, take}
use Rattle.tree_numbers.specs.Keys.{root_in}
use Rattle.tree_numbers.proofs.keys.roots_of.Given as goal

abbrev pub invariant-loop-replacement : goal.invariant-loop-replacement
invariant-loop-replacement l = l.roots.items ≡ map (root_in l.numbers) (take l.replacement-index l.replacements)
