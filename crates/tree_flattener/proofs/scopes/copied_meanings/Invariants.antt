use Rattle.std.proofs.Common.{◌≡◌, take}
use Rattle.tree_flattener.proofs.scopes.copied_meanings.Given as goal

abbrev pub invariant-loop-meaning : goal.invariant-loop-meaning
invariant-loop-meaning l = l.copies ≡ take l.meaning-index l.meanings
