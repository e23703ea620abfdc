use Rattle.std.proofs.Common.{◌≡◌, ◌++◌, take}
use Rattle.unit_flattener.proofs.meanings.with_more.Given as goal

abbrev pub invariant-loop-meaning : goal.invariant-loop-meaning
invariant-loop-meaning l = l.meanings ≡ take l.meaning-index l.first

abbrev pub invariant-loop-meaning-2 : goal.invariant-loop-meaning-2
invariant-loop-meaning-2 l = l.meanings ≡ l.first ++ take l.meaning-index l.more
