use Rattle.std.proofs.Common.{drop}
use Rattle.name_context.specs.AsTables.{AreApart, words_of}
use Rattle.name_context.proofs.context.are_apart.Given as goal

abbrev pub invariant-loop-index : goal.invariant-loop-index
invariant-loop-index l = AreApart l.table.words (words_of (drop l.index l.words.entries)) → AreApart l.table.words (words_of l.words.entries)
