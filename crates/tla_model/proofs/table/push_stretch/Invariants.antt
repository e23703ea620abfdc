use Rattle.std.proofs.Common.{◌≡◌, ◌++◌, length}
use Rattle.tla_model.specs.Stretches.{all_words, words_of}
use Rattle.tla_model.proofs.table.push_stretch.Given as goal

abbrev pub invariant-loop-before : goal.invariant-loop-before
invariant-loop-before l = all_words l.stretches.items ++ words_of l.words.entries ≡ all_words l.initial.stretches.items ++ words_of l.initial.words.entries

abbrev pub decreases-loop-before : goal.decreases-loop-before
decreases-loop-before l = length l.stretches.items
