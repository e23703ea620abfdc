use Rattle.std.proofs.Common.{◌≡◌, drop}
use Rattle.tla_model.specs.Meant.{word_meaning}
use Rattle.tla_model.specs.Stretches.{all_words}
use Rattle.tla_model.proofs.table.NameTable.word_meaning.Given as goal

abbrev pub invariant-loop-stretch : goal.invariant-loop-stretch
invariant-loop-stretch l = word_meaning (all_words (drop l.stretch-index l.stretch-items)) l.meaning ≡ word_meaning l.self.words l.meaning
