use Rattle.std.proofs.Common.{◌≡◌, drop}
use Rattle.std.specs.Prelude.{slice_get}
use Rattle.tla_model.specs.Stretches.{all_words}
use Rattle.tla_model.proofs.table.NameTable.word_at.Given as goal

abbrev pub invariant-loop-stretch : goal.invariant-loop-stretch
invariant-loop-stretch l = slice_get (all_words (drop l.stretch-index l.stretch-items)) l.left ≡ slice_get l.self.words l.index
