use Rattle.std.proofs.Common.{◌≡◌, take}
use Rattle.tla_model.specs.Stretches.{all_words}
use Rattle.tla_model.proofs.table.shared.Given as goal

abbrev pub invariant-loop-stretch : goal.invariant-loop-stretch
invariant-loop-stretch l = all_words l.copies.items ≡ all_words (take l.stretch-index l.stretches)
