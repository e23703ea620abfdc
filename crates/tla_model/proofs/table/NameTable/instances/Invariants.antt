use Rattle.std.proofs.Common.{◌≡◌, ◌++◌, drop}
use Rattle.std.specs.Prelude.{map}
use Rattle.tla_model.specs.EntityKinds.{is_instance, words_meant}
use Rattle.tla_model.specs.Stretches.{all_words, shown}
use Rattle.tla_model.proofs.table.NameTable.instances.Given as goal

abbrev pub invariant-loop-stretch : goal.invariant-loop-stretch
invariant-loop-stretch l = map shown l.found.items ++ words_meant is_instance (all_words (drop l.stretch-index l.stretch-items)) ≡ words_meant is_instance l.self.words
