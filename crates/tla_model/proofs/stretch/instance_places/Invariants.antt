use Rattle.std.proofs.Common.{◌≡◌, take}
use Rattle.tla_model.specs.EntityKinds.{is_instance, words_meant}
use Rattle.tla_model.specs.Stretches.{words_at, words_of}
use Rattle.tla_model.proofs.stretch.instance_places.Given as goal

abbrev pub invariant-loop-index : goal.invariant-loop-index
invariant-loop-index l = words_at (words_of l.words.entries) l.places.items ≡ words_meant is_instance (take l.index (words_of l.words.entries))
