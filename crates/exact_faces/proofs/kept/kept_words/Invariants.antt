use Rattle.std.proofs.Common.{◌≡◌, take}
use Rattle.tla_model.specs.EntityKinds.{stands_behind, words_meant}
use Rattle.tla_model.specs.Stretches.{words_of}
use Rattle.exact_faces.proofs.kept.kept_words.Given as goal

abbrev pub invariant-loop-index : goal.invariant-loop-index
invariant-loop-index l = words_of l.words.entries ≡ words_meant stands_behind (take l.index l.table.words)
