use Rattle.std.proofs.Common.{ℕ, List}
use Rattle.tla_model.specs.Entities.{Meaning}
use Rattle.tla_model.specs.EntityKinds.{is_meant, stands_behind}
use Rattle.exact_faces.proofs.Keeping.{IsAlone}
use Rattle.exact_faces.proofs.kept.has_words_alone.Given as goal

abbrev pub invariant-loop-index : goal.invariant-loop-index
invariant-loop-index l = IsAlone (λ (word : List ℕ × Meaning). is_meant stands_behind word.1) l.index l.table.words
