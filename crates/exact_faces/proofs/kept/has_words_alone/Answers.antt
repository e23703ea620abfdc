use Rattle.std.proofs.Common.{ℕ, List, sym}
use Rattle.tla_model.specs.Entities.{Meaning}
use Rattle.tla_model.specs.EntityKinds.{is_meant, stands_behind}
use Rattle.exact_faces.proofs.Keeping.{alone-next}
use Rattle.exact_faces.proofs.kept.has_words_alone.Goals as goal

pub loop-index-preserved : goal.loop-index-preserved
loop-index-preserved c =
    alone-next (λ (word : List ℕ × Meaning). is_meant stands_behind word.1) c.loop-index.index c.args.table.now.words (c.in-Some.field-0-0.now, c.in-Some.meaning.now)
    (sym c.in-Some.ensures) (sym c.if-not-stands_behind.ensures) c.loop-index.invariant
