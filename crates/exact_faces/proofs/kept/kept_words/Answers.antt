use Rattle.std.proofs.Common.{ℕ, List, sym}
use Rattle.std.specs.Str.{bytes_eq}
use Rattle.tla_model.specs.Entities.{Meaning}
use Rattle.tla_model.specs.EntityKinds.{is_meant, stands_behind}
use Rattle.tla_model.specs.Stretches.{words_of}
use Rattle.exact_faces.proofs.Keeping.{kept-next, next-new}
use Rattle.exact_faces.proofs.kept.kept_words.Goals as goal

pub put_kept-requires : goal.put_kept-requires
put_kept-requires c =
    next-new bytes_eq (λ (word : List ℕ × Meaning). is_meant stands_behind word.1) (words_of c.loop-index.words.entries) c.args.table.now.words c.loop-index.index
    (c.in-Some.word.now, c.in-Some.meaning.now) c.len-index-end.ensures.once (sym c.in-Some.ensures) c.loop-index.invariant

pub loop-index-preserved : goal.loop-index-preserved
loop-index-preserved c =
    kept-next (λ (word : List ℕ × Meaning). is_meant stands_behind word.1) (words_of c.loop-index.words.entries) (words_of c.put_kept.new.words.entries) c.args.table.now.words c.loop-index.index
    (c.in-Some.word.now, c.in-Some.meaning.now) (sym c.in-Some.ensures) c.loop-index.invariant c.in_ok-put_kept.ensures
