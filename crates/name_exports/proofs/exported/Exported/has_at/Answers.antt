use Rattle.std.proofs.Common.{◌∙◌, ◌-◌, ℕ, ap, arith, sym}
use Rattle.std.specs.Prelude.{slice_get}
use Rattle.tla_model.specs.Entities.{Meaning}
use Rattle.tla_model.specs.Stretches.{shown}
use Rattle.tla_model.specs.Tables.{Table}
use Rattle.tla_model.proofs.Stretching.{at-first}
use Rattle.name_context.specs.AsTables.{taken_words, words_of}
use Rattle.name_context.proofs.Places.{at-others}
use Rattle.name_exports.proofs.exported.Exported.has_at.Goals as goal

pub returns-then-index-len : goal.returns-then-index-len
returns-then-index-len c = λ yes.
    ap (λ (t : Table Meaning). slice_get t.words c.args.index) (sym c.self.view_is)
    ∙ at-first (taken_words c.self.inside.taken) (words_of c.self.inside.words.entries) c.args.index (shown c.args.given) (c.is_taken_at.ensures yes)

pub returns-else-index-len : goal.returns-else-index-len
returns-else-index-len c = λ yes.
    let taken = taken_words c.self.inside.taken in
    let own = words_of c.self.inside.words.entries in
    let many = c.taken_len-len.ensures in
    let past = c.if-index-len.false in
    ap (λ (t : Table Meaning). slice_get t.words c.args.index) (sym c.self.view_is)
    ∙ at-others taken own c.args.index (shown c.args.given) (omega (arith, many, past)) (ap (λ (k : ℕ). slice_get own (c.args.index - k)) (sym many) ∙ c.is_own_at.ensures yes)
