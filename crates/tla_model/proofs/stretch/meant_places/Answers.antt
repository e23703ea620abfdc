use Rattle.std.proofs.Common.{◌≡◌, ◌≤◌, ◌<◌, ◌+◌, ◌-◌, ℕ, ◌∙◌, ap, arith, drop, length, subst, sym}
use Rattle.std.specs.Prelude.{slice_get, string_bytes, Some}
use Rattle.list_laws.proofs.Lists.{at-map}
use Rattle.tla_model.specs.Meant.{AreMeant}
use Rattle.tla_model.specs.Stretches.{words_of}
use Rattle.tla_model.proofs.Meanings.{meant-before}
use Rattle.tla_model.proofs.stretch.meant_places.Goals as goal

pub loop-index-preserved : goal.loop-index-preserved
loop-index-preserved c =
    let entries = c.args.words.now.entries in
    let words = words_of entries in
    let index = c.loop-index.index in
    let within : index ≤ length entries = c.loop-index.invariant.0 in
    let before : 0 < index = c.loop-index-test.true in
    let key = c.in-Some.field-0-0.now in
    let meaning = c.in-Some.meaning.now in
    let next : index ≡ (index - 1) + 1 = omega arith in
    let at : slice_get words (index - 1) ≡ Some (string_bytes key, meaning) = at-map (λ entry. (string_bytes entry.0, entry.1)) entries (index - 1) (key, meaning) (sym c.in-Some.ensures.entry) in (
      omega arith,
      meant-before words c.loop-index.places c.note_meaning.new.places (index - 1) (string_bytes key, meaning) at c.in_ok-note_meaning.ensures
          (subst (λ (n : ℕ). AreMeant words (drop n words) c.loop-index.places) next c.loop-index.invariant.1),
    )
