use Rattle.std.proofs.Common.{◌≡◌, ◌++◌, arith, sym, ap, ◌∙◌}
use Rattle.std.specs.Str.{chars}
use Rattle.tla_text.specs.Places.{place_after, next_place, behind}
use Rattle.tla_text.proofs.ColumnLemmas.{char_shorter}
use Rattle.tla_text.proofs.FurtherLemmas.{next_place-wide, place_turn, place_end}
use Rattle.tla_text.proofs.columns.place_behind.Goals as goal

pub behind-place-requires-clause-line : goal.behind-place-requires-clause-line
behind-place-requires-clause-line c = let h = char_shorter c.in-Some.c c.loop-c.rest.now c.in-Some.more.now c.in-Some.ensures.0 in omega (arith, h.0, h.1, c.loop-c.invariant.lines, c.requires.line)

pub behind-place-requires-clause-column : goal.behind-place-requires-clause-column
behind-place-requires-clause-column c = let h = char_shorter c.in-Some.c c.loop-c.rest.now c.in-Some.more.now c.in-Some.ensures.0 in omega (arith, h.0, h.1, c.loop-c.invariant.columns, c.requires.column)

pub loop-c-smaller : goal.loop-c-smaller
loop-c-smaller c = let h = char_shorter c.in-Some.c c.loop-c.rest.now c.in-Some.more.now c.in-Some.ensures.0 in omega (arith, h.0, h.1)

pub loop-c-preserved : goal.loop-c-preserved
loop-c-preserved c =
    let h = char_shorter c.in-Some.c c.loop-c.rest.now c.in-Some.more.now c.in-Some.ensures.0 in
    let now : c.behind-place.result ≡ next_place c.args.measure c.loop-c.place c.in-Some.c (chars c.in-Some.more.now ++ chars c.args.after.now) = c.behind-place.ensures ∙ ap (λ e. behind c.args.measure c.loop-c.place c.in-Some.c e) c.ends_line.ensures in
    let wide = next_place-wide c.args.measure c.loop-c.place c.in-Some.c (chars c.in-Some.more.now ++ chars c.args.after.now) in record {
      utf8 = c.in-Some.ensures.1;
      place = ap (λ p. place_after c.args.measure p (chars c.in-Some.more.now) (chars c.args.after.now)) now ∙ sym (place_turn c.args.measure c.loop-c.place c.in-Some.c c.loop-c.rest.now c.in-Some.more.now c.args.after.now c.loop-c.invariant.utf8 c.in-Some.ensures.0) ∙ c.loop-c.invariant.place;
      lines = omega (arith, ap (λ p. p.line) now, wide.0, h.0, c.loop-c.invariant.lines);
      columns = omega (arith, ap (λ p. p.column) now, wide.1, h.0, c.loop-c.invariant.columns);
    }

pub returns : goal.returns
returns c = sym (place_end c.args.measure c.loop-c.place c.loop-c.rest.now c.args.after.now c.in_default.ensures) ∙ c.loop-c.invariant.place
