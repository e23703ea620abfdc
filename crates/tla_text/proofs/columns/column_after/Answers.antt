use Rattle.std.proofs.Common.{arith, sym, ap, ◌∙◌}
use Rattle.std.specs.Str.{chars}
use Rattle.tla_text.specs.LineStarts.{column_after}
use Rattle.tla_text.proofs.ColumnLemmas.{column_turn, column_next-le, column_end, char_shorter}
use Rattle.tla_text.proofs.columns.column_after.Goals as goal

pub after-column-requires : goal.after-column-requires
after-column-requires c =
    let h = column_next-le c.args.measure c.loop-c.column c.in-Some.c c.loop-c.rest.now c.in-Some.more.now c.loop-c.invariant.0 c.in-Some.ensures.0 in
    omega (arith, h, c.loop-c.invariant.1, c.requires)

pub loop-c-smaller : goal.loop-c-smaller
loop-c-smaller c = let h = char_shorter c.in-Some.c c.loop-c.rest.now c.in-Some.more.now c.in-Some.ensures.0 in omega (arith, h.0, h.1)

pub loop-c-preserved : goal.loop-c-preserved
loop-c-preserved c = (
  c.in-Some.ensures.1,
  ap (λ n. column_after c.args.measure n (chars c.in-Some.more.now)) c.after-column.ensures ∙ sym (column_turn c.args.measure c.loop-c.column c.in-Some.c c.loop-c.rest.now c.in-Some.more.now c.loop-c.invariant.0 c.in-Some.ensures.0) ∙ c.loop-c.invariant.1,
)

pub returns : goal.returns
returns c = sym (column_end c.args.measure c.loop-c.column c.loop-c.rest.now c.in_default.ensures) ∙ c.loop-c.invariant.1
