use Rattle.std.proofs.Common.{arith, sym, ap, ◌≡◌, ◌-◌, true, false}
use Rattle.std.specs.Str.{chars}
use Rattle.tla_text.specs.Places.{stops_before, bytes_of_units}
use Rattle.tla_text.proofs.ColumnLemmas.{units_stop, units_turn, units_end, char_shorter}
use Rattle.tla_text.proofs.columns.bytes_of_units.Goals as goal

pub returns-then-stops_before-clause-value : goal.returns-then-stops_before-clause-value
returns-then-stops_before-clause-value c =
    let stops : stops_before c.loop-c.left c.in-Some.c ≡ true = sym c.if-stops_before.ensures in
    let h = units_stop c.loop-c.left c.in-Some.c c.loop-c.rest.now c.in-Some.more.now c.loop-c.invariant.0 c.in-Some.ensures.0 stops in
    omega (arith, h, c.loop-c.invariant.1)

pub loop-c-preserved : goal.loop-c-preserved
loop-c-preserved c =
    let goes : stops_before c.loop-c.left c.in-Some.c ≡ false = sym c.if-stops_before.ensures in
    let h = units_turn c.loop-c.left c.in-Some.c c.loop-c.rest.now c.in-Some.more.now c.loop-c.invariant.0 c.in-Some.ensures.0 goes in
    let s = char_shorter c.in-Some.c c.loop-c.rest.now c.in-Some.more.now c.in-Some.ensures.0 in
    let left = ap (λ n. bytes_of_units (c.loop-c.left - n) (chars c.in-Some.more.now)) c.utf16_len-left.ensures in (
      c.in-Some.ensures.1,
      omega (arith, h, left, c.len_utf8-bytes.ensures.value, c.loop-c.invariant.1),
      omega (arith, s.0, c.len_utf8-bytes.ensures.value, c.loop-c.invariant.2),
    )

pub returns-clause-value : goal.returns-clause-value
returns-clause-value c = let h = units_end c.loop-c.left c.loop-c.rest.now c.in_default.ensures in omega (arith, h, c.loop-c.invariant.1)
