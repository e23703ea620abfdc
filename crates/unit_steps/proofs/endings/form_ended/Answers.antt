use Rattle.std.proofs.Common.{◌≡◌, true, false, ap, sym, ◌∙◌}
use Rattle.unit_steps.specs.PointMeaning.{form_of_end}
use Rattle.unit_steps.proofs.Stepping.{places-stay, not-ended}
use Rattle.unit_steps.proofs.endings.form_ended.Goals as goal

pub returns-then-not-counts : goal.returns-then-not-counts
returns-then-not-counts c = places-stay c.args.wait c.args.lexeme (λ l. let e : true ≡ false = sym (c.counts.ensures.1 l) ∙ c.if-not-counts.true in cc)

pub returns-in-Ends : goal.returns-in-Ends
returns-in-Ends c = ap form_of_end (sym c.in-Ends.is ∙ c.frame_move.ensures)

pub returns-in_default : goal.returns-in_default
returns-in_default c = not-ended _ _ c.frame_move.ensures c.in_default.not-Ends
