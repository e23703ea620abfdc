use Rattle.tla_text.proofs.LineLemmas.{starts_after-found, starts_after-none}
use Rattle.tla_text.proofs.lines.next_line_byte.Goals as goal

pub returns-clause-starts : goal.returns-clause-starts
returns-clause-starts c = λ at. starts_after-found c.in-Some.before c.args.text.now c.in-Some.ensures.0.high c.in-Some.ensures.0.before at

pub returns-in_default-clause-starts : goal.returns-in_default-clause-starts
returns-in_default-clause-starts c = λ at. starts_after-none at c.args.text.now c.in_default.ensures
