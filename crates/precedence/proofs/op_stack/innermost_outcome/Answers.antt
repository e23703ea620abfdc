use Rattle.std.proofs.Common.{sym, ◌∙◌}
use Rattle.precedence.proofs.Stack.{last-outcome}
use Rattle.precedence.proofs.op_stack.innermost_outcome.Goals as goal

pub returns-in-Some : goal.returns-in-Some
returns-in-Some c = c.outcome.ensures ∙ sym (last-outcome c.args.waiting.now c.in-Some.operator.now c.in-Some.ensures.value c.args.coming)
