use Rattle.std.proofs.Common.{rules, sym, ◌∙◌, arith}
use Rattle.precedence.proofs.Stack.{ended-step}
use Rattle.precedence.proofs.op_stack.kept_before.Goals as goal

pub loop-kept-preserved : goal.loop-kept-preserved
loop-kept-preserved c =
    (omega (arith, c.loop-kept.invariant.0), ended-step c.args.waiting.now c.loop-kept.kept c.args.coming c.loop-kept.invariant.0 (sym c.innermost_outcome.ensures ∙ (search rules)) c.loop-kept.invariant.1)
