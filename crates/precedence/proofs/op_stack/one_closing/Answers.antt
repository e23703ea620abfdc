use Rattle.precedence.proofs.Stack.{closes-one}
use Rattle.precedence.proofs.op_stack.one_closing.Goals as goal

pub returns : goal.returns
returns c = closes-one
