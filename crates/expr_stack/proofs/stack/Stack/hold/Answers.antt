use Rattle.std.proofs.Common.{refl}
use Rattle.expr_stack.proofs.Stacking.{opens-more}
use Rattle.expr_stack.proofs.stack.Stack.hold.Goals as goal

pub returns-clause-more : goal.returns-clause-more
returns-clause-more c nodes parts read below tree spelled opens part =
    opens-more nodes _ _ _ _ _ parts read below tree spelled refl c.in_ok-push.ensures.items c.reads.ensures opens part
