use Rattle.expr_parse.proofs.Closing.{outer-below}
use Rattle.expr_parse.proofs.ending.outer.Goals as goal

pub returns : goal.returns
returns c last below q = outer-below c.args.frames.now last below q
