use Rattle.unit_parse.proofs.Stepping.{enters-bounds}
use Rattle.unit_parse.proofs.enter.await_bounds.Goals as goal

pub returns-clause-moves : goal.returns-clause-moves
returns-clause-moves c nodes st i = enters-bounds nodes c.args.unfinished c.args.frame c.new.result st (c.new.ensures.reading nodes) i
