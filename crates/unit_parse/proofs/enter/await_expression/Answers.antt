use Rattle.unit_parse.proofs.Stepping.{enters-expression}
use Rattle.unit_parse.proofs.enter.await_expression.Goals as goal

pub returns-clause-moves : goal.returns-clause-moves
returns-clause-moves c nodes st i = enters-expression nodes c.args.unfinished c.new.result st (c.new.ensures.reading nodes) i
