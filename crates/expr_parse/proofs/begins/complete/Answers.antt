use Rattle.expr_parse.proofs.Turning.{complete-bare, complete-stays}
use Rattle.expr_parse.proofs.begins.complete.Goals as goal

pub returns-in_default : goal.returns-in_default
returns-in_default c nodes frames tree spelled stands is =
    complete-bare nodes c.pop.new.self c.args.part frames tree spelled (c.in_default.ensures.top nodes frames stands) is

pub returns-in_ok-put-in-None : goal.returns-in_ok-put-in-None
returns-in_ok-put-in-None c nodes frames tree spelled stands is =
    complete-stays nodes c.pop.new.self c.put.new.self c.in-Some.frame c.args.part frames tree spelled (c.in-Some.ensures.top nodes frames stands) is c.in-None.ensures c.in_ok-put-in-None.ensures
