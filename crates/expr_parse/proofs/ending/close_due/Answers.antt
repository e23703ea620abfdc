use Rattle.expr_parse.proofs.Closing.{due-closed, due-ready}
use Rattle.expr_parse.proofs.ending.close_due.Goals as goal

pub close_all-requires : goal.close_all-requires
close_all-requires c = due-ready _ _ c.pop.new.self c.node.new.self c.in-Some.frame _ c.in-Some-endable.form c.requires.0 (c.in-Some.ensures.top _ c.requires.0 c.requires.1) c.in_ok-part.ensures.made

pub returns : goal.returns
returns c frames stands =
    due-closed _ _ _ c.pop.new.self c.node.new.self c.close_all.new.stack c.in-Some.frame _ _ c.in-Some-endable.form frames (c.in-Some.ensures.top _ frames stands) c.in-Some-endable.ensures c.in_ok-part.ensures.made c.in_ok-left.ensures
