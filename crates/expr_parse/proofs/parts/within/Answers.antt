use Rattle.expr_parse.proofs.Operating.{within-operator, within-other}
use Rattle.expr_parse.proofs.parts.within.Goals as goal

pub returns-then-is_operator : goal.returns-then-is_operator
returns-then-is_operator c fs e b s p =
    within-operator _ _ c.operate.new.stack _ fs e b c.args.lexeme _ _ c.role.ensures c.is_operator.ensures c.if-is_operator.true (c.in_ok-turn.ensures fs e b s p)

pub returns : goal.returns
returns c fs e b s p =
    within-other _ _ c.follow.new.stack _ fs e b c.args.lexeme _ _ c.role.ensures c.is_operator.ensures c.if-is_operator.false (c.in_ok-turn-2.ensures fs e b s p)
