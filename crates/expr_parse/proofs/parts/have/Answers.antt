use Rattle.expr_parse.proofs.Operating.{have-left, have-inside}
use Rattle.expr_parse.proofs.parts.have.Goals as goal

pub returns-then-lexeme-inner : goal.returns-then-lexeme-inner
returns-then-lexeme-inner c fs e b s p =
    have-left _ _ c.leave.new.stack _ fs e b c.args.lexeme _ (c.inner.ensures c.args.tree.now _ fs s) c.if-lexeme-inner.true (c.in_ok-turn.ensures fs e b s p)

pub returns : goal.returns
returns c fs e b s p =
    have-inside _ _ c.within.new.stack _ fs e b c.args.lexeme _ (c.inner.ensures c.args.tree.now _ fs s) c.if-lexeme-inner.false (c.in_ok-turn-2.ensures fs e b s p)
