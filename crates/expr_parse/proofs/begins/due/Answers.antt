use Rattle.std.proofs.Common.{ap, ◌∙◌}
use Rattle.expr_grammar.specs.Tables.{begins}
use Rattle.expr_parse.proofs.Turning.{due-none, due-left, due-begins}
use Rattle.expr_parse.proofs.begins.due.Goals as goal

pub returns-in_default : goal.returns-in_default
returns-in_default c frames stands = due-none _ c.args.stack.now frames c.args.lexeme (c.in_default.ensures.top c.args.tree.now frames stands)

pub returns-then-lexeme-inner : goal.returns-then-lexeme-inner
returns-then-lexeme-inner c frames stands =
    due-left _ _ c.args.stack.now c.end_top.new.stack _ c.in-Some.wait frames c.args.lexeme _ (c.in-Some.ensures.top c.args.tree.now frames stands) stands (c.inner.ensures c.args.tree.now _ frames stands) c.if-lexeme-inner.true c.in_ok-turn.ensures

pub returns : goal.returns
returns c frames stands =
    due-begins _ _ c.args.stack.now c.begin.new.stack _ c.in-Some.wait _ frames c.args.lexeme _ (c.in-Some.ensures.top c.args.tree.now frames stands) stands (c.inner.ensures c.args.tree.now _ frames stands) c.if-lexeme-inner.false
    (c.begins.ensures ∙ ap (λ z. begins z c.args.lexeme) c.mode.ensures) c.in_ok-turn-2.ensures
