use Rattle.std.proofs.Common.{ap, sym, ◌∙◌}
use Rattle.expr_grammar.specs.Tables as tables
use Rattle.expr_parse.proofs.Going.{cond-still-true}
use Rattle.expr_parse.proofs.parts.take_factor.Goals as goal

pub returns : goal.returns
returns c frame below tree spelled b =
    cond-still-true (tables.is_expression (tables.shape tree)) c.args.tree.now c.take.new.stack c.in_ok-turn.turn _
    (sym (c.is_expression.ensures ∙ ap tables.is_expression (c.shape.ensures ∙ ap tables.shape b.is.is)) ∙ c.if-not-is_expression.false)
    (c.in_ok-turn.ensures c.args.tree.now frame below tree spelled b).turned
