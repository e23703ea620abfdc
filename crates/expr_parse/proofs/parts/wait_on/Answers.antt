use Rattle.std.proofs.Common.{ap, sym, subst, ◌∙◌}
use Rattle.expr_grammar.specs.Tables as tables
use Rattle.expr_grammar.specs.Machine as machine
use Rattle.expr_grammar.specs.Counting as counting
use Rattle.expr_parse.specs.TurnMeaning.{Turns}
use Rattle.expr_parse.proofs.Going.{cond-turn-true}
use Rattle.expr_parse.proofs.parts.wait_on.Goals as goal

pub returns : goal.returns
returns c frame below tree spelled b =
    cond-turn-true (tables.is_expression (tables.shape tree)) _ c.lead_on.new.tree c.lead_on.new.stack c.in_ok-turn.turn _ _
    (sym (c.is_expression.ensures ∙ ap tables.is_expression (c.shape.ensures ∙ ap tables.shape b.is.is)) ∙ c.if-not-is_expression.false)
    (subst (λ z. Turns c.args.tree.now c.lead_on.new.tree c.lead_on.new.stack c.in_ok-turn.turn (machine.led z frame below tree spelled c.args.lexeme) (counting.made_led z)) c.lead.ensures
    (c.in_ok-turn.ensures frame below tree spelled b))
