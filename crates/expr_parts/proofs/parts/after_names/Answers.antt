use Rattle.expr_grammar.specs.declared.wait.Shape.{Shape}
use Rattle.expr_grammar.specs.Tables.{after_part}
use Rattle.expr_kinds.proofs.Rows.{row, tested}
use Rattle.expr_parts.proofs.parts.after_names.Goals as goal

pub returns-in-QuantifierFirst : goal.returns-in-QuantifierFirst
returns-in-QuantifierFirst c = row (λ w. after_part w Shape.Names c.args.lexeme) c.in-QuantifierFirst.is (tested _ c.if_goes.ensures c.is_colon-colon.ensures c.keeps.ensures)

pub returns-in-TemporalFirst : goal.returns-in-TemporalFirst
returns-in-TemporalFirst c = row (λ w. after_part w Shape.Names c.args.lexeme) c.in-TemporalFirst.is (tested _ c.if_goes-in-TemporalFirst.ensures c.is_colon-colon.ensures c.keeps-in-TemporalFirst.ensures)

pub returns-in-ChooseFirst : goal.returns-in-ChooseFirst
returns-in-ChooseFirst c = row (λ w. after_part w Shape.Names c.args.lexeme) c.in-ChooseFirst.is (tested _ c.if_goes-in-ChooseFirst.ensures c.is_colon-colon.ensures c.keeps-in-ChooseFirst.ensures)
