use Rattle.expr_grammar.specs.declared.wait.Wait.{Wait}
use Rattle.expr_grammar.specs.declared.wait.Shape.{Shape}
use Rattle.expr_grammar.specs.Tables.{after_part}
use Rattle.expr_kinds.proofs.Rows.{row, tested, bounded}
use Rattle.expr_parts.proofs.parts.after_bounds.Goals as goal

pub returns-in-ChooseFirst : goal.returns-in-ChooseFirst
returns-in-ChooseFirst c = row (λ w. after_part w Shape.Bound c.args.lexeme) c.in-ChooseFirst.is (tested _ c.if_goes.ensures c.is_colon.ensures c.keeps.ensures)

pub returns-in-WholeBounds : goal.returns-in-WholeBounds
returns-in-WholeBounds c = row (λ w. after_part w Shape.Bound c.args.lexeme) c.in-WholeBounds.is (tested _ c.if_goes-in-WholeBounds.ensures c.is_comma.ensures c.keeps-in-WholeBounds.ensures)

pub returns-in-ImageBounds : goal.returns-in-ImageBounds
returns-in-ImageBounds c = row (λ w. after_part w Shape.Bound c.args.lexeme) c.in-ImageBounds.is (bounded c.args.lexeme.kind Wait.ImageBounds c.after_bound.ensures c.is_right_brace.ensures c.done.ensures)

pub returns-in-FunctionHeadBounds : goal.returns-in-FunctionHeadBounds
returns-in-FunctionHeadBounds c = row (λ w. after_part w Shape.Bound c.args.lexeme) c.in-FunctionHeadBounds.is (bounded c.args.lexeme.kind (Wait.FunctionHeadBounds c.in-FunctionHeadBounds.name) c.after_bound-in-FunctionHeadBounds.ensures c.is_right_bracket.ensures c.keeps-in-FunctionHeadBounds.ensures)
