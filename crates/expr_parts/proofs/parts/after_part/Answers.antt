use Rattle.expr_grammar.specs.Tables.{after_part}
use Rattle.expr_kinds.proofs.Rows.{row}
use Rattle.expr_parts.proofs.parts.after_part.Goals as goal

pub returns-in-Names : goal.returns-in-Names
returns-in-Names c = row (λ shape. after_part c.args.wait shape c.args.lexeme) c.in-Names.is c.after_names.ensures

pub returns-in-Bound : goal.returns-in-Bound
returns-in-Bound c = row (λ shape. after_part c.args.wait shape c.args.lexeme) c.in-Bound.is c.after_bounds.ensures

pub returns-in-Helper : goal.returns-in-Helper
returns-in-Helper c = row (λ shape. after_part c.args.wait shape c.args.lexeme) c.in-Helper.is c.after_helper.ensures

pub returns-in-Symbol : goal.returns-in-Symbol
returns-in-Symbol c = row (λ shape. after_part c.args.wait shape c.args.lexeme) c.in-Symbol.is c.after_symbol.ensures

pub returns-in-Arm : goal.returns-in-Arm
returns-in-Arm c = row (λ shape. after_part c.args.wait shape c.args.lexeme) c.in-Arm.is c.after_arm.ensures
