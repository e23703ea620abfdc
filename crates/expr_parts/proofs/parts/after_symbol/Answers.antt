use Rattle.tla_tree.specs.declared.form.Form.{Form}
use Rattle.expr_grammar.specs.declared.wait.Wait.{Wait}
use Rattle.expr_grammar.specs.declared.wait.Shape.{Shape}
use Rattle.expr_grammar.specs.Tables.{after_part}
use Rattle.expr_kinds.proofs.Rows.{row, closed}
use Rattle.expr_parts.proofs.parts.after_symbol.Goals as goal

pub returns-in-Argument : goal.returns-in-Argument
returns-in-Argument c = row (λ w. after_part w Shape.Symbol c.args.lexeme) c.in-Argument.is (closed c.args.lexeme.kind (Wait.Argument c.in-Argument.name) (Form.Segment c.in-Argument.name) c.parted.ensures c.is_right_paren.ensures)
