use Rattle.expr_grammar.specs.declared.wait.Shape.{Shape}
use Rattle.expr_grammar.specs.Tables.{after_part}
use Rattle.expr_kinds.proofs.Rows.{row, tested}
use Rattle.expr_parts.proofs.parts.after_arm.Goals as goal

pub returns-in-CaseArms : goal.returns-in-CaseArms
returns-in-CaseArms c = row (λ w. after_part w Shape.Arm c.args.lexeme) c.in-CaseArms.is (tested _ c.if_goes.ensures c.is_always.ensures c.keeps.ensures)
