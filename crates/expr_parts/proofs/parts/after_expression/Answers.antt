use Rattle.tla_tree.specs.declared.form.Form.{Form}
use Rattle.expr_grammar.specs.declared.wait.Wait.{Wait}
use Rattle.expr_grammar.specs.Tables.{after_expression}
use Rattle.expr_kinds.proofs.Rows.{row, tested, closed}
use Rattle.expr_parts.proofs.parts.after_expression.Goals as goal

pub returns-in-ParenthesesBody : goal.returns-in-ParenthesesBody
returns-in-ParenthesesBody c = row (λ w. after_expression w c.args.shape c.args.lexeme) c.in-ParenthesesBody.is (tested _ c.if_goes.ensures c.is_right_paren.ensures c.done.ensures)

pub returns-in-Argument : goal.returns-in-Argument
returns-in-Argument c = row (λ w. after_expression w c.args.shape c.args.lexeme) c.in-Argument.is (closed c.args.lexeme.kind (Wait.Argument c.in-Argument.name) (Form.Segment c.in-Argument.name) c.parted.ensures c.is_right_paren-in-Argument.ensures)

pub returns-in-BraceFirst : goal.returns-in-BraceFirst
returns-in-BraceFirst c = row (λ w. after_expression w c.args.shape c.args.lexeme) c.in-BraceFirst.is c.in_brace.ensures

pub returns-in-BraceNext : goal.returns-in-BraceNext
returns-in-BraceNext c = row (λ w. after_expression w c.args.shape c.args.lexeme) c.in-BraceNext.is (closed c.args.lexeme.kind Wait.BraceNext Form.SetEnumeration c.parted-in-BraceNext.ensures c.is_right_brace.ensures)

pub returns-in-FilterBody : goal.returns-in-FilterBody
returns-in-FilterBody c = row (λ w. after_expression w c.args.shape c.args.lexeme) c.in-FilterBody.is (tested _ c.if_goes-in-FilterBody.ensures c.is_right_brace-in-FilterBody.ensures c.done-in-FilterBody.ensures)

pub returns-in-ApplicationArgument : goal.returns-in-ApplicationArgument
returns-in-ApplicationArgument c = row (λ w. after_expression w c.args.shape c.args.lexeme) c.in-ApplicationArgument.is (closed c.args.lexeme.kind Wait.ApplicationArgument Form.Application c.parted-in-ApplicationArgument.ensures c.is_right_bracket.ensures)

pub returns-in-SquareFirst : goal.returns-in-SquareFirst
returns-in-SquareFirst c = row (λ w. after_expression w c.args.shape c.args.lexeme) c.in-SquareFirst.is c.in_square.ensures

pub returns-in-FunctionTo : goal.returns-in-FunctionTo
returns-in-FunctionTo c = row (λ w. after_expression w c.args.shape c.args.lexeme) c.in-FunctionTo.is (tested _ c.if_goes-in-FunctionTo.ensures c.is_right_bracket-in-FunctionTo.ensures c.done-in-FunctionTo.ensures)

pub returns-in-FunctionBody : goal.returns-in-FunctionBody
returns-in-FunctionBody c = row (λ w. after_expression w c.args.shape c.args.lexeme) c.in-FunctionBody.is (tested _ c.if_goes-in-FunctionBody.ensures c.is_right_bracket-in-FunctionBody.ensures c.done-in-FunctionBody.ensures)

pub returns-in-RecordValue : goal.returns-in-RecordValue
returns-in-RecordValue c = row (λ w. after_expression w c.args.shape c.args.lexeme) c.in-RecordValue.is c.after_value.ensures

pub returns-in-RecordSetValue : goal.returns-in-RecordSetValue
returns-in-RecordSetValue c = row (λ w. after_expression w c.args.shape c.args.lexeme) c.in-RecordSetValue.is c.after_value-in-RecordSetValue.ensures

pub returns-in-IndexPart : goal.returns-in-IndexPart
returns-in-IndexPart c = row (λ w. after_expression w c.args.shape c.args.lexeme) c.in-IndexPart.is (closed c.args.lexeme.kind Wait.IndexPart Form.IndexStep c.parted-in-IndexPart.ensures c.is_right_bracket-in-IndexPart.ensures)

pub returns-in-AngleFirst : goal.returns-in-AngleFirst
returns-in-AngleFirst c = row (λ w. after_expression w c.args.shape c.args.lexeme) c.in-AngleFirst.is c.in_angle.ensures

pub returns-in-AngleNext : goal.returns-in-AngleNext
returns-in-AngleNext c = row (λ w. after_expression w c.args.shape c.args.lexeme) c.in-AngleNext.is (closed c.args.lexeme.kind Wait.AngleNext Form.Tuple c.parted-in-AngleNext.ensures c.is_right_angle.ensures)

pub returns-in-FairSubscript : goal.returns-in-FairSubscript
returns-in-FairSubscript c = row (λ w. after_expression w c.args.shape c.args.lexeme) c.in-FairSubscript.is (tested _ c.if_goes-in-FairSubscript.ensures c.is_left_paren.ensures c.keeps.ensures)

pub returns-in-FairAction : goal.returns-in-FairAction
returns-in-FairAction c = row (λ w. after_expression w c.args.shape c.args.lexeme) c.in-FairAction.is (tested _ c.if_goes-in-FairAction.ensures c.is_right_paren-in-FairAction.ensures c.done-in-FairAction.ensures)

pub returns-in-IfTest : goal.returns-in-IfTest
returns-in-IfTest c = row (λ w. after_expression w c.args.shape c.args.lexeme) c.in-IfTest.is (tested _ c.if_goes-in-IfTest.ensures c.is_then.ensures c.keeps-in-IfTest.ensures)

pub returns-in-IfThen : goal.returns-in-IfThen
returns-in-IfThen c = row (λ w. after_expression w c.args.shape c.args.lexeme) c.in-IfThen.is (tested _ c.if_goes-in-IfThen.ensures c.is_else.ensures c.keeps-in-IfThen.ensures)

pub returns-in-ArmGuard : goal.returns-in-ArmGuard
returns-in-ArmGuard c = row (λ w. after_expression w c.args.shape c.args.lexeme) c.in-ArmGuard.is (tested _ c.if_goes-in-ArmGuard.ensures c.is_arrow.ensures c.keeps-in-ArmGuard.ensures)
