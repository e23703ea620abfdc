use Rattle.std.proofs.Common.{refl}
use Rattle.expr_grammar.specs.Tables.{at_mark}
use Rattle.expr_kinds.proofs.Rows.{row, tested}
use Rattle.expr_moves.proofs.moves.at_mark.Goals as goal

pub returns-in-BraceFirst : goal.returns-in-BraceFirst
returns-in-BraceFirst c = row (λ w. at_mark w c.args.lexeme) c.in-BraceFirst.is (tested _ c.if_move.ensures c.is_right_brace.ensures refl)

pub returns-in-AngleFirst : goal.returns-in-AngleFirst
returns-in-AngleFirst c = row (λ w. at_mark w c.args.lexeme) c.in-AngleFirst.is (tested _ c.if_move-in-AngleFirst.ensures c.is_right_angle.ensures refl)

pub returns-in-Argument : goal.returns-in-Argument
returns-in-Argument c = row (λ w. at_mark w c.args.lexeme) c.in-Argument.is (tested _ c.if_move-in-Argument.ensures c.passes.ensures refl)

pub returns-in-ArgumentSymbol : goal.returns-in-ArgumentSymbol
returns-in-ArgumentSymbol c = row (λ w. at_mark w c.args.lexeme) c.in-ArgumentSymbol.is c.at_argument_symbol.ensures

pub returns-in-SegmentName : goal.returns-in-SegmentName
returns-in-SegmentName c = row (λ w. at_mark w c.args.lexeme) c.in-SegmentName.is (tested _ c.if_move-in-SegmentName.ensures c.is_left_paren.ensures refl)

pub returns-in-IdentifierBang : goal.returns-in-IdentifierBang
returns-in-IdentifierBang c = row (λ w. at_mark w c.args.lexeme) c.in-IdentifierBang.is (tested _ c.if_move-in-IdentifierBang.ensures c.is_name.ensures refl)

pub returns-in-SubscriptRead : goal.returns-in-SubscriptRead
returns-in-SubscriptRead c = row (λ w. at_mark w c.args.lexeme) c.in-SubscriptRead.is (tested _ c.if_move-in-SubscriptRead.ensures c.is_bang.ensures refl)

pub returns-in-SubscriptBang : goal.returns-in-SubscriptBang
returns-in-SubscriptBang c = row (λ w. at_mark w c.args.lexeme) c.in-SubscriptBang.is (tested _ c.if_move-in-SubscriptBang.ensures c.is_name-in-SubscriptBang.ensures refl)

pub returns-in-BindingStart : goal.returns-in-BindingStart
returns-in-BindingStart c = row (λ w. at_mark w c.args.lexeme) c.in-BindingStart.is c.at_binding_start.ensures

pub returns-in-BindingComma : goal.returns-in-BindingComma
returns-in-BindingComma c = row (λ w. at_mark w c.args.lexeme) c.in-BindingComma.is (tested _ c.if_move-in-BindingComma.ensures c.is_name-in-BindingComma.ensures refl)

pub returns-in-BindingRead : goal.returns-in-BindingRead
returns-in-BindingRead c = row (λ w. at_mark w c.args.lexeme) c.in-BindingRead.is c.at_binding_read.ensures

pub returns-in-TupleComma : goal.returns-in-TupleComma
returns-in-TupleComma c = row (λ w. at_mark w c.args.lexeme) c.in-TupleComma.is (tested _ c.if_move-in-TupleComma.ensures c.is_name-in-TupleComma.ensures refl)

pub returns-in-TupleRead : goal.returns-in-TupleRead
returns-in-TupleRead c = row (λ w. at_mark w c.args.lexeme) c.in-TupleRead.is c.at_tuple_read.ensures

pub returns-in-TupleClosed : goal.returns-in-TupleClosed
returns-in-TupleClosed c = row (λ w. at_mark w c.args.lexeme) c.in-TupleClosed.is (tested _ c.if_move-in-TupleClosed.ensures c.is_member.ensures refl)

pub returns-in-FieldName : goal.returns-in-FieldName
returns-in-FieldName c = row (λ w. at_mark w c.args.lexeme) c.in-FieldName.is (tested _ c.if_move-in-FieldName.ensures c.is_name-in-FieldName.ensures refl)

pub returns-in-RecordNext : goal.returns-in-RecordNext
returns-in-RecordNext c = row (λ w. at_mark w c.args.lexeme) c.in-RecordNext.is (tested _ c.if_move-in-RecordNext.ensures c.is_name-in-RecordNext.ensures refl)

pub returns-in-RecordNamed : goal.returns-in-RecordNamed
returns-in-RecordNamed c = row (λ w. at_mark w c.args.lexeme) c.in-RecordNamed.is (tested _ c.if_move-in-RecordNamed.ensures c.is_maps_to.ensures refl)

pub returns-in-RecordSetNext : goal.returns-in-RecordSetNext
returns-in-RecordSetNext c = row (λ w. at_mark w c.args.lexeme) c.in-RecordSetNext.is (tested _ c.if_move-in-RecordSetNext.ensures c.is_name-in-RecordSetNext.ensures refl)

pub returns-in-RecordSetNamed : goal.returns-in-RecordSetNamed
returns-in-RecordSetNamed c = row (λ w. at_mark w c.args.lexeme) c.in-RecordSetNamed.is (tested _ c.if_move-in-RecordSetNamed.ensures c.is_colon.ensures refl)

pub returns-in-UpdateBang : goal.returns-in-UpdateBang
returns-in-UpdateBang c = row (λ w. at_mark w c.args.lexeme) c.in-UpdateBang.is (tested _ c.if_move-in-UpdateBang.ensures c.is_bang-in-UpdateBang.ensures refl)

pub returns-in-StepFirst : goal.returns-in-StepFirst
returns-in-StepFirst c = row (λ w. at_mark w c.args.lexeme) c.in-StepFirst.is c.at_step_first.ensures

pub returns-in-StepNext : goal.returns-in-StepNext
returns-in-StepNext c = row (λ w. at_mark w c.args.lexeme) c.in-StepNext.is c.at_step_next.ensures

pub returns-in-StepField : goal.returns-in-StepField
returns-in-StepField c = row (λ w. at_mark w c.args.lexeme) c.in-StepField.is (tested _ c.if_move-in-StepField.ensures c.is_name-in-StepField.ensures refl)

pub returns-in-ArmGuard : goal.returns-in-ArmGuard
returns-in-ArmGuard c = row (λ w. at_mark w c.args.lexeme) c.in-ArmGuard.is (tested _ c.if_move-in-ArmGuard.ensures c.is_other.ensures refl)

pub returns-in-OtherArrow : goal.returns-in-OtherArrow
returns-in-OtherArrow c = row (λ w. at_mark w c.args.lexeme) c.in-OtherArrow.is (tested _ c.if_move-in-OtherArrow.ensures c.is_arrow.ensures refl)

pub returns-in-LetFirst : goal.returns-in-LetFirst
returns-in-LetFirst c = row (λ w. at_mark w c.args.lexeme) c.in-LetFirst.is c.at_let.ensures

pub returns-in-DefinitionName : goal.returns-in-DefinitionName
returns-in-DefinitionName c = row (λ w. at_mark w c.args.lexeme) c.in-DefinitionName.is c.at_definition_name.ensures

pub returns-in-DefinitionDefine : goal.returns-in-DefinitionDefine
returns-in-DefinitionDefine c = row (λ w. at_mark w c.args.lexeme) c.in-DefinitionDefine.is (tested _ c.if_move-in-DefinitionDefine.ensures c.is_define.ensures refl)

pub returns-in-DefinitionBody : goal.returns-in-DefinitionBody
returns-in-DefinitionBody c = row (λ w. at_mark w c.args.lexeme) c.in-DefinitionBody.is (tested _ c.if_move-in-DefinitionBody.ensures c.is_instance.ensures refl)

pub returns-in-PrefixName : goal.returns-in-PrefixName
returns-in-PrefixName c = row (λ w. at_mark w c.args.lexeme) c.in-PrefixName.is (tested _ c.if_move-in-PrefixName.ensures c.is_name-in-PrefixName.ensures refl)

pub returns-in-PrefixDefine : goal.returns-in-PrefixDefine
returns-in-PrefixDefine c = row (λ w. at_mark w c.args.lexeme) c.in-PrefixDefine.is (tested _ c.if_move-in-PrefixDefine.ensures c.is_define-in-PrefixDefine.ensures refl)

pub returns-in-InfixName : goal.returns-in-InfixName
returns-in-InfixName c = row (λ w. at_mark w c.args.lexeme) c.in-InfixName.is (tested _ c.if_move-in-InfixName.ensures c.is_name-in-InfixName.ensures refl)

pub returns-in-InfixDefine : goal.returns-in-InfixDefine
returns-in-InfixDefine c = row (λ w. at_mark w c.args.lexeme) c.in-InfixDefine.is (tested _ c.if_move-in-InfixDefine.ensures c.is_define-in-InfixDefine.ensures refl)

pub returns-in-PostfixDefine : goal.returns-in-PostfixDefine
returns-in-PostfixDefine c = row (λ w. at_mark w c.args.lexeme) c.in-PostfixDefine.is (tested _ c.if_move-in-PostfixDefine.ensures c.is_define-in-PostfixDefine.ensures refl)

pub returns-in-FunctionHeadDefine : goal.returns-in-FunctionHeadDefine
returns-in-FunctionHeadDefine c = row (λ w. at_mark w c.args.lexeme) c.in-FunctionHeadDefine.is (tested _ c.if_move-in-FunctionHeadDefine.ensures c.is_define-in-FunctionHeadDefine.ensures refl)

pub returns-in-InstanceModule : goal.returns-in-InstanceModule
returns-in-InstanceModule c = row (λ w. at_mark w c.args.lexeme) c.in-InstanceModule.is (tested _ c.if_move-in-InstanceModule.ensures c.is_name-in-InstanceModule.ensures refl)

pub returns-in-InstanceNamed : goal.returns-in-InstanceNamed
returns-in-InstanceNamed c = row (λ w. at_mark w c.args.lexeme) c.in-InstanceNamed.is (tested _ c.if_move-in-InstanceNamed.ensures c.is_with.ensures refl)

pub returns-in-ReplacementStart : goal.returns-in-ReplacementStart
returns-in-ReplacementStart c = row (λ w. at_mark w c.args.lexeme) c.in-ReplacementStart.is (tested _ c.if_move-in-ReplacementStart.ensures c.is_replaceable.ensures refl)

pub returns-in-ReplacementArrow : goal.returns-in-ReplacementArrow
returns-in-ReplacementArrow c = row (λ w. at_mark w c.args.lexeme) c.in-ReplacementArrow.is (tested _ c.if_move-in-ReplacementArrow.ensures c.is_left_arrow.ensures refl)

pub returns-in-ReplacementRight : goal.returns-in-ReplacementRight
returns-in-ReplacementRight c = row (λ w. at_mark w c.args.lexeme) c.in-ReplacementRight.is (tested _ c.if_move-in-ReplacementRight.ensures c.is_given.ensures refl)

pub returns-in-ParameterStart : goal.returns-in-ParameterStart
returns-in-ParameterStart c = row (λ w. at_mark w c.args.lexeme) c.in-ParameterStart.is c.at_parameter_start.ensures

pub returns-in-ParameterName : goal.returns-in-ParameterName
returns-in-ParameterName c = row (λ w. at_mark w c.args.lexeme) c.in-ParameterName.is (tested _ c.if_move-in-ParameterName.ensures c.is_left_paren-in-ParameterName.ensures refl)

pub returns-in-Places : goal.returns-in-Places
returns-in-Places c = row (λ w. at_mark w c.args.lexeme) c.in-Places.is (tested _ c.if_move-in-Places.ensures c.is_underscore.ensures refl)

pub returns-in-PlacesRead : goal.returns-in-PlacesRead
returns-in-PlacesRead c = row (λ w. at_mark w c.args.lexeme) c.in-PlacesRead.is c.at_places_read.ensures

pub returns-in-PrefixPlace : goal.returns-in-PrefixPlace
returns-in-PrefixPlace c = row (λ w. at_mark w c.args.lexeme) c.in-PrefixPlace.is (tested _ c.if_move-in-PrefixPlace.ensures c.is_underscore-in-PrefixPlace.ensures refl)

pub returns-in-SymbolPlace : goal.returns-in-SymbolPlace
returns-in-SymbolPlace c = row (λ w. at_mark w c.args.lexeme) c.in-SymbolPlace.is c.at_symbol_place.ensures

pub returns-in-InfixPlace : goal.returns-in-InfixPlace
returns-in-InfixPlace c = row (λ w. at_mark w c.args.lexeme) c.in-InfixPlace.is (tested _ c.if_move-in-InfixPlace.ensures c.is_underscore-in-InfixPlace.ensures refl)
