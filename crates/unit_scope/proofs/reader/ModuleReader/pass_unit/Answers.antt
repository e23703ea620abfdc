use Rattle.unit_scope.proofs.UnitParts.{assumption-passed, function-passed, instance-passed, module-passed, on-one, operator-passed, theorem-passed}
use Rattle.unit_scope.proofs.reader.ModuleReader.pass_unit.Goals as goal

pub returns-in-OperatorDefinition : goal.returns-in-OperatorDefinition
returns-in-OperatorDefinition c =
    let own = c.in-OperatorDefinition in
    let passed = c.pass_definition in
    on-one passed.result _ _ (operator-passed c.args.text.now c.args.tree.now c.args.self.now passed.new.self c.args.unit.now own.local c.is_some.result own.node c.is_some.ensures own.is) passed.ensures

pub returns-in-FunctionDefinition : goal.returns-in-FunctionDefinition
returns-in-FunctionDefinition c =
    let own = c.in-FunctionDefinition in
    let passed = c.pass_definition-in-FunctionDefinition in
    on-one passed.result _ _ (function-passed c.args.text.now c.args.tree.now c.args.self.now passed.new.self c.args.unit.now own.local c.is_some-in-FunctionDefinition.result own.node c.is_some-in-FunctionDefinition.ensures own.is) passed.ensures

pub returns-in-ModuleDefinition : goal.returns-in-ModuleDefinition
returns-in-ModuleDefinition c =
    let own = c.in-ModuleDefinition in
    let passed = c.pass_definition-in-ModuleDefinition in
    on-one passed.result _ _ (module-passed c.args.text.now c.args.tree.now c.args.self.now passed.new.self c.args.unit.now own.local c.is_some-in-ModuleDefinition.result own.node c.is_some-in-ModuleDefinition.ensures own.is) passed.ensures

pub returns-in-Instance : goal.returns-in-Instance
returns-in-Instance c =
    let own = c.in-Instance in
    let passed = c.pass_instance in
    on-one passed.result _ _ (instance-passed c.args.text.now c.args.tree.now c.args.self.now passed.new.self c.args.unit.now own.local c.is_some-in-Instance.result own.node c.is_some-in-Instance.ensures own.is) passed.ensures

pub returns-in-Assumption : goal.returns-in-Assumption
returns-in-Assumption c =
    let own = c.in-Assumption in
    let passed = c.note_named in
    on-one passed.result _ _ (assumption-passed c.args.text.now c.args.tree.now c.args.self.now passed.new.self c.args.unit.now own.word own.name own.node own.is) passed.ensures

pub returns-in-Theorem : goal.returns-in-Theorem
returns-in-Theorem c =
    let own = c.in-Theorem in
    let passed = c.note_named-in-Theorem in
    on-one passed.result _ _ (theorem-passed c.args.text.now c.args.tree.now c.args.self.now passed.new.self c.args.unit.now own.word own.name own.node own.is) passed.ensures
