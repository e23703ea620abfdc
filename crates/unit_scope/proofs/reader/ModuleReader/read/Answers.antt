use Rattle.std.proofs.Common.{sym}
use Rattle.unit_scope.proofs.UnitParts.{assumption-read, function-read, instance-read, module-read, on-both, operator-read, theorem-read}
use Rattle.unit_scope.proofs.reader.ModuleReader.read.Goals as goal

pub returns-in-OperatorDefinition : goal.returns-in-OperatorDefinition
returns-in-OperatorDefinition c =
    let own = c.in-OperatorDefinition in
    let read = c.read_definition in
    on-both read.result _ _ _ (operator-read c.args.text.now c.args.tree.now c.args.self.now read.new.self c.args.findings.now read.new.findings c.args.unit.now own.local c.is_some.result own.node c.is_some.ensures own.is) read.ensures.state read.ensures.findings

pub returns-in-FunctionDefinition : goal.returns-in-FunctionDefinition
returns-in-FunctionDefinition c =
    let own = c.in-FunctionDefinition in
    let read = c.read_definition-in-FunctionDefinition in
    on-both read.result _ _ _ (function-read c.args.text.now c.args.tree.now c.args.self.now read.new.self c.args.findings.now read.new.findings c.args.unit.now own.local c.is_some-in-FunctionDefinition.result own.node c.is_some-in-FunctionDefinition.ensures own.is) read.ensures.state read.ensures.findings

pub returns-in-ModuleDefinition : goal.returns-in-ModuleDefinition
returns-in-ModuleDefinition c =
    let own = c.in-ModuleDefinition in
    let read = c.read_definition-in-ModuleDefinition in
    on-both read.result _ _ _ (module-read c.args.text.now c.args.tree.now c.args.self.now read.new.self c.args.findings.now read.new.findings c.args.unit.now own.local c.is_some-in-ModuleDefinition.result own.node c.is_some-in-ModuleDefinition.ensures own.is) read.ensures.state read.ensures.findings

pub returns-in-Instance : goal.returns-in-Instance
returns-in-Instance c =
    let own = c.in-Instance in
    let read = c.read_instance in
    on-both read.result _ _ _ (instance-read c.args.text.now c.args.tree.now c.args.self.now read.new.self c.args.findings.now read.new.findings c.args.unit.now own.local c.is_some-in-Instance.result own.node c.is_some-in-Instance.ensures own.is) read.ensures.state read.ensures.findings

pub returns-in-Assumption : goal.returns-in-Assumption
returns-in-Assumption c =
    let own = c.in-Assumption in
    let read = c.read_tree in
    on-both read.result _ _ _ (assumption-read c.args.text.now c.args.tree.now c.args.self.now read.new.self c.args.findings.now read.new.findings c.args.unit.now own.word own.name own.node own.is) read.ensures.state read.ensures.findings

pub returns-in-Theorem : goal.returns-in-Theorem
returns-in-Theorem c =
    let own = c.in-Theorem in
    let read = c.read_tree-in-Theorem in
    on-both read.result _ _ _ (theorem-read c.args.text.now c.args.tree.now c.args.self.now read.new.self c.args.findings.now read.new.findings c.args.unit.now own.word own.name own.node own.is) read.ensures.state read.ensures.findings

pub returns-in-ModuleBegin : goal.returns-in-ModuleBegin
returns-in-ModuleBegin c =
    let own = c.in-ModuleBegin in
    let read = c.read_begin in
    rw (own.is, sym c.as_slice-in-ModuleBegin.ensures)
    (on-both read.result _ _ _ (λ leads tells. record { state = leads own.dashes; findings = tells own.dashes }) read.ensures.state read.ensures.findings)
