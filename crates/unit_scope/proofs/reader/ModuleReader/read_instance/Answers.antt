use Rattle.tla_model.specs.Lexemes.{LiesIn}
use Rattle.unit_grammar.specs.UnitNodes.{unit_at}
use Rattle.unit_scope.specs.Steps.{noted}
use Rattle.unit_scope.proofs.Onward.{placed-on}
use Rattle.unit_scope.proofs.UnitParts.{instance-leads, instance-lies, instance-tells, no-instance-leads, no-instance-tells}
use Rattle.unit_scope.proofs.reader.ModuleReader.read_instance.Goals as goal

pub bring-requires-clause-placed : goal.bring-requires-clause-placed
bring-requires-clause-placed c = placed-on c.args.text.now c.args.self.now c.read_tree.new.self (noted c.args.text.now (unit_at c.args.tree.now c.args.unit.now)) c.requires.placed c.in_ok-read_tree.ensures.state

pub bring-requires-clause-lies : goal.bring-requires-clause-lies
bring-requires-clause-lies c = instance-lies (LiesIn c.args.text.now.source) c.args.tree.now c.args.node c.in-Instance.«module» c.requires.node c.in-Instance.ensures c.requires.below

pub returns-in_ok-bring-in-Instance-clause-state : goal.returns-in_ok-bring-in-Instance-clause-state
returns-in_ok-bring-in-Instance-clause-state c =
    instance-leads c.args.text.now (unit_at c.args.tree.now c.args.unit.now) c.args.local c.args.tree.now c.args.node c.requires.node c.in-Instance.«module» c.in-Instance.ensures c.args.self.now c.read_tree.new.self c.bring.new.self
    c.in_ok-read_tree.ensures.state c.in_ok-bring-in-Instance.ensures.state

pub returns-in_ok-bring-in-Instance-clause-findings : goal.returns-in_ok-bring-in-Instance-clause-findings
returns-in_ok-bring-in-Instance-clause-findings c =
    instance-tells c.args.text.now (unit_at c.args.tree.now c.args.unit.now) c.args.local c.args.tree.now c.args.node c.requires.node c.in-Instance.«module» c.in-Instance.ensures c.args.self.now c.read_tree.new.self c.bring.new.self
    c.in_ok-read_tree.ensures.state c.args.findings.now c.read_tree.new.findings c.bring.new.findings c.in_ok-read_tree.ensures.findings c.in_ok-bring-in-Instance.ensures.findings

pub returns-in_default : goal.returns-in_default
returns-in_default c = record {
  state = no-instance-leads c.args.text.now (unit_at c.args.tree.now c.args.unit.now) c.args.local c.args.tree.now c.args.node c.requires.node c.form.result c.form.ensures c.in_default.not-Instance c.args.self.now c.read_tree.new.self
      c.in_ok-read_tree.ensures.state;
  findings = no-instance-tells c.args.text.now (unit_at c.args.tree.now c.args.unit.now) c.args.local c.args.tree.now c.args.node c.requires.node c.form.result c.form.ensures c.in_default.not-Instance c.args.self.now c.read_tree.new.self
      c.args.findings.now c.read_tree.new.findings c.in_ok-read_tree.ensures.findings;
}
