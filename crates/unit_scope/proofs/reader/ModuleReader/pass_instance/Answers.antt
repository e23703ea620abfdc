use Rattle.tla_model.specs.Lexemes.{LiesIn}
use Rattle.unit_grammar.specs.UnitNodes.{unit_at}
use Rattle.unit_scope.specs.Steps.{noted}
use Rattle.unit_scope.proofs.Onward.{placed-on}
use Rattle.unit_scope.proofs.UnitParts.{instance-leads, instance-lies, no-instance-leads}
use Rattle.unit_scope.proofs.reader.ModuleReader.pass_instance.Goals as goal

pub pass_brought-requires-clause-placed : goal.pass_brought-requires-clause-placed
pass_brought-requires-clause-placed c = placed-on c.args.text.now c.args.self.now c.note_named.new.self (noted c.args.text.now (unit_at c.args.tree.now c.args.unit.now)) c.requires.placed c.in_ok-note_named.ensures

pub pass_brought-requires-clause-lies : goal.pass_brought-requires-clause-lies
pass_brought-requires-clause-lies c = instance-lies (LiesIn c.args.text.now.source) c.args.tree.now c.args.node c.in-Instance.«module» c.requires.node c.in-Instance.ensures c.requires.below

pub returns-in_ok-pass_brought-in-Instance : goal.returns-in_ok-pass_brought-in-Instance
returns-in_ok-pass_brought-in-Instance c =
    instance-leads c.args.text.now (unit_at c.args.tree.now c.args.unit.now) c.args.local c.args.tree.now c.args.node c.requires.node c.in-Instance.«module» c.in-Instance.ensures c.args.self.now c.note_named.new.self c.pass_brought.new.self
    c.in_ok-note_named.ensures c.in_ok-pass_brought-in-Instance.ensures

pub returns-in_default : goal.returns-in_default
returns-in_default c =
    no-instance-leads c.args.text.now (unit_at c.args.tree.now c.args.unit.now) c.args.local c.args.tree.now c.args.node c.requires.node c.form.result c.form.ensures c.in_default.not-Instance c.args.self.now c.note_named.new.self
    c.in_ok-note_named.ensures
