use Rattle.std.proofs.Common.{◌+◌, subst, take}
use Rattle.std.proofs.lemmas.List.{take_all}
use Rattle.std.specs.Prelude.{map}
use Rattle.unit_grammar.specs.UnitNodes.{unit_at}
use Rattle.unit_scope.specs.Steps.{Leads, Tells, behind_units, found_along}
use Rattle.unit_scope.proofs.Onward.{leads-more, somewhere-on, take-mapped, tells-more}
use Rattle.unit_scope.proofs.reader.ModuleReader.read_all.Goals as goal

pub read-requires-clause-somewhere : goal.read-requires-clause-somewhere
read-requires-clause-somewhere c =
    somewhere-on c.args.text.now c.args.self.now c.loop-unit.self (map (unit_at c.args.tree.now) (take c.loop-unit.unit-index c.args.units.now)) c.requires.somewhere c.loop-unit.invariant.state

pub loop-unit-preserved : goal.loop-unit-preserved
loop-unit-preserved c =
    let text = c.args.text.now in
    let at = unit_at c.args.tree.now in
    let i = c.loop-unit.unit-index in
    let units = map at (take i c.args.units.now) in
    let more = map at (take (i + 1) c.args.units.now) in
    let is = take-mapped at c.args.units.now i c.unit-item.result c.loop-unit-test.true c.unit-item.is in
    record {
      state = leads-more text c.args.self.now c.loop-unit.self c.read.new.self units more (at c.unit-item.result) is c.loop-unit.invariant.state c.args.findings.now c.loop-unit.findings c.read.new.findings c.in_ok-read.ensures;
      findings = tells-more text c.args.self.now c.loop-unit.self c.read.new.self units more (at c.unit-item.result) is c.loop-unit.invariant.state c.args.findings.now c.loop-unit.findings c.read.new.findings c.in_ok-read.ensures c.loop-unit.invariant.findings;
    }

pub returns-clause-state : goal.returns-clause-state
returns-clause-state c =
    subst (λ units. Leads c.args.text.now (behind_units c.args.text.now (map (unit_at c.args.tree.now) units)) c.args.self.now c.loop-unit.self) (take_all c.loop-unit.unit-index c.args.units.now c.loop-unit-test.false) c.loop-unit.invariant.state

pub returns-clause-findings : goal.returns-clause-findings
returns-clause-findings c =
    subst (λ units. Tells c.args.text.now (found_along c.args.text.now (map (unit_at c.args.tree.now) units)) c.args.self.now c.args.findings.now c.loop-unit.findings) (take_all c.loop-unit.unit-index c.args.units.now c.loop-unit-test.false)
    c.loop-unit.invariant.findings
