use Rattle.std.proofs.Common.{subst, take}
use Rattle.std.specs.Prelude.{map}
use Rattle.std.proofs.lemmas.List.{take_all}
use Rattle.unit_grammar.specs.UnitNodes.{unit_at}
use Rattle.unit_flattener.specs.Walked.{WalksAll}
use Rattle.unit_flattener.proofs.Onward.{taken-more, walks-here, walks-more, walks-none}
use Rattle.unit_flattener.proofs.flattener.UnitFlattener.walk_all.Goals as goal

pub loop-unit-init : goal.loop-unit-init
loop-unit-init c = walks-none c.args.written.now c.args.self.now

pub walk-requires-clause-at : goal.walk-requires-clause-at
walk-requires-clause-at c =
    walks-here c.args.written.now (unit_at c.args.written.now.tree.now) c.args.units.now c.loop-unit.unit-index c.unit-item.result c.loop-unit-test.true c.unit-item.is c.args.self.now c.loop-unit.self c.loop-unit.invariant c.requires.before

pub loop-unit-preserved : goal.loop-unit-preserved
loop-unit-preserved c =
    let written = c.args.written.now in let unit = unit_at written.tree.now in
    subst (λ units. WalksAll written units c.args.self.now c.walk.new.self)
    (taken-more unit c.args.units.now c.loop-unit.unit-index c.unit-item.result c.loop-unit-test.true c.unit-item.is)
    (walks-more written (map unit (take c.loop-unit.unit-index c.args.units.now)) (unit c.unit-item.result) c.args.self.now c.loop-unit.self c.walk.new.self c.loop-unit.invariant c.in_ok-walk.ensures)

pub returns : goal.returns
returns c =
    subst (λ units. WalksAll c.args.written.now (map (unit_at c.args.written.now.tree.now) units) c.args.self.now c.loop-unit.self)
    (take_all c.loop-unit.unit-index c.args.units.now c.loop-unit-test.false) c.loop-unit.invariant
