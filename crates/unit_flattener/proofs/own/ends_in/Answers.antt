use Rattle.std.proofs.Common.{[], map, subst, sym, take}
use Rattle.std.proofs.lemmas.List.{take_all}
use Rattle.unit_grammar.specs.UnitNodes.{unit_at}
use Rattle.unit_scope.specs.Steps.{Leads, behind_units}
use Rattle.unit_flattener.specs.Ahead.{AppendsEnds}
use Rattle.unit_flattener.proofs.Ending.{ends-more, reads-more, took-one}
use Rattle.unit_flattener.proofs.own.ends_in.Goals as goal

pub loop-unit-preserved : goal.loop-unit-preserved
loop-unit-preserved c =
    let text = c.args.text.now in
    let first = c.args.reader.now in
    let last = c.push_unit.new.reader in
    let nodes = c.args.tree.now in
    let taken = map (unit_at nodes) (take c.loop-unit.unit-index c.args.units.now) in
    let unit = unit_at nodes c.unit-item.result in
    let known = c.loop-unit.invariant in
    let passed = c.in_ok-push_unit.ensures in
    let one = sym (took-one nodes c.args.units.now c.loop-unit.unit-index c.unit-item.result c.loop-unit-test.true c.unit-item.is) in
    record {
      somewhere = passed.somewhere;
      read = subst (λ units. Leads text (behind_units text units) first last) one (reads-more text first c.loop-unit.reader last taken unit known.read passed.state);
      ends = subst (λ units. AppendsEnds text first units [] c.push_unit.new.ends.items) one
          (ends-more text first c.loop-unit.reader last taken unit known.read c.loop-unit.ends.items c.push_unit.new.ends.items known.ends passed.ends);
    }

pub returns : goal.returns
returns c =
    subst (λ units. AppendsEnds c.args.text.now c.args.reader.now (map (unit_at c.args.tree.now) units) [] c.loop-unit.ends.items)
    (take_all c.loop-unit.unit-index c.args.units.now c.loop-unit-test.false) c.loop-unit.invariant.ends
