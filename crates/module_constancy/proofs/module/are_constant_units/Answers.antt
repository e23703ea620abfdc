use Rattle.std.proofs.Common.{◌+◌, ap, drop, subst}
use Rattle.std.specs.Prelude.{map}
use Rattle.std.proofs.lemmas.List.{drop_all}
use Rattle.list_laws.proofs.Lists.{drop-from}
use Rattle.unit_grammar.specs.UnitNodes.{unit_at}
use Rattle.module_constancy.proofs.Modules.{IsReadTo, read-beyond, read-done, read-on}
use Rattle.module_constancy.proofs.module.are_constant_units.Goals as goal

pub returns-then-not-keeps_constant : goal.returns-then-not-keeps_constant
returns-then-not-keeps_constant g c =
    let constant = g.F.Files.constant c.args.files.now in
    let text = c.args.text.now in
    let at = unit_at c.args.tree.now in
    let units = c.args.units.now in
    let i = c.loop-unit.unit-index in
    let unit = c.unit-item.result in
    read-beyond constant text c.args.place.now c.loop-unit.place (map at units) (at unit) (map at (drop (i + 1) units))
    (subst (λ left. IsReadTo text c.args.place.now c.loop-unit.place (map at units) left constant) (ap (map at) (drop-from units i unit c.loop-unit-test.true c.unit-item.is)) c.loop-unit.invariant)
    c.keeps_constant.result c.keeps_constant.ensures c.if-not-keeps_constant.true

pub loop-unit-preserved : goal.loop-unit-preserved
loop-unit-preserved g c =
    let constant = g.F.Files.constant c.args.files.now in
    let text = c.args.text.now in
    let at = unit_at c.args.tree.now in
    let units = c.args.units.now in
    let i = c.loop-unit.unit-index in
    let unit = c.unit-item.result in
    read-on constant text c.args.place.now c.loop-unit.place (map at units) (at unit) (map at (drop (i + 1) units))
    (subst (λ left. IsReadTo text c.args.place.now c.loop-unit.place (map at units) left constant) (ap (map at) (drop-from units i unit c.loop-unit-test.true c.unit-item.is)) c.loop-unit.invariant)
    c.pass.new.self c.keeps_constant.result c.keeps_constant.ensures c.if-not-keeps_constant.false c.in_ok-pass.ensures

pub returns : goal.returns
returns g c =
    let constant = g.F.Files.constant c.args.files.now in
    let text = c.args.text.now in
    let at = unit_at c.args.tree.now in
    let units = c.args.units.now in
    read-done constant text c.args.place.now c.loop-unit.place (map at units)
    (subst (λ left. IsReadTo text c.args.place.now c.loop-unit.place (map at units) left constant) (ap (map at) (drop_all c.loop-unit.unit-index units c.loop-unit-test.false)) c.loop-unit.invariant)
