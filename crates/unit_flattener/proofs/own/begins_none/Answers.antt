use Rattle.std.proofs.Common.{◌≡◌, ◌∙◌, ap, false, subst, sym}
use Rattle.std.specs.List.{All}
use Rattle.std.proofs.lemmas.List.{take_all}
use Rattle.std.proofs.lemmas.List.Elements.{All-more}
use Rattle.unit_flattener.specs.Ahead.{begins}
use Rattle.unit_flattener.proofs.own.begins_none.Goals as goal

pub loop-unit-preserved : goal.loop-unit-preserved
loop-unit-preserved c = All-more (λ x. begins x ≡ false) c.args.units.now c.loop-unit.unit-index _ c.loop-unit-test.true c.loop-unit.invariant (ap begins (sym c.unit-item.is) ∙ sym c.begins.ensures ∙ c.if-begins.false)

pub returns : goal.returns
returns c = subst (All (λ x. begins x ≡ false)) (take_all c.loop-unit.unit-index c.args.units.now c.loop-unit-test.false) c.loop-unit.invariant
