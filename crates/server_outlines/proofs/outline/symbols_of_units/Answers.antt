use Rattle.std.proofs.Common.{◌≤◌, length, subst}
use Rattle.server_outlines.proofs.Leading.{names-finished}
use Rattle.server_outlines.proofs.outline.symbols_of_units.Goals as goal

pub returns : goal.returns
returns c =
    let tree = c.args.tree.now in
    let outline = c.loop-unit.outline in
    let i = c.loop-unit.unit-index in
    names-finished c.args.text.now tree.tree tree.units i outline.begun.items outline.symbols c.into_symbols-2.result _ (subst (λ units. length units ≤ i) c.as_slice-unit-items.ensures c.loop-unit-test.false) c.into_symbols-2.ensures c.loop-unit.invariant.names
