use Rattle.std.proofs.Common.{◌∙◌, ap, map, reverse}
use Rattle.unit_grammar.specs.UnitNodes.{unit_at}
use Rattle.unit_scope.specs.Readings.{files_over}
use Rattle.unit_flattener.specs.Ahead.{Taken, taken_by}
use Rattle.unit_flattener.proofs.Ahead.{taken-ahead}
use Rattle.unit_flattener.proofs.own.own_symbols.Goals as goal

pub returns : goal.returns
returns c = λ over state at.
    let units = map (unit_at c.args.tree.now) c.args.units.now in
    c.in_ok-own.ensures c.args.tree.now
    ∙ ap (λ ends. (taken_by units (reverse ends)).owned.begun) (c.in_ok-ends.ensures over state at)
    ∙ ap (λ (t : Taken). t.owned.begun) (taken-ahead c.args.text.now (files_over over) over.words state units)
