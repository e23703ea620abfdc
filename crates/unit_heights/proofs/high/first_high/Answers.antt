use Rattle.std.proofs.Common.{arith}
use Rattle.unit_heights.proofs.HighNodes.{index-within, index-high}
use Rattle.unit_heights.proofs.high.first_high.Goals as goal

pub offset_bounds-lexemes-before_high : goal.offset_bounds-lexemes-before_high
offset_bounds-lexemes-before_high c =
    omega
    (arith, c.requires.few, index-within c.args.tree.now c.args.lexemes.now c.as_slice.result.now c.before_high.result c.requires.read c.requires.further c.requires.high c.as_slice.ensures c.before_high.ensures)

pub bounds-lexemes-before_high : goal.bounds-lexemes-before_high
bounds-lexemes-before_high c =
    index-within c.args.tree.now c.args.lexemes.now c.as_slice.result.now c.before_high.result c.requires.read c.requires.further c.requires.high c.as_slice.ensures c.before_high.ensures

pub returns : goal.returns
returns c =
    index-high c.args.tree.now c.args.lexemes.now c.as_slice.result.now c.before_high.result _ c.requires.read c.requires.further c.requires.high c.as_slice.ensures c.before_high.ensures
