use Rattle.std.proofs.Common.{arith}
use Rattle.tla_text.proofs.ColumnLemmas.{characters-short}
use Rattle.tla_text.proofs.Text.line_col.Goals as goal

pub column_after-requires : goal.column_after-requires
column_after-requires c = omega (arith, characters-short c.line_before.result.now c.line_before.utf8, c.line_before.ensures.within, c.ranges.offset.fits)
