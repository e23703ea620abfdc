use Rattle.std.proofs.Common.{arith}
use Rattle.tla_text.proofs.ColumnLemmas.{piece-wide}
use Rattle.tla_text.specs.declared.Measure.TheVariants.{Alignment}
use Rattle.tla_text.proofs.Text.align_place.Goals as goal

pub column_after-column-requires : goal.column_after-column-requires
column_after-column-requires c = omega (arith, piece-wide Alignment c.line_before.result.now c.line_before.utf8, c.line_before.ensures.within, c.requires.low)
