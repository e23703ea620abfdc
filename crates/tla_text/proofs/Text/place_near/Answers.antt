use Rattle.std.proofs.Common.{arith}
use Rattle.tla_text.proofs.ColumnLemmas.{piece-wide}
use Rattle.tla_text.proofs.Text.place_near.Goals as goal

pub column_after-column-requires : goal.column_after-column-requires
column_after-column-requires c = omega (arith, piece-wide c.args.measure c.line_before.result.now c.line_before.utf8, c.line_before.ensures.within, c.requires.low)
