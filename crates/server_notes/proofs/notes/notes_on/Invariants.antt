use Rattle.std.proofs.Common.{◌≡◌, ◌++◌, drop}
use Rattle.text_cursor.specs.Cursors.{IsCursor}
use Rattle.text_cursor.specs.declared.cursor.Columns.TheVariants.{Utf16}
use Rattle.server_notes.specs.Areas.{notes_on}
use Rattle.server_notes.proofs.notes.notes_on.Given as goal

abbrev pub invariant-loop-fault : goal.invariant-loop-fault
invariant-loop-fault l = record {
  cursor : IsCursor Utf16 l.text l.cursor;
  notes : l.notes ++ notes_on l.text (drop l.fault-index l.faults) ≡ notes_on l.text l.faults;
}
