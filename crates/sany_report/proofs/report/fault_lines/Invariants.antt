use Rattle.std.proofs.Common.{◌≡◌, ◌++◌, drop, string_bytes}
use Rattle.text_cursor.specs.Cursors.{IsCursor}
use Rattle.text_cursor.specs.declared.cursor.Columns.TheVariants.{Characters}
use Rattle.sany_report.specs.Report.{fault_lines}
use Rattle.sany_report.proofs.report.fault_lines.Given as goal

abbrev pub invariant-loop-fault : goal.invariant-loop-fault
invariant-loop-fault l = record {
  cursor : IsCursor Characters l.text l.cursor;
  lines : string_bytes l.lines ++ fault_lines l.text (drop l.fault-index l.faults) ≡ fault_lines l.text l.faults;
}
