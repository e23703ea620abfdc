use Rattle.std.proofs.Common.{◌≡◌, ◌++◌, drop, string_bytes}
use Rattle.text_cursor.specs.Cursors.{IsCursor}
use Rattle.text_cursor.specs.declared.cursor.Columns.TheVariants.{Characters}
use Rattle.sany_report.specs.Report.{fact_lines}
use Rattle.sany_report.proofs.report.fact_lines.Given as goal

abbrev pub invariant-loop-fact : goal.invariant-loop-fact
invariant-loop-fact l = record {
  cursor : IsCursor Characters l.text l.cursor;
  lines : string_bytes l.lines ++ fact_lines l.text (drop l.fact-index l.facts) ≡ fact_lines l.text l.facts;
}
