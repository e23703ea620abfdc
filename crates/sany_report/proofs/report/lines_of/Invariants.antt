use Rattle.std.proofs.Common.{◌≡◌, ◌++◌, drop, string_bytes}
use Rattle.sany_report.specs.Report.{lines_of}
use Rattle.sany_report.proofs.report.lines_of.Given as goal

abbrev pub invariant-loop-report : goal.invariant-loop-report
invariant-loop-report l = string_bytes l.lines ++ lines_of (drop l.report-index l.reports) ≡ lines_of l.reports
