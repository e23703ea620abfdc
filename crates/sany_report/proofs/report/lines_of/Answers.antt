use Rattle.std.proofs.Common.{subst, sym}
use Rattle.fact_lines.specs.Reports.{IsReportPlaced}
use Rattle.sany_report.proofs.report.lines_of.Goals as goal

pub module_lines-requires : goal.module_lines-requires
module_lines-requires c =
    subst IsReportPlaced (sym c.report-item.is) (c.requires c.loop-report.report-index c.report-item.result c.loop-report-test.true)
