use Rattle.std.proofs.Common.{◌≡◌, ◌++◌, map}
use Rattle.family_levels.specs.Findings.{report_by}
use Rattle.family_levels.proofs.shown.reports_of.Given as goal

abbrev pub invariant-loop-verdict : goal.invariant-loop-verdict
invariant-loop-verdict l = l.reports ++ map (report_by l.facts l.places l.found) l.verdict-iterator.rest.items ≡ map (report_by l.facts l.places l.found) l.fn.verdicts
