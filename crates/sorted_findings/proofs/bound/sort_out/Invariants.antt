use Rattle.sorted_findings.specs.Sorting.{IsSorting}
use Rattle.sorted_findings.proofs.bound.sort_out.Given as goal

abbrev pub invariant-loop-finding : goal.invariant-loop-finding
invariant-loop-finding l = IsSorting l.finding-iterator.rest.items l.fn.findings l.initial.bound l.bound
