use Rattle.std.proofs.Common.{◌∙◌, subst}
use Rattle.sorted_findings.specs.Sorting.{IsSorted}
use Rattle.sorted_findings.proofs.Sorting.{sorted-once}
use Rattle.written_names.specs.Names.{AreNamesOf}
use Rattle.symbol_scope.proofs.resolution.bind_uses.Goals as goal

pub returns-clause-sorted : goal.returns-clause-sorted
returns-clause-sorted c =
    let new = c.sort_out.new.bound in
    let faults = c.order.new.faults in
    subst (λ found. IsSorted found (record new { faults = faults })) c.in_ok-findings.ensures.findings
    (sorted-once c.in_ok-findings.findings c.args.bound.now new faults c.requires.nothing c.in_ok-sort_out.ensures c.order.ensures)

pub returns-clause-names : goal.returns-clause-names
returns-clause-names c = subst (λ found. AreNamesOf found c.in_ok-names.names) (c.as_slice.ensures ∙ c.in_ok-findings.ensures.findings) c.in_ok-names.ensures
