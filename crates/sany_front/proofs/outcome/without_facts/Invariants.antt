use Rattle.std.proofs.Common.{◌≡◌, ◌++◌, map}
use Rattle.sany_front.specs.Said.{without_facts}
use Rattle.sany_front.proofs.outcome.without_facts.Given as goal

abbrev pub invariant-loop-verdict : goal.invariant-loop-verdict
invariant-loop-verdict l = l.reports ++ map without_facts l.verdict-iterator.rest.items ≡ map without_facts l.fn.verdicts
