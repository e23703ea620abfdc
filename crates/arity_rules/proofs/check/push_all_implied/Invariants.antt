use Rattle.std.proofs.Common.{◌≡◌, ◌++◌, drop}
use Rattle.arity_rules.specs.Arities.{implied_faults}
use Rattle.arity_rules.proofs.check.push_all_implied.Given as goal

abbrev pub invariant-loop-one : goal.invariant-loop-one
invariant-loop-one l = l.faults ++ implied_faults (drop l.one-index l.replaced) ≡ l.initial.faults ++ implied_faults l.replaced
