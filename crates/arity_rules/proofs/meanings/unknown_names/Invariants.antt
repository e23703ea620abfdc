use Rattle.std.proofs.Common.{◌≡◌, ℕ, ◌||◌, nat_eq, drop}
use Rattle.std.specs.List.{list_any}
use Rattle.arity_rules.specs.Arities.{is_unknown}
use Rattle.arity_rules.proofs.meanings.unknown_names.Given as goal

abbrev pub invariant-loop-fault : goal.invariant-loop-fault
invariant-loop-fault l = (x : ℕ) → (list_any (nat_eq x) l.unknown.keys || is_unknown (drop l.fault-index l.faults) x) ≡ is_unknown l.faults x
