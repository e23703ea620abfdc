use Rattle.std.proofs.Common.{◌≡◌, ℕ, nat_eq, drop, length}
use Rattle.std.specs.Option.{option_or}
use Rattle.std.specs.Map.{lookup}
use Rattle.arity_rules.specs.Noted.{declarations}
use Rattle.arity_rules.proofs.meanings.declared_names.Given as goal

abbrev pub invariant-loop-name : goal.invariant-loop-name
invariant-loop-name l = (x : ℕ) → option_or (lookup (nat_eq x) l.declared.entries) (lookup (nat_eq x) (declarations (drop (length l.yielded) l.uses) (drop (length l.yielded) l.entities))) ≡ lookup (nat_eq x) (declarations l.uses l.entities)
