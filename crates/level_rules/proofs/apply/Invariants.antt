use Rattle.std.proofs.Common.{◌≡◌, drop}
use Rattle.level_rules.specs.Kinds.{first_refused}
use Rattle.level_rules.proofs.apply.Given as goal

-- none was refused so far
abbrev pub invariant-loop-place : goal.invariant-loop-place
invariant-loop-place l = first_refused l.rule 0 l.operands ≡ first_refused l.rule l.place (drop l.place l.operands)
