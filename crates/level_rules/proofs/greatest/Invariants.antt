use Rattle.std.proofs.Common.{◌≡◌, take}
use Rattle.std.specs.Prelude.{fold, max}
use Rattle.level_rules.specs.Kinds.{level}
use Rattle.level_rules.proofs.greatest.Given as goal

abbrev pub invariant-loop-kind : goal.invariant-loop-kind
invariant-loop-kind l = l.most ≡ fold (λ most kind. max most (level kind)) 0 (take l.kind-index l.operands)
