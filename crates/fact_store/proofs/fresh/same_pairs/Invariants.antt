use Rattle.std.proofs.Common.{◌≡◌, drop}
use Rattle.fact_values.specs.States.{same_given}
use Rattle.fact_store.specs.Given.{states}
use Rattle.fact_store.proofs.fresh.same_pairs.Given as goal

-- what is left decides
abbrev pub invariant-loop-index : goal.invariant-loop-index
invariant-loop-index g l =
    same_given g.D.Derive.same (states l.a) (states l.b) ≡ same_given g.D.Derive.same (states (drop l.index l.a)) (states (drop l.index l.b))
