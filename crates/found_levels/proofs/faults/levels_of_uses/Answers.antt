use Rattle.std.proofs.Common.{◌≡◌, ℕ, ◌+◌, ◌-◌, arith, drop, subst}
use Rattle.std.specs.Prelude.{nat_eq}
use Rattle.indexmap.specs.IndexMap.{get}
use Rattle.module_kinds.specs.ModuleKinds.{level_of}
use Rattle.found_levels.specs.Findings.{findings_of, or_constant}
use Rattle.found_levels.proofs.Using.{uses_before}
use Rattle.found_levels.proofs.faults.levels_of_uses.Goals as goal

pub loop-index-preserved : goal.loop-index-preserved
loop-index-preserved c =
    let next : c.loop-index.index ≡ (c.loop-index.index - 1) + 1 = omega arith in
    record {
      within = omega arith;
      behind = uses_before (get nat_eq c.loop-index.levels) (get nat_eq c.put_level.new.levels) c.args.found.now (c.loop-index.index - 1) _ (omega arith)
          (subst (λ (n : ℕ). (start : ℕ) → or_constant (get nat_eq c.loop-index.levels start) ≡ level_of (findings_of (drop n c.args.found.now)) start) next c.loop-index.invariant.behind)
          c.in_ok-put_level.ensures;
    }
