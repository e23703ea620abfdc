use Rattle.std.proofs.Common.{◌≡◌, ◌≤◌, ℕ, drop, length}
use Rattle.std.specs.Prelude.{nat_eq}
use Rattle.indexmap.specs.IndexMap.{get}
use Rattle.module_kinds.specs.ModuleKinds.{level_of}
use Rattle.found_levels.specs.Findings.{findings_of, or_constant}
use Rattle.found_levels.proofs.faults.levels_of_uses.Given as goal

abbrev pub invariant-loop-index : goal.invariant-loop-index
invariant-loop-index l = record {
  within : l.index ≤ length l.found;
  behind : (start : ℕ) → or_constant (get nat_eq l.levels start) ≡ level_of (findings_of (drop l.index l.found)) start;
}

abbrev pub decreases-loop-index : goal.decreases-loop-index
decreases-loop-index l = l.index
