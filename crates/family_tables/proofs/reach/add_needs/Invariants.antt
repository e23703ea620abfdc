use Rattle.std.proofs.Common.{◌≡◌, ℕ, List, true}
use Rattle.family_tables.specs.Plans.{IsReached}
use Rattle.family_tables.specs.Tables.{has_name}
use Rattle.family_tables.proofs.Reaching.{IsClosedBehind}
use Rattle.family_tables.proofs.reach.add_needs.Given as goal

abbrev pub invariant-loop-count : goal.invariant-loop-count
invariant-loop-count l = record {
  kept : (other : List ℕ) → has_name l.fn.names other ≡ true → has_name l.names other ≡ true;
  only : (other : List ℕ) → has_name l.names other ≡ true → IsReached l.modules (λ name. has_name l.fn.names name ≡ true) other;
  closed : IsClosedBehind l.modules l.order l.count l.names;
}
