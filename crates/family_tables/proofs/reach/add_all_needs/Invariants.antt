use Rattle.std.proofs.Common.{◌≡◌, ℕ, List, true}
use Rattle.family_tables.specs.Tables.{has_name}
use Rattle.family_tables.proofs.Reaching.{AreNeedsOf}
use Rattle.family_tables.proofs.reach.add_all_needs.Given as goal

abbrev pub invariant-loop-index : goal.invariant-loop-index
invariant-loop-index l = record {
  kept : (other : List ℕ) → has_name l.fn.names other ≡ true → has_name l.names other ≡ true;
  needs : AreNeedsOf l.modules l.index l.names;
}
