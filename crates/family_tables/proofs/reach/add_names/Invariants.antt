use Rattle.std.proofs.Common.{◌≡◌, ◌⊎◌, ℕ, List, take, true}
use Rattle.std.specs.Prelude.{Contains}
use Rattle.family_tables.specs.Tables.{has_name}
use Rattle.family_tables.proofs.reach.add_names.Given as goal

abbrev pub invariant-loop-name : goal.invariant-loop-name
invariant-loop-name l = record {
  kept : (other : List ℕ) → has_name l.fn.names other ≡ true → has_name l.names other ≡ true;
  added : (other : List ℕ) → Contains (take l.name-index l.more) other → has_name l.names other ≡ true;
  only : (other : List ℕ) → has_name l.names other ≡ true → (has_name l.fn.names other ≡ true) ⊎ Contains (take l.name-index l.more) other;
}
