use Rattle.std.proofs.Common.{◌≡◌, [], ℕ, None, take}
use Rattle.std.specs.Prelude.{nat_eq, unwrap_or}
use Rattle.indexmap.specs.IndexMap.{get}
use Rattle.readable_laws.specs.Uses.{implied_by}
use Rattle.written_names.proofs.Keeping.{kept}
use Rattle.written_names.proofs.names.written_names.Given as goal

abbrev pub invariant-loop-finding : goal.invariant-loop-finding
invariant-loop-finding l = record {
  means : (start : ℕ) → get nat_eq l.names.means start ≡ kept None (take l.finding-index l.findings) start;
  implied : (start : ℕ) → unwrap_or (get nat_eq l.names.implied start) [] ≡ implied_by (take l.finding-index l.findings) start;
}
