use Rattle.std.proofs.Common.{◌≡◌, ℕ, true, Some, vec_len}
use Rattle.std.specs.Prelude.{slice_get}
use Rattle.index_graph.proofs.search.unseen.Given as goal

abbrev pub invariant-loop : goal.invariant-loop
invariant-loop l = record {
  long : vec_len l.seen ≡ l.counter;
  none : (i : ℕ) → slice_get l.seen.items i ≡ Some true → ⊥;
}
