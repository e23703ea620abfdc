use Rattle.std.proofs.Common.{◌≡◌, ◌≤◌, ℕ, vec_len}
use Rattle.fact_store.specs.Plans.{is_marked}
use Rattle.fact_store.proofs.store.cover.Given as goal

abbrev pub invariant-loop : goal.invariant-loop
invariant-loop l = record {
  marks : (i : ℕ) → is_marked l.marks.items i ≡ is_marked l.fn.marks.items i;
  long : vec_len l.marks ≡ l.counter;
  most : vec_len l.marks ≤ l.len;
}
