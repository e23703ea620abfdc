use Rattle.std.proofs.Common.{◌≡◌, ℕ, Some, true, length}
use Rattle.std.specs.Prelude.{slice_get}
use Rattle.instance_parts.proofs.reached.unseen.Given as goal

abbrev pub invariant-loop-turn : goal.invariant-loop-turn
invariant-loop-turn l = record {
  count : length l.seen.items ≡ l._turn;
  none : (number : ℕ) → slice_get l.seen.items number ≡ Some true → ⊥;
}
