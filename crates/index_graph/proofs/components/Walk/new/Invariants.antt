use Rattle.std.proofs.Common.{◌≡◌, ℕ, Some, vec_len}
use Rattle.std.specs.Prelude.{slice_get}
use Rattle.index_graph.specs.declared.components.Mark.{Mark}
use Rattle.index_graph.proofs.components.Walk.new.Given as goal

abbrev pub invariant-loop : goal.invariant-loop
invariant-loop l = record {
  long : vec_len l.marks ≡ l.counter;
  numbers : vec_len l.numbers ≡ l.counter;
  new : (index : ℕ) (mark : Mark) → slice_get l.marks.items index ≡ Some mark → mark ≡ Mark.New;
}
