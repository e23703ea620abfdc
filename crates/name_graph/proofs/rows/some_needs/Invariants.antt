use Rattle.std.proofs.Common.{◌≡◌, ◌<◌, ℕ, true, List, Some, Contains}
use Rattle.std.specs.Prelude.{slice_get, String}
use Rattle.std.specs.declared.alloc.Global.{Global}
use Rattle.name_graph.proofs.rows.some_needs.Given as goal

abbrev pub invariant-loop-index : goal.invariant-loop-index
invariant-loop-index l = (k : ℕ) (row : String Global × List (List ℕ)) → k < l.index → slice_get l.seen k ≡ Some true → slice_get l.rows.entries k ≡ Some row → Contains row.1 l.name → ⊥
