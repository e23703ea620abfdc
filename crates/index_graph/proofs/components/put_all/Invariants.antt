use Rattle.std.proofs.Common.{◌≡◌, take, vec_len}
use Rattle.index_graph.specs.SearchState.{set_all}
use Rattle.index_graph.proofs.components.put_all.Given as goal

abbrev pub invariant-loop-index : goal.invariant-loop-index
invariant-loop-index g l = record {
  long : vec_len l.items ≡ vec_len l.fn.items;
  items : l.items.items ≡ set_all l.fn.items.items (take l.index-index l.indices) l.item;
}
