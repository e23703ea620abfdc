use Rattle.std.proofs.Common.{ap, ◌∙◌, get_or}
use Rattle.std.specs.Prelude.{slice_set}
use Rattle.index_graph.proofs.Moves.{set-all-next}
use Rattle.index_graph.proofs.components.put_all.Goals as goal

pub loop-index-preserved : goal.loop-index-preserved
loop-index-preserved g c = record {
  long = c.loop-index.invariant.long;
  items = ap (λ z. slice_set z (get_or c.args.indices.now c.loop-index.index-index 0) c.args.item) c.loop-index.invariant.items ∙ set-all-next c.args.items.now.items c.args.indices.now c.args.item c.loop-index.index-index c.loop-index-test.true;
}
