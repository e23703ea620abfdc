use Rattle.std.proofs.Common.{get_or, ◌∙◌, subst, sym}
use Rattle.tla_tree.specs.Arena.{tree_at}
use Rattle.server_outlines.specs.Shown.{IsShown}
use Rattle.server_outlines.proofs.Listing.{onward, shown-at}
use Rattle.server_outlines.proofs.units.push_constants.Goals as goal

pub push_constant-requires-clause-shown : goal.push_constant-requires-clause-shown
push_constant-requires-clause-shown c =
    let nodes = c.args.tree.now in
    let numbers = c.args.nodes.now in
    subst (λ z. IsShown z (tree_at nodes (get_or numbers c.loop-node.node-index 0))) (sym c.loop-node.invariant.text) (shown-at c.args.walk.now nodes numbers c.loop-node.node-index 0 c.loop-node-test.true c.requires.shown)

pub loop-node-preserved : goal.loop-node-preserved
loop-node-preserved c = record {
  symbols = onward c.args.walk.now c.args.tree.now c.loop-node.walk c.args.nodes.now c.loop-node.node-index 0 c.loop-node.invariant.text c.loop-node-test.true c.loop-node.symbols c.push_constant.new.symbols _ c.in_ok-push_constant.ensures.symbols c.loop-node.invariant.symbols;
  text = c.push_constant.ensures.text ∙ c.loop-node.invariant.text;
}
