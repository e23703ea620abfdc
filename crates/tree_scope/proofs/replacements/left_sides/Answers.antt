use Rattle.std.proofs.Common.{◌∙◌, ap}
use Rattle.name_context.specs.AsTables.{context_of}
use Rattle.tree_tasks.specs.WalkTasks.{left_of}
use Rattle.tree_scope.proofs.Replacing.{left-at, noted-next}
use Rattle.tree_scope.proofs.replacements.left_sides.Goals as goal

pub note-requires : goal.note-requires
note-requires c =
    left-at c.args.text.now c.args.tree.now c.args.nodes.now c.loop-node.node-index 0 c.loop-node-test.true c.left_of.result (c.left_of.ensures ∙ ap left_of c.form.ensures) c.requires

pub loop-node-preserved : goal.loop-node-preserved
loop-node-preserved c =
    noted-next c.args.text.now c.args.tree.now c.args.nodes.now c.loop-node.node-index 0 c.loop-node-test.true (context_of c.loop-node.names) (context_of c.note.new.names) c.left_of.result
    (c.left_of.ensures ∙ ap left_of c.form.ensures) c.loop-node.invariant c.in_ok-note.ensures
