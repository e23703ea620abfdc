use Rattle.std.proofs.Common.{◌∙◌, ap}
use Rattle.name_context.specs.AsTables.{context_of}
use Rattle.tree_tasks.specs.WalkTasks.{left_of}
use Rattle.tree_scope.proofs.Replacing.{due-next, left-at, noted-next, whole-next}
use Rattle.tree_scope.proofs.replacements.replacements.Goals as goal

pub push_replacement-requires : goal.push_replacement-requires
push_replacement-requires c =
    left-at c.args.text.now c.args.tree.now c.args.nodes.now c.loop-node.node-index 0 c.loop-node-test.true c.left_of-left.result (c.left_of-left.ensures ∙ ap left_of c.form.ensures) c.requires

pub note-requires : goal.note-requires
note-requires c =
    left-at c.args.text.now c.args.tree.now c.args.nodes.now c.loop-node.node-index 0 c.loop-node-test.true c.left_of-left.result (c.left_of-left.ensures ∙ ap left_of c.form.ensures) c.requires

pub loop-node-preserved : goal.loop-node-preserved
loop-node-preserved c =
    let text = c.args.text.now in
    let nodes = c.args.tree.now in
    let numbers = c.args.nodes.now in
    let i = c.loop-node.node-index in
    let lt = c.loop-node-test.true in
    let left = c.left_of-left.result in
    let is = c.left_of-left.ensures ∙ ap left_of c.form.ensures in
    let names = context_of c.loop-node.names in
    record {
      names = noted-next text nodes numbers i 0 lt names (context_of c.note.new.names) left is c.loop-node.invariant.names c.in_ok-note.ensures;
      due = due-next text nodes numbers i 0 lt names c.args.«module» left c.children.result.now c.loop-node.due.items c.push_replacement.new.due.items is c.children.ensures.children c.loop-node.invariant.names c.loop-node.invariant.due
          c.in_ok-push_replacement.ensures;
      whole = whole-next text nodes numbers i 0 lt c.children.result.now c.requires.there c.children.ensures.children c.children.ensures.before c.loop-node.invariant.whole;
    }
