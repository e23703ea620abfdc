use Rattle.std.proofs.Common.{◌≡◌, take}
use Rattle.tla_model.specs.Tables.{empty}
use Rattle.name_context.specs.AsTables.{context_of}
use Rattle.tree_tasks.specs.WalkTasks.{AreWhole, noted_all, replacements}
use Rattle.tree_scope.proofs.replacements.replacements.Given as goal

abbrev pub invariant-loop-node : goal.invariant-loop-node
invariant-loop-node l = record {
  names : context_of l.names ≡ noted_all l.text.source l.tree empty (take l.node-index l.nodes);
  due : l.due.items ≡ replacements l.text.source l.tree empty l.fn.«module» (take l.node-index l.nodes);
  whole : AreWhole l.tree (take l.node-index l.nodes);
}
