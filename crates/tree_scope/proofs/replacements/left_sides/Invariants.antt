use Rattle.std.proofs.Common.{◌≡◌, take}
use Rattle.tla_model.specs.Tables.{empty}
use Rattle.name_context.specs.AsTables.{context_of}
use Rattle.tree_tasks.specs.WalkTasks.{noted_all}
use Rattle.tree_scope.proofs.replacements.left_sides.Given as goal

abbrev pub invariant-loop-node : goal.invariant-loop-node
invariant-loop-node l = context_of l.names ≡ noted_all l.text.source l.tree empty (take l.node-index l.nodes)
