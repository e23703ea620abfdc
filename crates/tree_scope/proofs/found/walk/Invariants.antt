use Rattle.std.proofs.Common.{◌≡◌, ◌∷◌, []}
use Rattle.name_context.specs.AsTables.{context_of}
use Rattle.tree_scope.specs.TasksDone.{AreReady, all_size, emit, run}
use Rattle.tree_tasks.specs.WalkTasks.{stack, visited}
use Rattle.tree_scope.proofs.found.walk.Given as goal

abbrev pub invariant-loop-next : goal.invariant-loop-next
invariant-loop-next g l = record {
  ready : AreReady l.text l.tree (stack l.tasks.items);
  run_on : emit l.findings (run l.text (g.S.Surround.around l.around) (g.S.Surround.held l.around) l.tree (context_of l.context) (stack l.tasks.items)) ≡ emit l.initial.findings (run l.text (g.S.Surround.around l.around) (g.S.Surround.held l.around) l.tree (context_of l.initial.context) (visited l.fn.node ∷ []));
}

abbrev pub decreases-loop-next : goal.decreases-loop-next
decreases-loop-next g l = all_size l.text l.tree (stack l.tasks.items)
