use Rattle.std.proofs.Common.{◌∷◌, [], ◌∙◌, ◌++◌, ap, append_assoc, sym}
use Rattle.tree_tasks.specs.WalkTasks.{chain_back}
use Rattle.tree_tasks.specs.declared.tasks.Task.TheVariants as task
use Rattle.tree_tasks.proofs.Running.{chain-append}
use Rattle.tree_tasks.proofs.tasks.append_chain.Goals as goal

pub loop-node-preserved : goal.loop-node-preserved
loop-node-preserved c =
    let node = c.in-Some.node in
    let one = task.Define node ∷ [] in
    let two = task.Visit node ∷ [] in
    c.in_ok-push-2.ensures.items ∙ ap (λ z. z ++ two) (c.in_ok-push.ensures.items ∙ ap (λ z. z ++ one) c.loop-node.invariant)
    ∙ append_assoc (c.args.tasks.now.items ++ chain_back c.loop-node.yielded) one two ∙ append_assoc c.args.tasks.now.items (chain_back c.loop-node.yielded) (task.Define node ∷ two)
    ∙ ap (λ z. c.args.tasks.now.items ++ z) (sym (chain-append c.loop-node.yielded (node ∷ [])))
