use Rattle.std.proofs.Common.{◌∙◌, ap, ◌++◌}
use Rattle.tla_model.specs.ModuleNames.{instantiated}
use Rattle.module_graph.proofs.TreeWalk.{IsTaken, taken, names-taken}
use Rattle.module_graph.proofs.trees.instances.Goals as goal

pub loop-node-smaller : goal.loop-node-smaller
loop-node-smaller c =
    let step : IsTaken c.args.tree.now c.in-Some.node c.loop-node.todo.items c.push_reversed.new.todo.items =
    taken c.args.tree.now c.in-Some.node c.children.result.now c.loop-node.todo.items c.pop.new.self.items c.push_reversed.new.todo.items c.loop-node.invariant.due c.in-Some.ensures.items c.children.ensures.children c.children.ensures.before c.in_ok-push_reversed.ensures
    in
    step.less

pub loop-node-preserved : goal.loop-node-preserved
loop-node-preserved c =
    let step : IsTaken c.args.tree.now c.in-Some.node c.loop-node.todo.items c.push_reversed.new.todo.items =
    taken c.args.tree.now c.in-Some.node c.children.result.now c.loop-node.todo.items c.pop.new.self.items c.push_reversed.new.todo.items c.loop-node.invariant.due c.in-Some.ensures.items c.children.ensures.children c.children.ensures.before c.in_ok-push_reversed.ensures
    in
    record {
      due = step.due;
      names = names-taken c.args.tree.now c.in-Some.node c.loop-node.todo.items c.push_reversed.new.todo.items c.loop-node.names c.push_instantiated.new.names _ step
          (c.in_ok-push_instantiated.ensures ∙ ap (λ f. c.loop-node.names ++ instantiated f) c.form.ensures) c.loop-node.invariant.names;
    }
