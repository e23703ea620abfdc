use Rattle.std.proofs.Common.{◌∙◌, subst}
use Rattle.std.specs.Prelude.{map}
use Rattle.unit_grammar.specs.UnitNodes.{unit_at}
use Rattle.module_model.specs.Instances.{named_instance, unit_trees}
use Rattle.instance_names.specs.Named.{named_as}
use Rattle.instance_names.specs.Collected.{IsStep, IsTaken, all_collected}
use Rattle.instance_names.proofs.Collecting.{all-named-collected, next-taken, none-due}
use Rattle.instance_names.proofs.named.named_instances.Goals as goal

pub loop-todo-preserved : goal.loop-todo-preserved
loop-todo-preserved c =
    let nodes = c.args.tree.now in
    let old = c.loop-todo.todo.items in
    let new = c.step.new.todo.items in
    let taken : IsTaken nodes c.in-Some.node old new = subst (λ found. IsStep nodes found old new) c.in-Some.is c.in_ok-node.ensures in (
      taken.due,
      next-taken named_instance nodes c.in-Some.node old new (map named_as c.loop-todo.found) (map named_as c.push_named.new.found) (all_collected named_instance (unit_trees (unit_at nodes c.args.unit.now))) taken
          c.in_ok-push_named.ensures c.loop-todo.invariant.1,
    )

pub returns : goal.returns
returns c =
    let nodes = c.args.tree.now in
    let trees = unit_trees (unit_at nodes c.args.unit.now) in
    let todo = c.loop-todo.todo.items in
    none-due named_instance nodes todo (map named_as c.loop-todo.found) (all_collected named_instance trees)
    (subst (λ found. IsStep nodes found todo c.step.new.todo.items) c.in_default.is c.in_ok-node.ensures) c.loop-todo.invariant.1
    ∙ all-named-collected trees
