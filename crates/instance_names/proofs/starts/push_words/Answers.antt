use Rattle.std.proofs.Common.{◌∙◌, ◌++◌, ap, subst}
use Rattle.unit_grammar.specs.UnitNodes.{unit_at}
use Rattle.module_model.specs.Instances.{unit_trees}
use Rattle.instance_names.specs.Forms.{word_at, word_start}
use Rattle.instance_names.specs.Collected.{IsStep, IsTaken, all_collected}
use Rattle.instance_names.proofs.Collecting.{next-taken}
use Rattle.instance_names.proofs.starts.push_words.Goals as goal

pub loop-todo-preserved : goal.loop-todo-preserved
loop-todo-preserved c =
    let nodes = c.args.tree.now in
    let old = c.loop-todo.todo.items in
    let new = c.step.new.todo.items in
    let now = c.loop-todo.starts.items in
    let taken : IsTaken nodes c.in-Some.node old new = subst (λ found. IsStep nodes found old new) c.in-Some.is c.in_ok-node.ensures in (
      taken.due,
      next-taken word_at nodes c.in-Some.node old new now c.push_start.new.starts.items (c.args.starts.now.items ++ all_collected word_at (unit_trees (unit_at nodes c.args.unit.now))) taken
          (c.in_ok-push_start.ensures ∙ ap (λ z. now ++ z) (c.word_start.ensures ∙ ap word_start c.form.ensures)) c.loop-todo.invariant.1,
    )
