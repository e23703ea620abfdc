use Rattle.std.proofs.Common.{◌∙◌, ◌++◌, ap, sym, subst}
use Rattle.std.specs.Prelude.{reverse}
use Rattle.std.proofs.lemmas.List.{append-nil}
use Rattle.declared_names.specs.Collecting.{AreDue, all_due, names_of}
use Rattle.declared_names.proofs.Collecting.{names-due, names-there, nodes-pushed}
use Rattle.declared_names.proofs.declared.push_declared.Goals as goal

pub loop-next-init : goal.loop-next-init
loop-next-init c =
    let pushed = nodes-pushed c.args.binding c.args.nodes.now c.new-todo.result.items c.push_nodes.new.todo.items c.in_ok-push_nodes.ensures ∙ ap (λ z. names_of c.args.binding c.args.nodes.now ++ reverse z) c.new-todo.ensures.items ∙ append-nil _ in
    record {
      due = subst (AreDue c.args.tree.now) (sym pushed) (names-there c.args.tree.now c.args.binding c.args.nodes.now c.requires);
      names = ap (λ z. c.args.names.now ++ all_due c.args.tree.now z) pushed ∙ ap (λ z. c.args.names.now ++ z) (names-due c.args.tree.now c.args.binding c.args.nodes.now);
    }
