use Rattle.std.proofs.Common.{◌∙◌, ◌++◌, ap, false, reverse, subst, sym}
use Rattle.std.proofs.lemmas.List.{append-nil}
use Rattle.arity_rules.specs.declared.place.Role.TheVariants as role
use Rattle.arity_rules.specs.Noted.{told}
use Rattle.arity_rules.specs.Tasks.{AreDue, all_faults, part_tasks}
use Rattle.arity_rules.proofs.Tasks.{part-due, part-faults}
use Rattle.arity_rules.proofs.walk.push_trees.Goals as goal

pub loop-next-init : goal.loop-next-init
loop-next-init c =
    let means = told c.args.meanings.now in
    let nodes = c.args.tree.now in
    let opened = part_tasks means nodes role.Other false 0 c.args.nodes.now in
    let pushed = c.in_ok-put_on_top.ensures.put
    ∙ ap (λ z. z ++ reverse c.new-tasks.result.items) (c.in_ok-open_parts.ensures ∙ ap (λ z. z ++ opened) c.new-opened.ensures.items)
    ∙ ap (λ z. opened ++ reverse z) c.new-tasks.ensures.items ∙ append-nil opened in
    record {
      due = subst (AreDue nodes) (sym pushed) (part-due means nodes role.Other false 0 c.args.nodes.now c.requires);
      faults = ap (λ z. c.args.faults.now ++ all_faults means nodes z) pushed ∙ ap (λ z. c.args.faults.now ++ z) (part-faults means nodes role.Other false 0 c.args.nodes.now c.requires);
      none = c.in_ok-put_on_top.ensures.none;
    }
