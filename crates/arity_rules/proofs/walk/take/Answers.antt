use Rattle.std.proofs.Common.{◌<◌, ◌++◌, ◌∙◌, ap, subst, length}
use Rattle.std.specs.List.{AllByRecursion}
use Rattle.tla_tree.specs.Arena.{node_at}
use Rattle.arity_rules.specs.Arities.{own_faults, role_of}
use Rattle.arity_rules.specs.Noted.{told}
use Rattle.arity_rules.specs.Tasks.{below, stack}
use Rattle.arity_rules.proofs.Tasks.{taken}
use Rattle.arity_rules.proofs.walk.take.Goals as goal

pub returns-clause-taken : goal.returns-clause-taken
returns-clause-taken c =
    let means = told c.args.meanings.now in
    let nodes = c.args.tree.now in
    let next = c.args.next in
    let parts = c.children-parts.result.now in
    let kids = c.children-parts.ensures.children in
    let role = c.role_of-role.ensures ∙ ap role_of c.form.ensures in
    taken means nodes next c.requires.there (subst (AllByRecursion (λ child. child < next.node)) kids c.children-parts.ensures.before) c.args.faults.now c.push_own.new.faults (stack c.args.tasks.now.items) (stack c.put_on_top.new.tasks.items) c.requires.due
    (c.in_ok-push_own.ensures ∙ ap (λ r. c.args.faults.now ++ own_faults means next.due next.inside r (length parts)) role ∙ ap (λ z. c.args.faults.now ++ own_faults means next.due next.inside (role_of (node_at nodes next.node).form) (length z)) kids)
    (c.in_ok-put_on_top.ensures.put ∙ ap (λ z. z ++ stack c.args.tasks.now.items)
    (c.in_ok-open_below.ensures ∙ ap (λ z. z ++ below means nodes next.due next.inside c.role_of-role.result parts) c.requires.none ∙ ap (λ r. below means nodes next.due next.inside r parts) role ∙ ap (below means nodes next.due next.inside (role_of (node_at nodes next.node).form)) kids))
