use Rattle.std.proofs.Common.{◌≡◌, ◌∙◌, ◌∷◌, ◌++◌, ap, drop, reverse, subst, take}
use Rattle.declared_names.specs.declared.declared.Due.TheVariants as due
use Rattle.declared_names.specs.Collecting.{names_of, lead, stack}
use Rattle.tla_model.specs.Entities.{binding_in, follows_first}
use Rattle.declared_names.proofs.Collecting.{opened, nodes-pushed, pushed}
use Rattle.declared_names.proofs.declared.push_parts.Goals as goal

pub returns : goal.returns
returns c =
    let b = c.binding_in-binding.result in
    let k = c.lead-lead.result in
    let children = c.children-children.result.now in
    opened c.args.tree.now c.args.node c.args.binding children k _ _ c.requires.there c.requires.due c.children-children.ensures.children c.children-children.ensures.before
    (c.lead-lead.ensures.lead ∙ ap (λ f. lead f children) (c.follows_first.ensures ∙ ap follows_first c.form-form.ensures))
    (subst (λ z. stack c.push_nodes-2.new.todo.items ≡ names_of z (take k children) ++ (due.Defined c.args.node ∷ (names_of z (drop k children) ++ stack c.args.todo.now.items)))
    (c.binding_in-binding.ensures ∙ ap (binding_in c.args.binding) c.form-form.ensures)
    (nodes-pushed b (take k children) c.push.new.self.items c.push_nodes-2.new.todo.items (c.in_ok-push_nodes-2.ensures ∙ ap (λ z. c.push.new.self.items ++ names_of b (reverse z)) c.split_at.ensures.front)
    ∙ ap (λ z. names_of b (take k children) ++ z) (pushed (due.Defined c.args.node) c.push_nodes.new.todo.items c.push.new.self.items c.in_ok-push.ensures.items
    ∙ ap (λ z. due.Defined c.args.node ∷ z) (nodes-pushed b (drop k children) c.args.todo.now.items c.push_nodes.new.todo.items (c.in_ok-push_nodes.ensures ∙ ap (λ z. c.args.todo.now.items ++ names_of b (reverse z)) c.split_at.ensures.back)))))
