use Rattle.std.proofs.Common.{◌∙◌, ◌++◌, ap, sym, subst}
use Rattle.std.proofs.lemmas.List.{append-nil}
use Rattle.std.specs.Prelude.{map}
use Rattle.std.specs.List.{AllByRecursion}
use Rattle.tla_tree.specs.Arena.{tree_at}
use Rattle.tla_tree.specs.Syntax.{trees}
use Rattle.tla_model.specs.Entities.{all_placed, bound_as, is_group}
use Rattle.declared_names.proofs.Nodewise.{group-names, no-names}
use Rattle.declared_names.proofs.parts.push_group.Goals as goal

pub returns-in_ok-push_all_placed : goal.returns-in_ok-push_all_placed
returns-in_ok-push_all_placed c =
    c.in_ok-push_all_placed.ensures
    ∙ ap (λ z. c.args.names.now ++ bound_as c.args.binding (all_placed (trees (map (tree_at c.args.tree.now) z)))) c.children.ensures.children
    ∙ ap (λ z. c.args.names.now ++ z)
    (group-names c.args.binding c.args.tree.now c.args.node c.requires (subst (AllByRecursion _) c.children.ensures.children c.children.ensures.before) (ap is_group (sym c.form.ensures) ∙ sym c.is_group.ensures ∙ c.if-is_group.true))

pub returns-else-is_group : goal.returns-else-is_group
returns-else-is_group c =
    sym (append-nil c.args.names.now) ∙ ap (λ z. c.args.names.now ++ z) (sym (no-names c.args.binding c.args.tree.now c.args.node c.requires (ap is_group (sym c.form.ensures) ∙ sym c.is_group.ensures ∙ c.if-is_group.false)))
