use Rattle.std.proofs.Common.{◌∙◌, ap, map, subst, sym}
use Rattle.std.specs.List.{AllByRecursion}
use Rattle.tla_model.specs.Entities.{meant}
use Rattle.tla_model.specs.Scopes.{definition}
use Rattle.declared_names.proofs.Nodewise.{tree-at}
use Rattle.unit_flattener.proofs.meanings.defined_meanings.Goals as goal

pub returns : goal.returns
returns c =
    c.in_ok-meanings.ensures
    ∙ ap (map (meant c.args.text.now)) (c.in_ok-found.ensures
    ∙ sym (ap definition (tree-at c.args.tree.now c.args.node c.requires (subst (AllByRecursion _) c.children.ensures.children c.children.ensures.before))))
