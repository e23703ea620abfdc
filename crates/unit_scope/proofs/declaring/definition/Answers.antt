use Rattle.std.proofs.Common.{◌∙◌, ap, sym, subst}
use Rattle.std.specs.List.{AllByRecursion}
use Rattle.tla_model.specs.Scopes.{definition}
use Rattle.declared_names.proofs.Nodewise.{tree-at}
use Rattle.unit_scope.proofs.declaring.definition.Goals as goal

pub returns : goal.returns
returns c =
    c.in_ok-found.ensures
    ∙ sym (ap definition (tree-at c.args.tree.now c.args.node c.requires (subst (AllByRecursion _) c.children.ensures.children c.children.ensures.before)))
