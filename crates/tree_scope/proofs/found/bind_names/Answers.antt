use Rattle.std.proofs.Common.{◌<◌, subst, sym}
use Rattle.std.specs.List.{AllByRecursion}
use Rattle.tla_model.specs.Lexemes.{LiesIn}
use Rattle.tla_model.proofs.Holding.{binders-at}
use Rattle.tree_names.specs.BindersInText.{BindersLie}
use Rattle.declared_names.specs.Nodes.{form_at, parts_at}
use Rattle.tree_scope.proofs.NamesInText.{parts-lie}
use Rattle.declared_names.proofs.Nodewise.{tree-at}
use Rattle.tree_scope.proofs.found.bind_names.Goals as goal

pub bind_all-requires : goal.bind_all-requires
bind_all-requires c =
    let source = c.args.text.now.source in
    let nodes = c.args.tree.now in
    let node = c.args.node in
    let whole = tree-at nodes node c.requires.there (subst (AllByRecursion (λ child. child < node)) c.children.ensures.children c.children.ensures.before) in
    subst (BindersLie source) (sym c.in_ok-names.ensures) (binders-at (LiesIn source) (form_at nodes node) (parts_at nodes node) (parts-lie source nodes node whole c.requires.lie))
