use Rattle.std.proofs.Common.{◌∙◌, ap, subst, sym}
use Rattle.declared_names.specs.Listed.{listed}
use Rattle.tla_model.specs.Lexemes.{LiesIn}
use Rattle.tla_model.proofs.Holding.{defined-at}
use Rattle.tree_names.specs.BindersInText.{BindersLie}
use Rattle.declared_names.specs.Nodes.{form_at, parts_at}
use Rattle.tree_scope.proofs.NamesInText.{held-lies}
use Rattle.tree_scope.proofs.visits.begin.Goals as goal

pub refuse-requires : goal.refuse-requires
refuse-requires c =
    let source = c.args.text.now.source in
    let nodes = c.args.tree.now in
    let node = c.args.node in
    (subst (BindersLie source) (sym c.in_ok-binder.ensures ∙ ap listed c.in-Some.is) (defined-at (LiesIn source) (form_at nodes node) (parts_at nodes node) (held-lies source nodes node c.requires.node.there c.requires.node.lie))).0

pub reserve-requires : goal.reserve-requires
reserve-requires c =
    let source = c.args.text.now.source in
    let nodes = c.args.tree.now in
    let node = c.args.node in
    (subst (BindersLie source) (sym c.in_ok-binder.ensures ∙ ap listed c.in-Some.is) (defined-at (LiesIn source) (form_at nodes node) (parts_at nodes node) (held-lies source nodes node c.requires.node.there c.requires.node.lie))).0
