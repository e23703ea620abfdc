use Rattle.std.proofs.Common.{◌<◌, ◌∙◌, ap, subst, sym}
use Rattle.std.specs.List.{AllByRecursion}
use Rattle.tla_model.specs.Contexts.{bind_all}
use Rattle.tla_model.specs.Scopes.{definition}
use Rattle.name_context.specs.AsTables.{context_of}
use Rattle.declared_names.proofs.Nodewise.{tree-at}
use Rattle.declared_names.specs.Listed.{listed}
use Rattle.tla_model.specs.Lexemes.{LiesIn}
use Rattle.tla_model.proofs.Holding.{defined-at}
use Rattle.tree_names.specs.BindersInText.{BindersLie}
use Rattle.declared_names.specs.Nodes.{form_at, parts_at}
use Rattle.tree_scope.proofs.NamesInText.{held-lies}
use Rattle.tree_scope.proofs.found.define.Goals as goal

pub bind-requires : goal.bind-requires
bind-requires c =
    let source = c.args.text.now.source in
    let nodes = c.args.tree.now in
    let node = c.args.node in
    (subst (BindersLie source) (sym c.in_ok-binder.ensures ∙ ap listed c.in-Some.is) (defined-at (LiesIn source) (form_at nodes node) (parts_at nodes node) (held-lies source nodes node c.requires.there c.requires.lie))).0

pub returns-in_ok-bind : goal.returns-in_ok-bind
returns-in_ok-bind c =
    let nodes = c.args.tree.now in
    let node = c.args.node in
    let whole = tree-at nodes node c.requires.there (subst (AllByRecursion (λ child. child < node)) c.children.ensures.children c.children.ensures.before) in
    c.in_ok-bind.ensures ∙ ap (bind_all c.args.text.now (context_of c.args.context.now)) (ap listed (sym c.in-Some.is) ∙ c.in_ok-binder.ensures ∙ sym (ap definition whole))

pub returns-in_default : goal.returns-in_default
returns-in_default c =
    let nodes = c.args.tree.now in
    let node = c.args.node in
    let whole = tree-at nodes node c.requires.there (subst (AllByRecursion (λ child. child < node)) c.children.ensures.children c.children.ensures.before) in
    ap (bind_all c.args.text.now (context_of c.args.context.now)) (ap listed (sym c.in_default.is) ∙ c.in_ok-binder.ensures ∙ sym (ap definition whole))
