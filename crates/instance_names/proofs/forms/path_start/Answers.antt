use Rattle.std.proofs.Common.{◌∙◌, ap, sym}
use Rattle.tla_tree.specs.Arena.{node_at, tree_at}
use Rattle.tla_tree.specs.Syntax.{trees}
use Rattle.tla_tree.proofs.Nodes.{before-there}
use Rattle.std.specs.Prelude.{map}
use Rattle.module_model.specs.Instances as instances
use Rattle.instance_names.specs.Forms.{is_identifier, segment_start}
use Rattle.instance_names.proofs.Giving.{long-path, short-path}
use Rattle.instance_names.proofs.forms.path_start.Goals as goal

pub returns-then-children-lt2-clause-start : goal.returns-then-children-lt2-clause-start
returns-then-children-lt2-clause-start c =
    let nodes = c.args.tree.now in
    let form = (node_at nodes c.args.node).form in
    let children = c.children-children.result.now in
    sym (short-path form nodes children (ap is_identifier (sym c.form.ensures) ∙ sym c.if-not-is_identifier.ensures) c.if-children-lt2.true)
    ∙ ap (λ z. instances.path_start form (trees (map (tree_at nodes) z))) c.children-children.ensures.children

pub returns-clause-start : goal.returns-clause-start
returns-clause-start c =
    let nodes = c.args.tree.now in
    let form = (node_at nodes c.args.node).form in
    let children = c.children-children.result.now in
    c.segment_start.ensures ∙ ap segment_start c.form-2.ensures
    ∙ long-path form nodes children _ (before-there nodes c.args.node children c.requires c.children-children.ensures.before) (ap is_identifier (sym c.form.ensures) ∙ sym c.if-not-is_identifier.ensures) c.if-children-lt2.false
    ∙ ap (λ z. instances.path_start form (trees (map (tree_at nodes) z))) c.children-children.ensures.children
