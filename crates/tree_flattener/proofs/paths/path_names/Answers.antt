use Rattle.std.proofs.Common.{sym, ap, ◌∙◌, subst, map}
use Rattle.std.specs.Prelude.{IfSome}
use Rattle.tla_model.specs.Lexemes.{LiesIn}
use Rattle.name_context.specs.AsTables.{meant_by}
use Rattle.tree_flattener.specs.Making.{segment_of}
use Rattle.tree_flattener.proofs.Lying.{segment-at}
use Rattle.tree_flattener.proofs.Walking.{names-onward}
use Rattle.tree_flattener.proofs.paths.path_names.Goals as goal

pub push_name-requires : goal.push_name-requires
push_name-requires c =
    subst (λ z. IfSome z (LiesIn c.args.text.now.source)) (sym (c.segment_of.ensures ∙ ap segment_of c.form.ensures))
    (segment-at c.args.text.now.source c.args.tree.now c.args.nodes.now c.loop-node.node-index 0 c.loop-node-test.true c.requires)

pub loop-node-preserved : goal.loop-node-preserved
loop-node-preserved c =
    names-onward c.args.text.now.source c.args.tree.now c.args.nodes.now c.loop-node.node-index 0 c.loop-node-test.true c.requires.there c.form.result c.segment_of.result (map meant_by c.loop-node.names.items) (map meant_by c.push_name.new.names.items) c.form.ensures c.segment_of.ensures c.in_ok-push_name.ensures c.loop-node.invariant
