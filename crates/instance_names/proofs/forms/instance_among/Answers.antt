use Rattle.std.proofs.Common.{◌+◌, ◌∙◌, ap, drop, sym}
use Rattle.std.specs.Prelude.{map}
use Rattle.std.specs.Option.{option_or}
use Rattle.tla_tree.specs.Arena.{tree_at}
use Rattle.tla_tree.specs.Syntax.{trees}
use Rattle.module_model.specs.Instances.{instance_among}
use Rattle.instance_names.specs.Forms.{module_in}
use Rattle.instance_names.proofs.Giving.{among-at}
use Rattle.instance_names.proofs.forms.instance_among.Goals as goal

pub returns-in-Some : goal.returns-in-Some
returns-in-Some c =
    let rest = instance_among (trees (map (tree_at c.args.tree.now) (drop (c.loop-node.node-index + 1) c.args.nodes.now))) in
    sym (among-at c.args.tree.now c.args.nodes.now c.loop-node.node-index _ c.loop-node-test.true c.requires
    ∙ ap (λ m. option_or m rest) (ap module_in (sym c.form.ensures) ∙ sym c.module_in.ensures ∙ c.in-Some.is))
    ∙ c.loop-node.invariant

pub loop-node-preserved : goal.loop-node-preserved
loop-node-preserved c =
    let rest = instance_among (trees (map (tree_at c.args.tree.now) (drop (c.loop-node.node-index + 1) c.args.nodes.now))) in
    sym (among-at c.args.tree.now c.args.nodes.now c.loop-node.node-index _ c.loop-node-test.true c.requires
    ∙ ap (λ m. option_or m rest) (ap module_in (sym c.form.ensures) ∙ sym c.module_in.ensures ∙ c.in_default.is))
    ∙ c.loop-node.invariant
