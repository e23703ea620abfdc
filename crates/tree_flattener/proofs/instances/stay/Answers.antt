use Rattle.std.proofs.Common.{subst}
use Rattle.kind_text.specs.FlatModule as flat
use Rattle.flattened_trees.specs.NodeForms.{plain_node}
use Rattle.tree_flattener.specs.Steps.{Adds}
use Rattle.tree_flattener.proofs.Replacements.{stayed-none, stayed-on}
use Rattle.tree_flattener.proofs.instances.stay.Goals as goal

pub loop-place-init : goal.loop-place-init
loop-place-init c = stayed-none c.args.state.now c.args.made.now.items

pub loop-place-preserved : goal.loop-place-preserved
loop-place-preserved c =
    stayed-on c.args.state.now c.loop-place.state c.add_plain.new.state c.loop-place.place c.in_ok-root.root c.args.made.now.items c.loop-place.made.items c.push.new.self.items c.loop-place.invariant
    (subst (λ z. Adds c.loop-place.state c.add_plain.new.state (plain_node (flat.Form.Parameter c.loop-place.place) z) c.in_ok-root.root) c.new.ensures.items c.in_ok-root.ensures) c.in_ok-push.ensures.items
