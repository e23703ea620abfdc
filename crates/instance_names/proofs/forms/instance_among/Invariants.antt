use Rattle.std.proofs.Common.{◌≡◌, drop}
use Rattle.std.specs.Prelude.{map}
use Rattle.tla_tree.specs.Arena.{tree_at}
use Rattle.tla_tree.specs.Syntax.{trees}
use Rattle.module_model.specs.Instances.{instance_among}
use Rattle.instance_names.proofs.forms.instance_among.Given as goal

abbrev pub invariant-loop-node : goal.invariant-loop-node
invariant-loop-node l = instance_among (trees (map (tree_at l.tree) (drop l.node-index l.nodes))) ≡ instance_among (trees (map (tree_at l.tree) l.nodes))
