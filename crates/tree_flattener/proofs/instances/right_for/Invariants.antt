use Rattle.std.proofs.Common.{◌≡◌, drop}
use Rattle.name_context.specs.AsTables.{meant_by}
use Rattle.flattened_trees.specs.Flattened.{right_for}
use Rattle.tree_flattener.specs.Replacing.{rights_in}
use Rattle.tree_flattener.proofs.instances.right_for.Given as goal

abbrev pub invariant-loop-right : goal.invariant-loop-right
invariant-loop-right l = right_for (rights_in (drop l.right-index l.rights)) (meant_by l.name) ≡ right_for (rights_in l.rights) (meant_by l.name)
