use Rattle.std.proofs.Common.{◌≡◌, drop}
use Rattle.module_constancy.specs.Places.{named_at}
use Rattle.module_constancy.proofs.TreeParts.{are_constant}
use Rattle.module_constancy.proofs.trees.+is_constant_tree.Given as goal

abbrev pub decreases-is_constant_tree : goal.decreases-is_constant_tree
decreases-is_constant_tree g l = l.node

abbrev pub invariant-loop-child : goal.invariant-loop-child
invariant-loop-child g l =
    are_constant l.text.source l.tree (named_at (g.F.Files.constant l.files) l.place) (drop l.child-index l.children) ≡ are_constant l.text.source l.tree (named_at (g.F.Files.constant l.files) l.place) l.children
