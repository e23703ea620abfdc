use Rattle.tree_parts.proofs.Growing.{leaf-is}
use Rattle.tree_parts.proofs.part.leaf.Goals as goal

pub returns : goal.returns
returns c = leaf-is _ _ _ _ _ c.in_ok-node.ensures.ok c.in_ok-node.ensures.number
