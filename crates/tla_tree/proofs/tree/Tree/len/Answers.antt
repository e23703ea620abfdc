use Rattle.tla_tree.proofs.Kept.{length-view}
use Rattle.tla_tree.proofs.tree.Tree.len.Goals as goal

pub returns : goal.returns
returns c = rw c.as_slice.ensures.value (length-view _ _ _ c.self.view_is)
