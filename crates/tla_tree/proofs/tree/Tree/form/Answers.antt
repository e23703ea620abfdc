use Rattle.tla_tree.proofs.Kept.{kept-there, kept-node}
use Rattle.tla_tree.proofs.tree.Tree.form.Goals as goal

pub kept-requires : goal.kept-requires
kept-requires c = rw c.as_slice.ensures.value (kept-there _ _ _ c.args.node c.self.view_is c.requires)

pub returns : goal.returns
returns c = rw (c.kept.ensures, c.as_slice.ensures.value, kept-node _ _ _ c.args.node c.self.view_is c.requires)
