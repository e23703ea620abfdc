use Rattle.tla_tree.proofs.Kept.{kept-there, kept-node, kept-before}
use Rattle.tla_tree.proofs.tree.Tree.children.Goals as goal

pub kept-first-requires : goal.kept-first-requires
kept-first-requires c = rw c.as_slice.ensures.value (kept-there _ _ _ c.args.node c.self.view_is c.requires)

pub returns-clause-children : goal.returns-clause-children
returns-clause-children c =
    rw (c.stretch.ensures, c.kept-first.ensures, c.as_slice.ensures.value, c.as_slice-2.ensures.value, kept-node _ _ _ c.args.node c.self.view_is c.requires)

pub returns-clause-before : goal.returns-clause-before
returns-clause-before c =
    rw (c.stretch.ensures, c.kept-first.ensures, c.as_slice.ensures.value, c.as_slice-2.ensures.value)
    (rw (kept-node _ _ _ c.args.node c.self.view_is c.requires) at (kept-before _ _ _ c.args.node c.self.view_is c.self.invariant c.requires))
