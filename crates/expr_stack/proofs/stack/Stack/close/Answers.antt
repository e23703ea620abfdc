use Rattle.std.proofs.Common.{[], ◌∷◌, ◌++◌}
use Rattle.expr_stack.proofs.stack.Stack.close.Goals as goal

pub node-requires : goal.node-requires
node-requires c =
    let o = c.requires.opened in
    let p = c.requires.part in
    record {
      parts = o.parts ++ p.0 ∷ [];
      read = o.read ++ p.1;
      below = o.below;
      opens = c.in_ok-opening.ensures.more _ o.parts o.read o.below p.0 p.1 o.opens p.2;
    }

pub returns-clause-made : goal.returns-clause-made
returns-clause-made c parts read below last spelled opens part =
    c.in_ok-whole.ensures.made (parts ++ last ∷ []) (read ++ spelled) below (c.in_ok-opening.ensures.more _ parts read below last spelled opens part)
