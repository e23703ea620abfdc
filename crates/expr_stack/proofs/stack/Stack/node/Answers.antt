use Rattle.std.proofs.Common.{refl, ap, drop, ◌∙◌}
use Rattle.expr_stack.proofs.Stacking.{made-is}
use Rattle.expr_stack.proofs.stack.Stack.node.Goals as goal

pub returns-clause-made : goal.returns-clause-made
returns-clause-made c parts read below opens =
    made-is _ _ _ _ _ _ _ _ _ parts read below c.covered.ensures (c.from-children.ensures ∙ ap (λ z. drop c.args.opening.first z) c.as_slice.ensures.value) c.in_ok-node.ensures.ok c.in_ok-node.ensures.number refl c.truncate.ensures.items opens
