use Rattle.std.proofs.Common.{arith, ◌≤◌}
use Rattle.junction_lists.specs.OpenLists.{inner}
use Rattle.junction_lists.proofs.Columns.{nested-snoc}
use Rattle.junction_lists.proofs.ListStack.open.Goals as goal

pub invariant_of-self-2 : goal.invariant_of-self-2
invariant_of-self-2 c =
    let above : inner c.self.inside.lists.items ≤ c.args.col = rw c.self.view_is c.requires.above in
    rw c.in_ok-push.ensures.items (nested-snoc 0 _ _ c.self.invariant (omega arith) above c.requires.below)
