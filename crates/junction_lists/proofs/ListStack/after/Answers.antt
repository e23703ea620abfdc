use Rattle.junction_lists.proofs.Columns.{nested-take}
use Rattle.junction_lists.proofs.ListStack.after.Goals as goal

pub invariant_of-self : goal.invariant_of-self
invariant_of-self c = rw c.truncate.ensures.items (nested-take 0 _ _ c.self.invariant)
