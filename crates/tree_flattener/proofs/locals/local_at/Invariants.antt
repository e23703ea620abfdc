use Rattle.std.proofs.Common.{◌≡◌, None, drop}
use Rattle.tree_flattener.specs.Found.{local_in}
use Rattle.tree_flattener.proofs.locals.local_at.Given as goal

abbrev pub invariant-loop-entry : goal.invariant-loop-entry
invariant-loop-entry l = local_in l.found (drop l.entry-index l.entries) l.place ≡ local_in None l.entries l.place
