use Rattle.std.proofs.Common.{◌≡◌, ◌+◌, length}
use Rattle.doc_edit.specs.Edits.{backward_from}
use Rattle.doc_edit.proofs.change.first_backward.Given as goal

abbrev pub invariant-changes : goal.invariant-changes
invariant-changes l =
    (backward_from l.index l.rest ≡ backward_from 0 l.changes) × (l.index + length l.rest ≡ length l.changes)

abbrev pub decreases-changes : goal.decreases-changes
decreases-changes l = length l.rest
