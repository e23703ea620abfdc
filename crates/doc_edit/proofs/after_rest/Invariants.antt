use Rattle.std.proofs.Common.{◌≡◌, length}
use Rattle.std.specs.Prelude.{None}
use Rattle.doc_edit.specs.Edits.{first_backward, first_excess, after_changes}
use Rattle.doc_edit.proofs.after_rest.Given as goal

abbrev pub invariant-changes : goal.invariant-changes
invariant-changes l = record {
  forward : first_backward l.rest ≡ None;
  goes : after_changes l.last l.rest ≡ after_changes l.fn.text l.changes;
  excess : first_excess l.last l.rest ≡ first_excess l.fn.text l.changes;
}

abbrev pub decreases-changes : goal.decreases-changes
decreases-changes l = length l.rest
