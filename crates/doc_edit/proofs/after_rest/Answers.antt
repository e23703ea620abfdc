use Rattle.std.proofs.Common.{◌≡◌, ◌∷◌, refl, sym, ap, subst, ◌∙◌}
use Rattle.std.specs.Prelude.{None}
use Rattle.doc_edit.specs.Edits.{IsRefused, first_backward, first_excess, after_changes}
use Rattle.doc_edit.proofs.Changing.{forward_more, first_excess-more, refused_first, refused_same, IfErr-from}
use Rattle.doc_edit.proofs.after_rest.Goals as goal

pub returns-in_err-last-clause-cause : goal.returns-in_err-last-clause-cause
returns-in_err-last-clause-cause c =
    let first = refused_first c.changes.last c.in-Some.change.now c.in-Some.more.now _ c.in_err-last.ensures.cause in
    let all : first_excess c.changes.last (c.in-Some.change.now ∷ c.in-Some.more.now) ≡ first_excess c.args.text c.args.changes.now = sym (ap (λ cs. first_excess c.changes.last cs) c.in-Some.ensures) ∙ c.changes.invariant.excess in
    IfErr-from c.from_residual.result c.from_residual.ensures.1 (λ e is. subst (λ e. IsRefused None (first_excess c.args.text c.args.changes.now) e) (sym is) (refused_same None _ _ _ refl all first))

pub changes-preserved : goal.changes-preserved
changes-preserved c =
    let rest = c.in-Some.ensures in
    let forward = forward_more c.in-Some.change.now c.in-Some.more.now (subst (λ cs. first_backward cs ≡ None) rest c.changes.invariant.forward) in
    let made = c.in_ok-last.ensures.ok in
    record {
      forward = forward.1;
      goes = ap (λ t. after_changes t c.in-Some.more.now) made ∙ sym (ap (λ cs. after_changes c.changes.last cs) rest) ∙ c.changes.invariant.goes;
      excess = ap (λ t. first_excess t c.in-Some.more.now) made ∙ sym (first_excess-more c.changes.last c.in-Some.change.now c.in-Some.more.now c.in_ok-last.ensures.short) ∙ sym (ap (λ cs. first_excess c.changes.last cs) rest) ∙ c.changes.invariant.excess;
    }
