use Rattle.std.proofs.Common.{◌≡◌, ◌∷◌, sym, ap, subst, ◌∙◌}
use Rattle.std.specs.Prelude.{None}
use Rattle.doc_edit.specs.Edits.{IsRefused, first_backward, first_excess}
use Rattle.doc_edit.proofs.Changing.{forward_more, refused_first, refused_same, IfErr-from}
use Rattle.doc_edit.proofs.apply.Goals as goal

pub returns-in-Some-clause-cause : goal.returns-in-Some-clause-cause
returns-in-Some-clause-cause c = sym (ap first_backward c.as_slice-changes.ensures) ∙ sym c.first_backward.ensures ∙ c.in-Some.is

pub returns-in_err-after_first-clause-cause : goal.returns-in_err-after_first-clause-cause
returns-in_err-after_first-clause-cause c =
    let first = refused_first c.args.text.now c.in-Some-first_of.first.now c.in-Some-first_of.rest.now _ c.in_err-after_first.ensures.cause in
    let changes : c.args.changes.now ≡ c.in-Some-first_of.first.now ∷ c.in-Some-first_of.rest.now = sym c.as_slice-changes.ensures ∙ c.in-Some-first_of.ensures in
    let none : first_backward c.args.changes.now ≡ None = sym (ap first_backward c.as_slice-changes.ensures) ∙ sym c.in_default.ensures in
    let same = sym (ap (λ cs. first_excess c.args.text.now cs) changes) in
    IfErr-from c.from_residual.result c.from_residual.ensures.1 (λ e is. subst (λ e. IsRefused (first_backward c.args.changes.now) (first_excess c.args.text.now c.args.changes.now) e) (sym is) (refused_same _ _ _ _ none same first))

pub after_rest-requires : goal.after_rest-requires
after_rest-requires c =
    let none : first_backward (c.in-Some-first_of.first.now ∷ c.in-Some-first_of.rest.now) ≡ None = sym (ap first_backward c.in-Some-first_of.ensures) ∙ sym c.in_default.ensures in
    (forward_more c.in-Some-first_of.first.now c.in-Some-first_of.rest.now none).1
