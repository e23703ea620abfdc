use Rattle.std.proofs.Common.{Some, sym, ap, ◌∙◌}
use Rattle.fact_store.proofs.PutLemmas.{names_same}
use Rattle.fact_store.proofs.texts.same_names.Goals as goal

pub returns-in-Some-Some : goal.returns-in-Some-Some
returns-in-Some-Some c = λ t.
    let e = names_same c.as_slice.result.now c.as_slice-in-Some-Some.result.now (sym c.eq.ensures ∙ t) in
    c.in-Some-Some.is-0 ∙ ap Some (sym c.as_slice.ensures ∙ e ∙ c.as_slice-in-Some-Some.ensures) ∙ sym c.in-Some-Some.is-1
