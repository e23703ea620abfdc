use Rattle.std.proofs.Common.{◌∙◌, ap, false, sym, true, ◌≡◌}
use Rattle.std.specs.Cmp.Lexicographic.{pointwise}
use Rattle.std.proofs.lemmas.Bool.{OnTrue_at, OnTrue_from}
use Rattle.family_levels.proofs.Needs.{needs-exact, needs-itself, same_need}
use Rattle.family_levels.proofs.next.is_version_of.Goals as goal

pub returns-then-eq : goal.returns-then-eq
returns-then-eq c =
    let over = sym c.as_slice.ensures ∙ needs-exact c.as_slice.result.now c.args.needs.now (sym c.eq.ensures ∙ c.if-eq.true) in
    record {
      is = OnTrue_from c.is_text_of.result _ (λ yes. record { same = OnTrue_at yes c.is_text_of.ensures.is; over = over });
      found = λ is. c.is_text_of.ensures.found is.same;
    }

pub returns-else-eq : goal.returns-else-eq
returns-else-eq c = record {
  is = OnTrue_from c.eq.result _ (λ yes. let never : false ≡ true = sym c.if-eq.false ∙ yes in absurd (cc never));
  found = λ is.
      let same : pointwise same_need c.as_slice.result.now c.args.needs.now ≡ true = ap (λ needs. pointwise same_need c.as_slice.result.now needs) (sym (c.as_slice.ensures ∙ is.over)) ∙ needs-itself c.as_slice.result.now in
      c.eq.ensures ∙ same;
}
