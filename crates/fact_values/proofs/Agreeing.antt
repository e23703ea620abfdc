-- Names are worth the same by two lists of texts that agree on them and on all that they need.
use Rattle.std.proofs.Common.{◌≡◌, ◌<◌, ℕ, zero, suc, Bool, true, false, List, [], ◌∷◌, Option, Some, None, refl, sym, ap, ◌∙◌, arith, cond, inl, inr}
use Rattle.std.specs.Prelude.{unwrap_or}
use Rattle.std.specs.FinMap.{get, keys}
use Rattle.fact_values.specs.Names.{has, Texts}
use Rattle.fact_values.specs.Reach.{IsPath, rank}
use Rattle.fact_values.specs.States.{State, cyclic, fact}
use Rattle.fact_values.specs.Values.{Agree, all_given, given_in, gives, needs_in, needs_of_text, reaches, value, value_of_needs, value_of_text}
use Rattle.fact_values.proofs.NameLemmas.{true_or_false}
use Rattle.fact_values.proofs.ReachLemmas.{leads-need, leads_from-path, rank-lt, reaches_from-leads}
use Rattle.fact_values.proofs.ValueLemmas.{map-same, needs_in-none, value-step}

module _ {Own F : Type 0} (own_of : List ℕ → List ℕ → Own) (needs_of : Own → Option (List (List ℕ))) (fact_of : List ℕ → Own → List (List ℕ × State F) → F) (texts others : Texts) (among : List ℕ → Bool) (agree : Agree own_of needs_of fact_of texts others among) where
  abbrev Among : List ℕ → Type 0
  Among name = among name ≡ true

  needs : List ℕ → List (List ℕ)
  needs = needs_in own_of needs_of fact_of texts

  needs' : List ℕ → List (List ℕ)
  needs' = needs_in own_of needs_of fact_of others

  needs-same : (a : List ℕ) → Among a → needs a ≡ needs' a
  unfolding needs needs'
  needs-same a h = ap (needs_of_text own_of needs_of fact_of a) (agree.same a h)

  among-need : (a b : List ℕ) → Among a → has (needs a) b ≡ true → Among b
  unfolding needs
  among-need a b h m = agree.closed a b h m

  -- ---- paths

  path-there : (xs : List (List ℕ)) (a b : List ℕ) → Among a → IsPath needs a xs b → IsPath needs' a xs b
  path-there [] a b h p = p
  path-there (x ∷ xs) a b h p = (ap (λ ns. has ns x) (sym (needs-same a h)) ∙ p.0, path-there xs x b (among-need a x h p.0) p.1)

  path-back : (xs : List (List ℕ)) (a b : List ℕ) → Among a → IsPath needs' a xs b → IsPath needs a xs b
  path-back [] a b h p = p
  path-back (x ∷ xs) a b h p =
      let n : has (needs a) x ≡ true = ap (λ ns. has ns x) (needs-same a h) ∙ p.0 in
      (n, path-back xs x b (among-need a x h n) p.1)

  reaches-same : (a b : List ℕ) → Among a → reaches own_of needs_of fact_of texts a b ≡ reaches own_of needs_of fact_of others a b
  unfolding needs needs'
  reaches-same a b h = by (reaches own_of needs_of fact_of texts a b) (reaches own_of needs_of fact_of others a b) refl refl
    where
      by : (s t : Bool) → reaches own_of needs_of fact_of texts a b ≡ s → reaches own_of needs_of fact_of others a b ≡ t → s ≡ t
      by true true e f = refl
      by false false e f = refl
      by true false e f =
          let p = reaches_from-leads needs (keys texts) a b e in
          sym (leads_from-path needs' (keys others) (needs_in-none own_of needs_of fact_of others) p.0 a b (path-there p.0 a b h p.1)) ∙ f
      by false true e f =
          let p = reaches_from-leads needs' (keys others) a b f in
          sym e ∙ leads_from-path needs (keys texts) (needs_in-none own_of needs_of fact_of texts) p.0 a b (path-back p.0 a b h p.1)

  -- ---- values

  abbrev here : List ℕ → State F
  here = value own_of needs_of fact_of texts

  abbrev there : List ℕ → State F
  there = value own_of needs_of fact_of others

  -- by needs that give the same
  of-needs : (name : List ℕ) (own : Own) (o : Option (List (List ℕ))) → ((need : List ℕ) → has (unwrap_or o []) need ≡ true → gives own_of needs_of fact_of texts here name need ≡ gives own_of needs_of fact_of others there name need) →
      value_of_needs own_of needs_of fact_of texts here name own o ≡ value_of_needs own_of needs_of fact_of others there name own o
  of-needs name own None each = refl
  of-needs name own (Some ns) each =
      ap (λ xs. fact (fact_of name own xs))
      (map-same (λ need. (need, gives own_of needs_of fact_of texts here name need)) (λ need. (need, gives own_of needs_of fact_of others there name need)) ns (λ need m. ap (λ s. (need, s)) (each need m)))

  -- a need gives the same where it is worth the same
  gives-same : (name need : List ℕ) → Among need → (reaches own_of needs_of fact_of texts need name ≡ false → here need ≡ there need) → gives own_of needs_of fact_of texts here name need ≡ gives own_of needs_of fact_of others there name need
  gives-same name need h same = by (reaches own_of needs_of fact_of texts need name) (reaches own_of needs_of fact_of others need name) refl (reaches-same need name h)
    where
      by : (s t : Bool) → reaches own_of needs_of fact_of texts need name ≡ s → s ≡ t → cond s cyclic (here need) ≡ cond t cyclic (there need)
      by true true e f = refl
      by false false e f = same e
      by true false e f = cc
      by false true e f = cc

  of-text : (name : List ℕ) (o : Option (List ℕ)) → ((need : List ℕ) → has (needs_of_text own_of needs_of fact_of name o) need ≡ true → gives own_of needs_of fact_of texts here name need ≡ gives own_of needs_of fact_of others there name need) →
      value_of_text own_of needs_of fact_of texts here name o ≡ value_of_text own_of needs_of fact_of others there name o
  of-text name None each = refl
  of-text name (Some b) each = of-needs name (own_of name b) (needs_of (own_of name b)) each

  within : (name need : List ℕ) → has (needs name) need ≡ true → has (keys texts) name ≡ true
  unfolding needs
  within name need m = elim (true_or_false (has (keys texts) name)) as (λ _. has (keys texts) name ≡ true) [
    | inl holds ↦ holds
    | inr fails ↦ let none : false ≡ true = ap (λ (ns : List (List ℕ)). has ns need) (sym (needs_in-none own_of needs_of fact_of texts name fails)) ∙ m in cc none
  ]

  -- a name is worth the same where all its needs are that do not lead back
  value-made : (name : List ℕ) → Among name → ((need : List ℕ) → rank needs (keys texts) need < rank needs (keys texts) name → Among need → here need ≡ there need) → here name ≡ there name
  unfolding needs
  value-made name h before =
      value-step own_of needs_of fact_of texts name
      ∙ of-text name (get texts name) each
      ∙ ap (value_of_text own_of needs_of fact_of others there name) (agree.same name h)
      ∙ sym (value-step own_of needs_of fact_of others name)
    where
      each : (need : List ℕ) → has (needs name) need ≡ true → gives own_of needs_of fact_of texts here name need ≡ gives own_of needs_of fact_of others there name need
      each need m = gives-same name need (among-need name need h m) (λ apart.
          before need (rank-lt needs (keys texts) (needs_in-none own_of needs_of fact_of texts) name need (within name need m) (leads-need needs (keys texts) name need m) apart) (among-need name need h m))

  value-by : (n : ℕ) (name : List ℕ) → rank needs (keys texts) name < n → Among name → here name ≡ there name
  value-by zero name l h = absurd (omega (arith, l))
  value-by (suc n) name l h = value-made name h (λ need less k. value-by n need (omega (arith, less, l)) k)

  -- names are worth the same
  pub values-agree : (name : List ℕ) → Among name → here name ≡ there name
  unfolding needs
  values-agree name h = value-by (suc (rank needs (keys texts) name)) name (omega arith) h

  -- and are given the same
  pub given-agree : (name : List ℕ) → Among name → given_in own_of needs_of fact_of texts name ≡ given_in own_of needs_of fact_of others name
  unfolding needs needs'
  given-agree name h =
      map-same (λ need. (need, gives own_of needs_of fact_of texts here name need)) (λ need. (need, gives own_of needs_of fact_of others there name need)) (needs name)
      (λ need m. ap (λ s. (need, s)) (gives-same name need (among-need name need h m) (λ _. values-agree need (among-need name need h m))))
      ∙ ap (all_given own_of needs_of fact_of others there name) (needs-same name h)
