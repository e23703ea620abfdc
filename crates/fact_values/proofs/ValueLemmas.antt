-- The value of a name is made of those of its needs, whether they lead back or not.
use Rattle.std.proofs.Common.{◌≡◌, ℕ, Bool, true, false, List, [], ◌∷◌, Option, Some, None, refl, sym, ap, ◌∙◌, cond, inl, inr, map}
use Rattle.std.specs.Prelude.{is_some, unwrap_or}
use Rattle.std.specs.FinMap.{get, keys, contains_key-keys}
use Rattle.std.proofs.lemmas.Bool.{or_right}
use Rattle.order_rec.specs.Ranked.{lower, ranked}
use Rattle.order_rec.proofs.Rank.{ranked-step, lower-lt}
use Rattle.fact_values.specs.Names.{name_eq, has, Texts}
use Rattle.fact_values.specs.Reach.{rank}
use Rattle.fact_values.specs.States.{State, no_text, cyclic, fact}
use Rattle.fact_values.specs.Values.{needs_of_text, needs_in, reaches, gives, value_of_needs, value_of_text, value}
use Rattle.fact_values.proofs.NameLemmas.{true_or_false, has_head}
use Rattle.fact_values.proofs.ReachLemmas.{leads-need, rank-lt}

-- only what is among the names counts
pub map-same : {B : Type 0} (f g : List ℕ → B) (xs : List (List ℕ)) → ((x : List ℕ) → has xs x ≡ true → f x ≡ g x) → map f xs ≡ map g xs
map-same f g [] h = refl
map-same f g (x ∷ xs) h = λ i. h x (has_head x xs) i ∷ map-same f g xs (λ y m. h y (or_right (name_eq y x) (has xs y) m)) i

module _ {Own F : Type 0} (own_of : List ℕ → List ℕ → Own) (needs_of : Own → Option (List (List ℕ))) (fact_of : List ℕ → Own → List (List ℕ × State F) → F) where
  -- a name without text has no needs
  pub needs_in-none : (texts : Texts) (a : List ℕ) → has (keys texts) a ≡ false → needs_in own_of needs_of fact_of texts a ≡ []
  needs_in-none texts a past = none (get texts a) (contains_key-keys texts a ∙ past)
    where
      none : (t : Option (List ℕ)) → is_some t ≡ false → needs_of_text own_of needs_of fact_of a t ≡ []
      none None e = refl
      none (Some b) e = cc

  pub has_key : (texts : Texts) (a : List ℕ) (t : List ℕ) → get texts a ≡ Some t → has (keys texts) a ≡ true
  has_key texts a t e = sym (contains_key-keys texts a) ∙ ap is_some e

  value_of_text-same : (texts : Texts) (f g : List ℕ → State F) (name : List ℕ) (t : Option (List ℕ)) → ((need : List ℕ) → has (needs_of_text own_of needs_of fact_of name t) need ≡ true → gives own_of needs_of fact_of texts f name need ≡ gives own_of needs_of fact_of texts g name need) → value_of_text own_of needs_of fact_of texts f name t ≡ value_of_text own_of needs_of fact_of texts g name t
  value_of_text-same texts f g name None h = refl
  value_of_text-same texts f g name (Some b) h = of_needs (needs_of (own_of name b)) h
    where
      of_needs : (o : Option (List (List ℕ))) → ((need : List ℕ) → has (unwrap_or o []) need ≡ true → gives own_of needs_of fact_of texts f name need ≡ gives own_of needs_of fact_of texts g name need) → value_of_needs own_of needs_of fact_of texts f name (own_of name b) o ≡ value_of_needs own_of needs_of fact_of texts g name (own_of name b) o
      of_needs None h = refl
      of_needs (Some needs) h = ap (λ xs. fact (fact_of name (own_of name b) xs)) (map-same (λ need. (need, gives own_of needs_of fact_of texts f name need)) (λ need. (need, gives own_of needs_of fact_of texts g name need)) needs (λ need m. ap (λ s. (need, s)) (h need m)))

  -- the value of a name is made of the values of its needs
  pub value-step : (texts : Texts) (name : List ℕ) → value own_of needs_of fact_of texts name ≡ value_of_text own_of needs_of fact_of texts (value own_of needs_of fact_of texts) name (get texts name)
  value-step texts name =
      ranked-step no_text r step name ∙ value_of_text-same texts (lower no_text r v name) v name (get texts name) (λ need m. choice need m (reaches own_of needs_of fact_of texts need name) refl)
    where
      needs : List ℕ → List (List ℕ)
      needs = needs_in own_of needs_of fact_of texts

      r : List ℕ → ℕ
      r = rank needs (keys texts)

      step : List ℕ → (List ℕ → State F) → State F
      step x values = value_of_text own_of needs_of fact_of texts values x (get texts x)

      v : List ℕ → State F
      v = ranked no_text r step

      choice : (need : List ℕ) → has (needs name) need ≡ true → (b : Bool) → reaches own_of needs_of fact_of texts need name ≡ b → cond b cyclic (lower no_text r v name need) ≡ cond b cyclic (v need)
      choice need m true e = refl
      choice need m false e = lower-lt no_text r v name need (rank-lt needs (keys texts) (needs_in-none texts) name need within (leads-need needs (keys texts) name need m) e)
        where
          within : has (keys texts) name ≡ true
          within = elim (true_or_false (has (keys texts) name)) as (λ _. has (keys texts) name ≡ true) [
            | inl holds ↦ holds
            | inr fails ↦ let none : false ≡ true = ap (λ (ns : List (List ℕ)). has ns need) (sym (needs_in-none texts name fails)) ∙ m in cc none
          ]
