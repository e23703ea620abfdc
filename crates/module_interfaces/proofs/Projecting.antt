-- A part of each fact is what it is as a fact of its own.
use Rattle.std.proofs.Common.{◌≡◌, ℕ, zero, suc, Bool, true, false, List, [], ◌∷◌, Option, Some, None, refl, ap, ◌∙◌}
use Rattle.std.specs.Prelude.{if◌then◌else◌, nat_lt}
use Rattle.std.specs.FinMap.{get, keys}
use Rattle.order_rec.specs.Ranked.{lower, within_rank}
use Rattle.front_laws.specs.Fronts.{Front, Tree, Fault}
use Rattle.fact_values.specs.Names.{Texts}
use Rattle.fact_values.specs.Reach.{rank}
use Rattle.fact_values.specs.States.{State, no_text, cyclic, fact}
use Rattle.fact_values.specs.Values as values
use Rattle.family_facts.specs.Facts.{Own, needs_of, own_of}
use Rattle.leveled_facts.specs.Families as leveled
use Rattle.leveled_facts.specs.Modules.{Leveled}
use Rattle.module_interfaces.specs.Interfaces.{Fact, fact_front, fact_of, faces_by_states, leveled_state, leveled_states, state_of}

module _ (texts : Texts) where
  -- what counts for the rank of a name
  abbrev rank_of : List ℕ → ℕ
  rank_of = rank (values.needs_in own_of needs_of fact_of texts) (keys texts)

  -- one step of the value of a name
  abbrev fact_step : List ℕ → (List ℕ → State Fact) → State Fact
  fact_step name given = values.value_of_text own_of needs_of fact_of texts given name (get texts name)

  -- the same of what is found alone
  abbrev leveled_step : List ℕ → (List ℕ → State Leveled) → State Leveled
  leveled_step name given = values.value_of_text own_of needs_of leveled.fact_of texts given name (get texts name)

  gives-part : (f : List ℕ → State Fact) (name need : List ℕ) → leveled_state (values.gives own_of needs_of fact_of texts f name need) ≡ values.gives own_of needs_of leveled.fact_of texts (λ n. leveled_state (f n)) name need
  gives-part f name need = by (values.reaches own_of needs_of fact_of texts need name)
    where
      by : (b : Bool) → leveled_state (if b then cyclic else f need) ≡ (if b then cyclic else leveled_state (f need))
      by true = refl
      by false = refl

  pub given-part : (f : List ℕ → State Fact) (name : List ℕ) (needs : List (List ℕ)) → leveled_states (values.all_given own_of needs_of fact_of texts f name needs) ≡ values.all_given own_of needs_of leveled.fact_of texts (λ n. leveled_state (f n)) name needs
  given-part f name [] = refl
  given-part f name (need ∷ needs) = λ i. (need, gives-part f name need i) ∷ given-part f name needs i

  pub front-part : (own : Own) (given : List (List ℕ × State Fact)) → (fact_of [] own given).leveled ≡ leveled.fact_of [] own (leveled_states given)
  front-part own given = by own.front
    where
      by : (front : Front) → (fact_front own.bytes front (leveled.status_by_states (leveled_states given)) (faces_by_states given)).leveled ≡ leveled.leveled_front own.bytes front (leveled.status_by_states (leveled_states given))
      by (Tree found) = refl
      by (Fault fault) = refl

  step-part : (f : List ℕ → State Fact) (name : List ℕ) → leveled_state (fact_step name f) ≡ leveled_step name (λ n. leveled_state (f n))
  step-part f name = by (get texts name)
    where
      of_needs : (own : Own) (needs : Option (List (List ℕ))) → leveled_state (values.value_of_needs own_of needs_of fact_of texts f name own needs) ≡ values.value_of_needs own_of needs_of leveled.fact_of texts (λ n. leveled_state (f n)) name own needs
      of_needs own None = refl
      of_needs own (Some needs) =
          ap fact (front-part own (values.all_given own_of needs_of fact_of texts f name needs) ∙ ap (leveled.fact_of name own) (given-part f name needs))

      by : (text : Option (List ℕ)) → leveled_state (values.value_of_text own_of needs_of fact_of texts f name text) ≡ values.value_of_text own_of needs_of leveled.fact_of texts (λ n. leveled_state (f n)) name text
      by None = refl
      by (Some bytes) = of_needs (own_of name bytes) (needs_of (own_of name bytes))

  lower-part : (f : List ℕ → State Fact) (name : List ℕ) → (λ n. leveled_state (lower no_text rank_of f name n)) ≡ lower no_text rank_of (λ n. leveled_state (f n)) name
  lower-part f name = λ i n. by n (nat_lt (rank_of n) (rank_of name)) i
    where
      by : (n : List ℕ) (b : Bool) → leveled_state (if b then f n else no_text) ≡ (if b then leveled_state (f n) else no_text)
      by n true = refl
      by n false = refl

  within-part : (count : ℕ) (name : List ℕ) → leveled_state (within_rank no_text rank_of fact_step count name) ≡ within_rank no_text rank_of leveled_step count name
  unfolding within_rank
  within-part zero name = refl
  within-part (suc count) name =
      step-part (lower no_text rank_of (within_rank no_text rank_of fact_step count) name) name
      ∙ ap (leveled_step name) (lower-part (within_rank no_text rank_of fact_step count) name ∙ (λ i. lower no_text rank_of (λ n. within-part count n i) name))

  pub state-part : (name : List ℕ) → leveled_state (state_of texts name) ≡ leveled.state_of texts name
  state-part name = within-part (suc (rank_of name)) name
