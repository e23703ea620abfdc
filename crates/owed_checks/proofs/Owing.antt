-- What is owed behind changes of texts, and behind checks.
use Rattle.std.proofs.Common.{◌≡◌, ◌≤◌, ◌+◌, ◌⊎◌, ℕ, zero, suc, Bool, true, false, cond, filter, List, [], ◌∷◌, ◌++◌, Option, Some, None, is_some, length, map, refl, sym, ap, subst, ◌∙◌, inl, inr, arith}
use Rattle.std.specs.Prelude.{◌||◌, IsSome, count_by, not}
use Rattle.std.specs.FinMap.{get, keys, contains_key-keys}
use Rattle.std.proofs.lemmas.List.{append-nil, length-append}
use Rattle.std.proofs.lemmas.List.Filters.{length-filter_both}
use Rattle.std.proofs.lemmas.List.Sums.{length-filter}
use Rattle.fact_values.specs.Names.{Texts, has, name_eq}
use Rattle.fact_values.proofs.NameLemmas.{name_eq-refl, or_cases, same_name, true_or_false}
use Rattle.module_interfaces.specs.Interfaces.{Fact, ImportState, dirty, imports_in, is_dirty}
use Rattle.owed_checks.specs.Owed.{IsCurrent, Kept, Owes, StayCurrent, as_needed}

-- ---- names in lists

has-left : (a b : List (List ℕ)) (name : List ℕ) → has a name ≡ true → has (a ++ b) name ≡ true
has-left [] b name is = absurd (cc is)
has-left (first ∷ a) b name is = by (name_eq name first) is (has-left a b name)
  where
    by : (c : Bool) → (c || has a name) ≡ true → (has a name ≡ true → has (a ++ b) name ≡ true) → (c || has (a ++ b) name) ≡ true
    by true is rest = refl
    by false is rest = rest is

has-right : (a b : List (List ℕ)) (name : List ℕ) → has b name ≡ true → has (a ++ b) name ≡ true
has-right [] b name is = is
has-right (first ∷ a) b name is = by (name_eq name first) (has-right a b name is)
  where
    by : (c : Bool) → has (a ++ b) name ≡ true → (c || has (a ++ b) name) ≡ true
    by true rest = refl
    by false rest = rest

-- one that passes a test is among those that do
has-passing : (test : List ℕ → Bool) (names : List (List ℕ)) (name : List ℕ) → test name ≡ true → has names name ≡ true → has (filter test names) name ≡ true
has-passing test [] name passes is = is
has-passing test (first ∷ names) name passes is = by (name_eq name first) refl is (has-passing test names name passes)
  where
    kept : (c : Bool) → (b : Bool) → name_eq name first ≡ b → (has names name ≡ true → has (filter test names) name ≡ true) → (b ≡ true → c ≡ true) → (b || has names name) ≡ true → has (cond c (first ∷ filter test names) (filter test names)) name ≡ true
    kept true true same rest here is = ap (λ (z : Bool). z || has (filter test names) name) same
    kept true false same rest here is = ap (λ (z : Bool). z || has (filter test names) name) same ∙ rest is
    kept false true same rest here is = let never : false ≡ true = here refl in absurd (cc never)
    kept false false same rest here is = rest is

    by : (b : Bool) → name_eq name first ≡ b → (b || has names name) ≡ true → (has names name ≡ true → has (filter test names) name ≡ true) → has (filter test (first ∷ names)) name ≡ true
    by b same is rest = kept (test first) b same rest (λ here. ap test (sym (same_name name first (same ∙ here))) ∙ passes) is

some-key : (texts : Texts) (name : List ℕ) → IsSome (get texts name) → has (keys texts) name ≡ true
some-key texts name some = sym (contains_key-keys texts name) ∙ some

-- ---- all modules

pub all-owed : (kept : Kept) (texts : Texts) → Owes kept texts (length (keys texts))
all-owed kept texts = record { names = keys texts; few = omega arith; all = λ name some. inr (some-key texts name some) }

-- ---- a change

module _ (same : Fact → Fact → Bool) (old new : Texts) (clean : (name : List ℕ) → is_dirty same old new name ≡ false → (get old name ≡ get new name) × (imports_in old name ≡ imports_in new name)) (kept : Kept) (owed : ℕ) (owes : Owes kept old owed) where
  current-still : (name : List ℕ) → is_dirty same old new name ≡ false → IsCurrent kept old name → IsCurrent kept new name
  current-still name is current = record {
    basis = current.basis;
    there = current.there;
    text = sym (clean name is).0 ∙ current.text;
    needs = ap (λ (states : List (List ℕ × ImportState)). map (λ (need : List ℕ × ImportState). (need.0, as_needed need.1)) states) (sym (clean name is).1) ∙ current.needs;
  }

  abbrev changed : List (List ℕ)
  changed = filter (is_dirty same old new) (keys new)

  each : (name : List ℕ) → IsSome (get new name) → IsCurrent kept new name ⊎ (has (owes.names ++ changed) name ≡ true)
  each name some = by (is_dirty same old new name) refl
    where
      before : is_dirty same old new name ≡ false → IsCurrent kept old name ⊎ (has owes.names name ≡ true) → IsCurrent kept new name ⊎ (has (owes.names ++ changed) name ≡ true)
      before is (inl current) = inl (current-still name is current)
      before is (inr among) = inr (has-left owes.names changed name among)

      by : (b : Bool) → is_dirty same old new name ≡ b → IsCurrent kept new name ⊎ (has (owes.names ++ changed) name ≡ true)
      by true is = inr (has-right owes.names changed name (has-passing (is_dirty same old new) (keys new) name is (some-key new name some)))
      by false is = before is (owes.all name (subst IsSome (sym (clean name is).0) some))

  pub change-owes : Owes kept new (owed + dirty same old new)
  change-owes =
      let long = length-append owes.names changed in
      let more : length changed ≡ dirty same old new = length-filter (is_dirty same old new) (keys new) in
      let few = owes.few in
      record { names = owes.names ++ changed; few = omega (arith, long, more, few); all = each }

-- ---- a check

pub stays-owed : (before after : Kept) (texts : Texts) (owed : ℕ) → Owes before texts owed → StayCurrent before after texts → Owes after texts owed
stays-owed before after texts owed owes stay = record { names = owes.names; few = owes.few; all = λ name some. by name (owes.all name some) }
  where
    by : (name : List ℕ) → IsCurrent before texts name ⊎ (has owes.names name ≡ true) → IsCurrent after texts name ⊎ (has owes.names name ≡ true)
    by name (inl current) = inl (stay name current)
    by name (inr among) = inr among

-- a name that is there can be taken away
abbrev without : List ℕ → List (List ℕ) → List (List ℕ)
without name names = filter (λ other. not (name_eq name other)) names

some-taken : (names : List (List ℕ)) (name : List ℕ) → has names name ≡ true → (count : ℕ) × (length (filter (name_eq name) names) ≡ suc count)
some-taken [] name is = absurd (cc is)
some-taken (first ∷ names) name is = by (name_eq name first) is (some-taken names name)
  where
    by : (b : Bool) → (b || has names name) ≡ true → (has names name ≡ true → (count : ℕ) × (length (filter (name_eq name) names) ≡ suc count)) → (count : ℕ) × (length (cond b (first ∷ filter (name_eq name) names) (filter (name_eq name) names)) ≡ suc count)
    by true is rest = (length (filter (name_eq name) names), refl)
    by false is rest = rest is

module _ (before after : Kept) (texts : Texts) (owed : ℕ) (name : List ℕ) (owes : Owes before texts owed) (stay : StayCurrent before after texts) (some : IsSome (get texts name)) (was : IsCurrent before texts name → ⊥) (is : IsCurrent after texts name) where
  among : has owes.names name ≡ true
  among = by (owes.all name some)
    where
      by : IsCurrent before texts name ⊎ (has owes.names name ≡ true) → has owes.names name ≡ true
      by (inl current) = absurd (was current)
      by (inr there) = there

  rest-all : (other : List ℕ) → IsSome (get texts other) → IsCurrent after texts other ⊎ (has (without name owes.names) other ≡ true)
  rest-all other there = by (name_eq name other) refl (owes.all other there)
    where
      by : (b : Bool) → name_eq name other ≡ b → IsCurrent before texts other ⊎ (has owes.names other ≡ true) → IsCurrent after texts other ⊎ (has (without name owes.names) other ≡ true)
      by true same found = inl (subst (IsCurrent after texts) (same_name name other same) is)
      by false apart (inl current) = inl (stay other current)
      by false apart (inr listed) = inr (has-passing (λ o. not (name_eq name o)) owes.names other (ap not apart) listed)

  pub check-pays : (left : ℕ) × (owed ≡ left + 1) × Owes after texts left
  check-pays = by owed owes.few
    where
      fewer : length (without name owes.names) + 1 ≤ length owes.names
      fewer =
          let both = length-filter_both (name_eq name) (λ o. not (name_eq name o)) (λ o. refl) owes.names in
          let taken = some-taken owes.names name among in
          let one = taken.1 in
          omega (arith, both, one)

      by : (o : ℕ) → length owes.names ≤ o → (left : ℕ) × (o ≡ left + 1) × Owes after texts left
      by zero few = absurd (omega (arith, fewer, few))
      by (suc left) few = (left, omega arith, record { names = without name owes.names; few = omega (arith, fewer, few); all = rest-all })
