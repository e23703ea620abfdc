-- Names among which all comes that their modules need.
use Rattle.std.proofs.Common.{◌≡◌, ◌<◌, ◌≤◌, ℕ, ◌+◌, List, [], ◌∷◌, ◌++◌, Some, None, refl, sym, ap, ◌∙◌, arith, cond, inl, inr, length, subst, true, false, Bool}
use Rattle.std.specs.Prelude.{◌⊎◌, Contains, is_some, slice_get}
use Rattle.std.specs.Str.{bytes_eq}
use Rattle.std.proofs.lemmas.Bool.{cases_lt}
use Rattle.std.proofs.lemmas.Option.{slice_get_within}
use Rattle.list_laws.proofs.Texts.{same-text, text-itself}
use Rattle.list_laws.proofs.Tests.{same-or-other}
use Rattle.index_graph.specs.Leading.{last, more}
use Rattle.index_graph.proofs.Ways.{leads-leads}
use Rattle.family_facts.proofs.Lists.{at-same, contains-at}
use Rattle.family_tables.specs.Modules.{Entry}
use Rattle.family_tables.specs.Plans.{AreOnce, IsClosed, IsCycles, IsOrder, IsReached, Needs}
use Rattle.family_tables.specs.Tables.{entry_of, has_name, names_in}
use Rattle.family_tables.specs.declared.reading.Module.{Module}
use Rattle.family_tables.proofs.Graphs.{needs-named, same-entry}
use Rattle.family_tables.proofs.Tabling.{entry-append, entry-found, entry-some}

-- ---- one name more

-- what is there, or the one that is new
module _ {T : Type 0} (old new : List (List ℕ × T)) (name : List ℕ) (item : T) (fresh : entry_of old name ≡ None) (is : new ≡ old ++ (name, item) ∷ []) where
  value : (other : List ℕ) → has_name new other ≡ is_some (cond (bytes_eq other name) (Some item) (entry_of old other))
  value other = ap (λ z. has_name z other) is ∙ ap is_some (entry-append old other name item fresh)

  pub name-kept : (other : List ℕ) → has_name old other ≡ true → has_name new other ≡ true
  name-kept other h = value other ∙ by (bytes_eq other name)
    where
      by : (b : Bool) → is_some (cond b (Some item) (entry_of old other)) ≡ true
      by true = refl
      by false = h

  pub name-added : has_name new name ≡ true
  name-added = value name ∙ ap (λ b. is_some (cond b (Some item) (entry_of old name))) (text-itself name name refl)

  pub name-only : (other : List ℕ) → has_name new other ≡ true → (has_name old other ≡ true) ⊎ (other ≡ name)
  name-only other h = by (bytes_eq other name) refl (sym (value other) ∙ h)
    where
      by : (b : Bool) → bytes_eq other name ≡ b → is_some (cond b (Some item) (entry_of old other)) ≡ true → (has_name old other ≡ true) ⊎ (other ≡ name)
      by true e h = inr (same-text other name e)
      by false e h = inl h

-- ---- numbers

below : (i count : ℕ) → (i ≡ count → ⊥) → i < count + 1 → i < count
below i count apart l = elim (cases_lt i count) as (λ _. i < count) [
  | inl less ↦ less
  | inr most ↦ absurd (apart (omega (arith, most, l)))
]

beyond : (j i count : ℕ) → (j ≡ i → ⊥) → {n : ℕ} → i + count + 1 ≡ n → n ≤ j + (count + 1) → n ≤ j + count
beyond j i count apart {n} place past = elim (cases_lt i j) as (λ _. n ≤ j + count) [
  | inl less ↦ omega (arith, less, place)
  | inr most ↦ absurd (apart (omega (arith, most, place, past)))
]

-- ---- names that were not there

-- without names before, a name is given
pub given-alone : {T : Type 0} (given : List (List ℕ)) (before : List (List ℕ × T)) (name : List ℕ) → before ≡ [] → (has_name before name ≡ true) ⊎ Contains given name → Contains given name
given-alone {T} given before name none known = elim known as (λ _. Contains given name) [
  | inl there ↦ let k : false ≡ true = subst (λ (b : List (List ℕ × T)). has_name b name ≡ true) none there in cc
  | inr is ↦ is
]

-- ---- needs

module _ (modules : List Entry) where
  -- the needs of the module of a name
  pub needs-here : (name : List ℕ) (m : Module) → entry_of modules name ≡ Some m → (need : List ℕ) → Contains m.needs need → Needs modules name need
  needs-here name m e need c = record { entry = (name, m); there = entry-found modules name m e; named = refl; needs = c }

  pub needs-of : AreOnce (names_in modules) → (name : List ℕ) (m : Module) → entry_of modules name ≡ Some m → (need : List ℕ) → Needs modules name need → Contains m.needs need
  needs-of once name m e need n = subst (λ (x : Entry). Contains x.1.needs need) (same-entry modules n.entry (name, m) once n.there (entry-found modules name m e) n.named) n.needs

  -- without a module there are none
  pub no-needs : (name : List ℕ) → entry_of modules name ≡ None → (need : List ℕ) → Needs modules name need → ⊥
  no-needs name e need n =
      let s = entry-some modules name (needs-named modules name need n) in
      let k : None ≡ Some s.0 = sym e ∙ s.1 in
      cc

  -- ---- what names reach

  -- what the module of a reached name needs is reached
  pub reached-more : (Is Old New : List ℕ → Type 0) (name : List ℕ) → ((other : List ℕ) → New other → Old other ⊎ (Old name × Needs modules name other)) → ((other : List ℕ) → Old other → IsReached modules Is other) → (other : List ℕ) → New other → IsReached modules Is other
  reached-more Is Old New name only before other h = elim (only other h) as (λ _. IsReached modules Is other) [
    | inl was ↦ before other was
    | inr needed ↦ elim (before name needed.0) as (λ _. IsReached modules Is other) [
      | inl given ↦ inr (name, given, last needed.1)
      | inr far ↦ inr (far.0, far.1, leads-leads far.2 (last needed.1))
    ]
  ]

  -- names that are among others reach what these reach
  pub reached-from : (Is Are : List ℕ → Type 0) → ((name : List ℕ) → Is name → Are name) → (name : List ℕ) → IsReached modules Is name → IsReached modules Are name
  reached-from Is Are within name reached = elim reached as (λ _. IsReached modules Are name) [
    | inl given ↦ inl (within name given)
    | inr far ↦ inr (far.0, within far.0 far.1, far.2)
  ]

  -- ---- one module after another

  -- what the first modules need is among these names
  abbrev pub AreNeedsOf : {T : Type 0} → ℕ → List (List ℕ × T) → Type 0
  AreNeedsOf count names = (i : ℕ) (entry : Entry) (need : List ℕ) → i < count → slice_get modules i ≡ Some entry → Contains entry.1.needs need → has_name names need ≡ true

  pub needs-more : {T : Type 0} (count : ℕ) (entry : Entry) (old new : List (List ℕ × T)) → slice_get modules count ≡ Some entry → ((other : List ℕ) → has_name old other ≡ true → has_name new other ≡ true) → ((other : List ℕ) → Contains entry.1.needs other → has_name new other ≡ true) → AreNeedsOf count old →
      AreNeedsOf (count + 1) new
  needs-more count entry old new at kept added before i e need l h c = elim (same-or-other i count) as (λ _. has_name new need ≡ true) [
    | inl same ↦ added need (subst (λ (x : Entry). Contains x.1.needs need) (at-same modules count e entry (ap (slice_get modules) (sym same) ∙ h) at) c)
    | inr apart ↦ kept need (before i e need (below i count apart l) h c)
  ]

  pub needs-all : {T : Type 0} (count : ℕ) (names : List (List ℕ × T)) → length modules ≤ count → AreNeedsOf count names → IsClosed modules names
  needs-all count names l are name need h n =
      let i = contains-at modules n.entry n.there in
      let within : i.0 < length modules = slice_get_within modules i.0 n.entry i.1 in
      are i.0 n.entry need (omega (arith, within, l)) i.1 n.needs

  -- ---- from the last module of an order to the first

  -- what the last modules need is among these names, so far as they are among them
  abbrev pub IsClosedBehind : {T : Type 0} → List (List ℕ) → ℕ → List (List ℕ × T) → Type 0
  IsClosedBehind order count names = (j : ℕ) (name need : List ℕ) → length order ≤ j + count → slice_get order j ≡ Some name → has_name names name ≡ true → Needs modules name need → has_name names need ≡ true

  module _ (order : List (List ℕ)) (ordered : IsOrder modules order) (acyclic : IsCycles modules None) where
    -- what one needs stands before it
    needed-before : (i j : ℕ) (name need : List ℕ) → slice_get order i ≡ Some name → slice_get order j ≡ Some need → Needs modules name need → j < i
    needed-before i j name need ei ej n = ordered.behind i j name need ei ej (
      n,
      λ back. elim back as (λ _. ⊥) [
        | inl same ↦ acyclic name (last (subst (Needs modules name) same n))
        | inr leads ↦ acyclic name (more n leads)
      ],
    )

    pub closed-more : {T : Type 0} (count i : ℕ) (name : List ℕ) (old new : List (List ℕ × T)) → i + count + 1 ≡ length order → slice_get order i ≡ Some name
        → ((other : List ℕ) → has_name old other ≡ true → has_name new other ≡ true)
        → (has_name old name ≡ true → (need : List ℕ) → Needs modules name need → has_name new need ≡ true)
        → ((other : List ℕ) → has_name new other ≡ true → (has_name old other ≡ true) ⊎ ((has_name old name ≡ true) × Needs modules name other))
        → IsClosedBehind order count old → IsClosedBehind order (count + 1) new
    closed-more count i name old new place at kept needs only before j other need past ej h n = elim (only other h) as (λ _. has_name new need ≡ true) [
      | inl was ↦ elim (same-or-other j i) as (λ _. has_name new need ≡ true) [
        | inl same ↦
            let is : other ≡ name = at-same order i other name (ap (slice_get order) (sym same) ∙ ej) at in
            needs (subst (λ x. has_name old x ≡ true) is was) need (subst (λ x. Needs modules x need) is n)
        | inr apart ↦ kept need (before j other need (beyond j i count apart place past) ej was n)
      ]
      | inr needed ↦ let less : j < i = needed-before i j name other at ej needed.1 in absurd (omega (arith, less, place, past))
    ]

    pub closed-all : {T : Type 0} (count : ℕ) (names : List (List ℕ × T)) → length order ≤ count → IsClosedBehind order count names → IsClosed modules names
    closed-all count names l closed name need h n =
        let j = contains-at order name ((ordered.all name).1 (needs-named modules name need n)) in
        closed j.0 name need (omega (arith, l)) j.1 h n
