-- The search from an index.
use Rattle.std.proofs.Common.{◌≡◌, ℕ, zero, suc, ◌+◌, ◌<◌, Bool, true, false, List, [], ◌∷◌, ◌++◌, Some, sym, ap, ◌∙◌, subst, inl, inr, length, arith}
use Rattle.std.specs.Prelude.{◌⊎◌, slice_get, slice_set}
use Rattle.std.proofs.lemmas.List.{length-set, length-append}
use Rattle.list_laws.proofs.Tests.{same-or-other}
use Rattle.index_graph.specs.Leading.{Leads, last, more}
use Rattle.index_graph.specs.Indices.{Has, Edges, Edge, Way, HasIndices, AreReached}
use Rattle.index_graph.proofs.Lists.{at-set-same, at-set-other, at-pushed, at-last, at-same, at-there, at-within, has-left, has-right, has-either}
use Rattle.index_graph.proofs.Ways.{way-edge}

-- what is seen has had its row put among what is to do
pub record IsSearch (edges : Edges) (start : ℕ) (seen : List Bool) (todo : List ℕ) : Type 0 where
  pub long : length seen ≡ length edges
  pub sound : (i : ℕ) → slice_get seen i ≡ Some true → Way edges start i
  pub due : (i : ℕ) → Has todo i → Way edges start i
  pub within : (i : ℕ) → Has todo i → i < length edges
  pub first : (slice_get seen start ≡ Some true) ⊎ Has todo start
  pub closed : (i j : ℕ) → slice_get seen i ≡ Some true → Edge edges i j → (slice_get seen j ≡ Some true) ⊎ Has todo j

-- the work that is left: what is to do, and the rows of what is not seen
abbrev pub unseen : List Bool → Edges → ℕ
unseen [] rows = 0
unseen (b ∷ seen) [] = 0
unseen (true ∷ seen) (row ∷ rows) = unseen seen rows
unseen (false ∷ seen) (row ∷ rows) = length row + unseen seen rows

pub unseen-set : (seen : List Bool) (edges : Edges) (i : ℕ) (row : List ℕ) → slice_get seen i ≡ Some false → slice_get edges i ≡ Some row → unseen (slice_set seen i true) edges + length row ≡ unseen seen edges
unseen-set [] edges zero row s e = cc
unseen-set [] edges (suc i) row s e = cc
unseen-set (b ∷ seen) [] zero row s e = cc
unseen-set (b ∷ seen) [] (suc i) row s e = cc
unseen-set (true ∷ seen) (r ∷ edges) zero row s e = cc
unseen-set (false ∷ seen) (r ∷ edges) zero row s e = let h : r ≡ row = cc in let k : length r ≡ length row = ap length h in omega arith
unseen-set (true ∷ seen) (r ∷ edges) (suc i) row s e = unseen-set seen edges i row s e
unseen-set (false ∷ seen) (r ∷ edges) (suc i) row s e = omega (arith, unseen-set seen edges i row s e)

module _ (edges : Edges) (start : ℕ) (seen : List Bool) (todo rest : List ℕ) (index : ℕ) (s : IsSearch edges start seen todo) (popped : todo ≡ rest ++ index ∷ []) where
  pub popped-has : Has todo index
  popped-has = (length rest, ap (λ z. slice_get z (length rest)) popped ∙ at-last rest index)

  pub kept-has : (i : ℕ) → Has rest i → Has todo i
  kept-has i h = subst (λ z. Has z i) (sym popped) (has-left rest (index ∷ []) i h)

  left : (i : ℕ) → Has todo i → Has rest i ⊎ (index ≡ i)
  left i h = elim (at-pushed rest index h.0 i (ap (λ z. slice_get z h.0) (sym popped) ∙ h.1)) as (λ _. Has rest i ⊎ (index ≡ i)) [ inl before ↦ inl (h.0, before) | inr end ↦ inr end.1 ]

  -- an index that was seen
  pub search-skip : slice_get seen index ≡ Some true → IsSearch edges start seen rest
  search-skip p = record {
    long = s.long;
    sound = s.sound;
    due = λ i h. s.due i (kept-has i h);
    within = λ i h. s.within i (kept-has i h);
    first = again start s.first;
    closed = λ i j q d. again j (s.closed i j q d);
  }
    where
      again : (i : ℕ) → (slice_get seen i ≡ Some true) ⊎ Has todo i → (slice_get seen i ≡ Some true) ⊎ Has rest i
      again i (inl q) = inl q
      again i (inr h) = elim (left i h) as (λ _. (slice_get seen i ≡ Some true) ⊎ Has rest i) [ inl k ↦ inr k | inr same ↦ inl (ap (slice_get seen) (sym same) ∙ p) ]

  -- one that was not
  pub search-see : (row : List ℕ) → HasIndices edges → slice_get edges index ≡ Some row → IsSearch edges start (slice_set seen index true) (rest ++ row)
  search-see row all e = record {
    long = length-set seen index true ∙ s.long;
    sound = λ i q. elim (same-or-other i index) as (λ _. Way edges start i) [ inl same ↦ subst (Way edges start) (sym same) way | inr other ↦ s.sound i (sym (at-set-other seen index i true other) ∙ q) ];
    due = λ i h. elim (has-either rest row i h) as (λ _. Way edges start i) [ inl before ↦ s.due i (kept-has i before) | inr new ↦ way-edge edges start index i way (row, e, new) ];
    within = λ i h. elim (has-either rest row i h) as (λ _. i < length edges) [ inl before ↦ s.within i (kept-has i before) | inr new ↦ all index i (row, e, new) ];
    first = again start s.first;
    closed = λ i j q d. elim (same-or-other i index) as (λ _. (slice_get (slice_set seen index true) j ≡ Some true) ⊎ Has (rest ++ row) j) [
      | inl same ↦
          let f : slice_get edges index ≡ Some d.0 = ap (slice_get edges) (sym same) ∙ d.1 in
          inr (has-right rest row j (subst (λ z. Has z j) (at-same edges index d.0 row f e) d.2))
      | inr other ↦ again j (s.closed i j (sym (at-set-other seen index i true other) ∙ q) d)
    ];
  }
    where
      way : Way edges start index
      way = s.due index popped-has

      here : slice_get (slice_set seen index true) index ≡ Some true
      here = at-set-same seen index true (let l : index < length edges = s.within index popped-has in omega (arith, l, s.long))

      again : (i : ℕ) → (slice_get seen i ≡ Some true) ⊎ Has todo i → (slice_get (slice_set seen index true) i ≡ Some true) ⊎ Has (rest ++ row) i
      again i (inl q) = elim (same-or-other i index) as (λ _. (slice_get (slice_set seen index true) i ≡ Some true) ⊎ Has (rest ++ row) i) [
        | inl same ↦ inl (ap (slice_get (slice_set seen index true)) same ∙ here)
        | inr other ↦ inl (at-set-other seen index i true other ∙ q)
      ]
      again i (inr h) = elim (left i h) as (λ _. (slice_get (slice_set seen index true) i ≡ Some true) ⊎ Has (rest ++ row) i) [
        | inl k ↦ inr (has-left rest row i k)
        | inr same ↦ inl (ap (slice_get (slice_set seen index true)) (sym same) ∙ here)
      ]

-- one that was not, with less to do
pub record IsSmaller (edges : Edges) (start : ℕ) (seen new_seen : List Bool) (todo new_todo : List ℕ) : Type 0 where
  pub search : IsSearch edges start new_seen new_todo
  pub smaller : length new_todo + unseen new_seen edges < length todo + unseen seen edges

pub search-step : (edges : Edges) (start : ℕ) (seen new_seen : List Bool) (todo rest new_todo : List ℕ) (index : ℕ) → IsSearch edges start seen todo → todo ≡ rest ++ index ∷ [] → HasIndices edges → slice_get seen index ≡ Some false → new_seen ≡ slice_set seen index true → ((row : List ℕ) → slice_get edges index ≡ Some row → new_todo ≡ rest ++ row) → IsSmaller edges start seen new_seen todo new_todo
search-step edges start seen new_seen todo rest new_todo index s popped all u n t =
    let r = at-there edges index (s.within index (popped-has edges start seen todo rest index s popped)) in
    let q : IsSearch edges start (slice_set seen index true) (rest ++ r.0) = search-see edges start seen todo rest index s popped r.0 all r.1 in
    record {
      search = subst (λ z. IsSearch edges start z new_todo) (sym n) (subst (IsSearch edges start (slice_set seen index true)) (sym (t r.0 r.1)) q);
      smaller = omega (arith, unseen-set seen edges index r.0 u r.1, ap (λ z. unseen z edges) n, ap length (t r.0 r.1), length-append rest r.0, ap length popped, length-append rest (index ∷ []));
    }

-- with nothing to do, all is seen
pub search-done : (edges : Edges) (start : ℕ) (seen : List Bool) (todo : List ℕ) → IsSearch edges start seen todo → length todo ≡ 0 → AreReached edges start seen
search-done edges start seen todo s none = record {
  long = s.long;
  sound = s.sound;
  all = λ i w. reached i w;
}
  where
    seen-or : (i : ℕ) → (slice_get seen i ≡ Some true) ⊎ Has todo i → slice_get seen i ≡ Some true
    seen-or i (inl q) = q
    seen-or i (inr h) = let l : h.0 < length todo = at-within todo h.0 i h.1 in absurd (omega arith)

    onward : (i j : ℕ) → slice_get seen i ≡ Some true → Leads (Edge edges) i j → slice_get seen j ≡ Some true
    onward i j q (last e) = seen-or j (s.closed i j q e)
    onward i j q (more {b = k} e l) = onward k j (seen-or k (s.closed i k q e)) l

    reached : (i : ℕ) → Way edges start i → slice_get seen i ≡ Some true
    reached i (inl same) = ap (slice_get seen) (sym same) ∙ seen-or start s.first
    reached i (inr l) = onward start i (seen-or start s.first) l
