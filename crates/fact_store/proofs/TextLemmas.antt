-- The texts after one is put, or removed.
use Rattle.std.proofs.Common.{◌≡◌, ◌≢◌, ℕ, zero, suc, Bool, true, false, List, [], ◌∷◌, ◌++◌, Some, None, refl, sym, ap, ◌∙◌, subst, cond, inl, inr, map}
use Rattle.std.specs.Prelude.{◌⊎◌, slice_get, slice_set, remove}
use Rattle.std.specs.FinMap.{get, insert, find, get-from_entries, get-insert, get-remove, same_map, nat_cmp-IsAntisymmetric, slice_cmp-IsAntisymmetric}
use Rattle.std.specs.FinMap as map_of
use Rattle.std.specs.Cmp.Lexicographic.{nat_list_cmp_total}
use Rattle.list_laws.proofs.Lists.{pushed-cases}
use Rattle.fact_store.specs.declared.slot.Slot.{Slot}
use Rattle.fact_values.specs.Names.{name_cmp, name_eq, Texts}
use Rattle.fact_store.specs.Slots.{named_texts, texts_of, AreDistinct, HasNoSlot}
use Rattle.fact_values.proofs.NameLemmas.{true_or_false, same_name, name_eq-same}
use Rattle.fact_store.proofs.SlotLemmas.{distinct-tail, none_found}

shadowed : {A : Type 0} (b : Bool) (u v w : A) → cond b u w ≡ cond b u (cond b v w)
shadowed true u v w = refl
shadowed false u v w = refl

swapped : {A : Type 0} (a b : Bool) (u v w : A) → (a ≡ true → b ≡ true → ⊥) → cond a u (cond b v w) ≡ cond b v (cond a u w)
swapped true true u v w h = absurd (h refl refl)
swapped true false u v w h = refl
swapped false b u v w h = refl

-- the index that an index has after the one at i was removed
pub skip : ℕ → ℕ → ℕ
skip zero j = suc j
skip (suc i) zero = zero
skip (suc i) (suc j) = suc (skip i j)

pub skip-injective : (i a b : ℕ) → skip i a ≡ skip i b → a ≡ b
unfolding skip
skip-injective zero a b e = cc
skip-injective (suc i) zero zero e = refl
skip-injective (suc i) zero (suc b) e = cc
skip-injective (suc i) (suc a) zero e = cc
skip-injective (suc i) (suc a) (suc b) e = ap suc (skip-injective i a b (cc e))

-- it is not the one that was removed
pub skip-other : (i j : ℕ) → skip i j ≢ i
unfolding skip
skip-other zero j e = cc
skip-other (suc i) zero e = cc
skip-other (suc i) (suc j) e = skip-other i j (cc e)

pub slice_get-remove : {A : Type 0} (xs : List A) (i j : ℕ) → slice_get (remove xs i) j ≡ slice_get xs (skip i j)
unfolding skip
slice_get-remove [] zero j = refl
slice_get-remove [] (suc i) zero = refl
slice_get-remove [] (suc i) (suc j) = refl
slice_get-remove (x ∷ xs) zero j = refl
slice_get-remove (x ∷ xs) (suc i) zero = refl
slice_get-remove (x ∷ xs) (suc i) (suc j) = slice_get-remove xs i j

module _ {Own F : Type 0} where
  find_set : (slots : List (Slot Own F)) (i : ℕ) (x y : Slot Own F) (q : List ℕ) → AreDistinct slots → slice_get slots i ≡ Some x → y.name ≡ x.name → find name_cmp q (named_texts (slice_set slots i y)) ≡ cond (name_eq q x.name) (Some y.bytes) (find name_cmp q (named_texts slots))
  find_set [] i x y q d e n = cc
  find_set (z ∷ slots) zero x y q d e n =
      let h : z ≡ x = cc in
      ap (λ (m : List ℕ). cond (name_eq q m) (Some y.bytes) (find name_cmp q (named_texts slots))) n
      ∙ shadowed (name_eq q x.name) (Some y.bytes) (Some z.bytes) (find name_cmp q (named_texts slots))
      ∙ ap (λ (m : List ℕ). cond (name_eq q x.name) (Some y.bytes) (cond (name_eq q m) (Some z.bytes) (find name_cmp q (named_texts slots)))) (ap (λ (s : Slot Own F). s.name) (sym h))
  find_set (z ∷ slots) (suc i) x y q d e n =
      ap (cond (name_eq q z.name) (Some z.bytes)) (find_set slots i x y q (distinct-tail z slots d) e n)
      ∙ swapped (name_eq q z.name) (name_eq q x.name) (Some z.bytes) (Some y.bytes) (find name_cmp q (named_texts slots))
      (λ a b. let h : zero ≡ suc i = d zero (suc i) z x refl e (sym (same_name q z.name a) ∙ same_name q x.name b) in cc h)

  find_push : (slots : List (Slot Own F)) (y : Slot Own F) (q : List ℕ) → HasNoSlot slots y.name → find name_cmp q (named_texts (slots ++ y ∷ [])) ≡ cond (name_eq q y.name) (Some y.bytes) (find name_cmp q (named_texts slots))
  find_push [] y q h = refl
  find_push (z ∷ slots) y q h =
      ap (cond (name_eq q z.name) (Some z.bytes)) (find_push slots y q (λ i s e. h (suc i) s e))
      ∙ swapped (name_eq q z.name) (name_eq q y.name) (Some z.bytes) (Some y.bytes) (find name_cmp q (named_texts slots))
      (λ a b. let k : true ≡ false = sym (name_eq-same y.name z.name (sym (same_name q y.name b) ∙ same_name q z.name a)) ∙ h zero z refl in cc k)

  find_remove : (slots : List (Slot Own F)) (i : ℕ) (x : Slot Own F) (q : List ℕ) → AreDistinct slots → slice_get slots i ≡ Some x → find name_cmp q (named_texts (remove slots i)) ≡ cond (name_eq q x.name) None (find name_cmp q (named_texts slots))
  find_remove [] i x q d e = cc
  find_remove (z ∷ slots) zero x q d e = elim (true_or_false (name_eq q z.name)) as (λ _. find name_cmp q (named_texts slots) ≡ cond (name_eq q x.name) None (cond (name_eq q z.name) (Some z.bytes) (find name_cmp q (named_texts slots)))) [
    | inl same ↦
        let h : z ≡ x = cc in
        let gone : HasNoSlot slots q = λ j s g. other j s g (true_or_false (name_eq q s.name)) (same_name q z.name same) in
        none_found slots q gone ∙ sym (ap (λ b. cond b None (cond (name_eq q z.name) (Some z.bytes) (find name_cmp q (named_texts slots)))) (ap (λ (s : Slot Own F). name_eq q s.name) (sym h) ∙ same))
    | inr apart ↦
        let h : z ≡ x = cc in
        sym (ap (λ b. cond b None (cond (name_eq q z.name) (Some z.bytes) (find name_cmp q (named_texts slots)))) (ap (λ (s : Slot Own F). name_eq q s.name) (sym h) ∙ apart)
        ∙ ap (λ b. cond b (Some z.bytes) (find name_cmp q (named_texts slots))) apart)
  ]
    where
      other : (j : ℕ) (s : Slot Own F) → slice_get slots j ≡ Some s → (name_eq q s.name ≡ true) ⊎ (name_eq q s.name ≡ false) → q ≡ z.name → name_eq q s.name ≡ false
      other j s g (inl same) m = let k : zero ≡ suc j = d zero (suc j) z s refl g (sym m ∙ same_name q s.name same) in cc k
      other j s g (inr apart) m = apart
  find_remove (z ∷ slots) (suc i) x q d e =
      ap (cond (name_eq q z.name) (Some z.bytes)) (find_remove slots i x q (distinct-tail z slots d) e)
      ∙ swapped (name_eq q z.name) (name_eq q x.name) (Some z.bytes) None (find name_cmp q (named_texts slots))
      (λ a b. let h : zero ≡ suc i = d zero (suc i) z x refl e (sym (same_name q z.name a) ∙ same_name q x.name b) in cc h)

  by_finds : (slots : List (Slot Own F)) (m : Texts) → ((q : List ℕ) → find name_cmp q (named_texts slots) ≡ get m q) → texts_of slots ≡ m
  by_finds slots m h = same_map nat_list_cmp_total (slice_cmp-IsAntisymmetric nat_cmp-IsAntisymmetric) (texts_of slots) m (λ q. get-from_entries nat_list_cmp_total (named_texts slots) q ∙ h q)

  pub texts_of-set : (slots : List (Slot Own F)) (i : ℕ) (x y : Slot Own F) → AreDistinct slots → slice_get slots i ≡ Some x → y.name ≡ x.name → texts_of (slice_set slots i y) ≡ insert (texts_of slots) x.name y.bytes
  texts_of-set slots i x y d e n = by_finds (slice_set slots i y) (insert (texts_of slots) x.name y.bytes) (λ q.
      find_set slots i x y q d e n ∙ ap (cond (name_eq q x.name) (Some y.bytes)) (sym (get-from_entries nat_list_cmp_total (named_texts slots) q)) ∙ sym (get-insert nat_list_cmp_total (texts_of slots) x.name y.bytes q))

  pub texts_of-push : (slots : List (Slot Own F)) (y : Slot Own F) → HasNoSlot slots y.name → texts_of (slots ++ y ∷ []) ≡ insert (texts_of slots) y.name y.bytes
  texts_of-push slots y h = by_finds (slots ++ y ∷ []) (insert (texts_of slots) y.name y.bytes) (λ q.
      find_push slots y q h ∙ ap (cond (name_eq q y.name) (Some y.bytes)) (sym (get-from_entries nat_list_cmp_total (named_texts slots) q)) ∙ sym (get-insert nat_list_cmp_total (texts_of slots) y.name y.bytes q))

  pub texts_of-remove : (slots : List (Slot Own F)) (i : ℕ) (x : Slot Own F) → AreDistinct slots → slice_get slots i ≡ Some x → texts_of (remove slots i) ≡ map_of.remove (texts_of slots) x.name
  texts_of-remove slots i x d e = by_finds (remove slots i) (map_of.remove (texts_of slots) x.name) (λ q.
      find_remove slots i x q d e ∙ ap (cond (name_eq q x.name) None) (sym (get-from_entries nat_list_cmp_total (named_texts slots) q)) ∙ sym (get-remove nat_list_cmp_total (texts_of slots) x.name q))

  -- removing a name that is not there changes nothing
  pub texts_of-absent : (slots : List (Slot Own F)) (name : List ℕ) → HasNoSlot slots name → texts_of slots ≡ map_of.remove (texts_of slots) name
  texts_of-absent slots name h = by_finds slots (map_of.remove (texts_of slots) name) (λ q. absent q (true_or_false (name_eq q name)) ∙ ap (cond (name_eq q name) None) (sym (get-from_entries nat_list_cmp_total (named_texts slots) q)) ∙ sym (get-remove nat_list_cmp_total (texts_of slots) name q))
    where
      absent : (q : List ℕ) → (name_eq q name ≡ true) ⊎ (name_eq q name ≡ false) → find name_cmp q (named_texts slots) ≡ cond (name_eq q name) None (find name_cmp q (named_texts slots))
      absent q (inl same) = none_found slots q (subst (HasNoSlot slots) (sym (same_name q name same)) h) ∙ sym (ap (λ b. cond b None (find name_cmp q (named_texts slots))) same)
      absent q (inr apart) = sym (ap (λ b. cond b None (find name_cmp q (named_texts slots))) apart)

  pub AreDistinct-push : (slots : List (Slot Own F)) (y : Slot Own F) → AreDistinct slots → HasNoSlot slots y.name → AreDistinct (slots ++ y ∷ [])
  AreDistinct-push slots y d h i j a b p q n = elim (pushed-cases slots y a i p) as (λ _. i ≡ j) [
    | inl ia ↦ elim (pushed-cases slots y b j q) as (λ _. i ≡ j) [
      | inl jb ↦ d i j a b ia jb n
      | inr jl ↦ let k : true ≡ false = sym (name_eq-same y.name a.name (ap (λ (s : Slot Own F). s.name) jl.1 ∙ sym n)) ∙ h i a ia in cc k
    ]
    | inr il ↦ elim (pushed-cases slots y b j q) as (λ _. i ≡ j) [
      | inl jb ↦ let k : true ≡ false = sym (name_eq-same y.name b.name (ap (λ (s : Slot Own F). s.name) il.1 ∙ n)) ∙ h j b jb in cc k
      | inr jl ↦ il.0 ∙ sym jl.0
    ]
  ]

  pub AreDistinct-remove : (slots : List (Slot Own F)) (i : ℕ) → AreDistinct slots → AreDistinct (remove slots i)
  AreDistinct-remove slots i d a b x y p q n = skip-injective i a b (d (skip i a) (skip i b) x y (sym (slice_get-remove slots i a) ∙ p) (sym (slice_get-remove slots i b) ∙ q) n)

  -- what is left stood at an index
  pub left_at : (slots : List (Slot Own F)) (i j : ℕ) (z : Slot Own F) → slice_get (remove slots i) j ≡ Some z → (k : ℕ) × (slice_get slots k ≡ Some z)
  left_at slots i j z e = (skip i j, sym (slice_get-remove slots i j) ∙ e)

  -- names alone tell indices apart
  named_at : (a b : List (Slot Own F)) (j : ℕ) (z : Slot Own F) → map (λ (s : Slot Own F). s.name) a ≡ map (λ (s : Slot Own F). s.name) b → slice_get a j ≡ Some z → (w : Slot Own F) × (slice_get b j ≡ Some w) × (w.name ≡ z.name)
  named_at [] b j z e g = cc
  named_at (x ∷ a) [] j z e g = cc
  named_at (x ∷ a) (y ∷ b) zero z e g = let h : x ≡ z = cc in let o : x.name ≡ y.name = cc e in (y, refl, sym o ∙ ap (λ (s : Slot Own F). s.name) h)
  named_at (x ∷ a) (y ∷ b) (suc j) z e g = let o : map (λ (s : Slot Own F). s.name) a ≡ map (λ (s : Slot Own F). s.name) b = cc e in named_at a b j z o g

  pub AreDistinct-names : (a b : List (Slot Own F)) → map (λ (s : Slot Own F). s.name) a ≡ map (λ (s : Slot Own F). s.name) b → AreDistinct b → AreDistinct a
  AreDistinct-names a b e d i j x y p q n =
      let u = named_at a b i x e p in let v = named_at a b j y e q in d i j u.0 v.0 u.1 v.1 (u.2 ∙ n ∙ sym v.2)

  pub names-set : (slots : List (Slot Own F)) (i : ℕ) (x y : Slot Own F) → slice_get slots i ≡ Some x → y.name ≡ x.name → map (λ (s : Slot Own F). s.name) (slice_set slots i y) ≡ map (λ (s : Slot Own F). s.name) slots
  names-set [] i x y e n = cc
  names-set (z ∷ slots) zero x y e n = let h : z ≡ x = cc in ap (λ m. m ∷ map (λ (s : Slot Own F). s.name) slots) (n ∙ ap (λ (s : Slot Own F). s.name) (sym h))
  names-set (z ∷ slots) (suc i) x y e n = ap (λ ms. z.name ∷ ms) (names-set slots i x y e n)
