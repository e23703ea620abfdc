-- What is owed after texts change is at most what was owed, and what is dirty.
use Rattle.std.proofs.Common.{◌≡◌, ℕ, zero, suc, ◌+◌, ◌≤◌, ◌⊎◌, Bool, true, false, List, [], ◌∷◌, ◌++◌, Option, Some, None, refl, sym, ap, ◌∙◌, subst, cond, inl, inr, map, length, arith}
use Rattle.std.specs.Prelude.{◌&&◌, slice_get, slice_set, remove, count_by, sum_by, not}
use Rattle.std.specs.Ordering.{is_eq}
use Rattle.std.specs.declared.cmp.Ordering.TheVariants.{Less, Equal, Greater}
use Rattle.std.specs.FinMap.{get, keys, entries, find, put, get-from_entries, get-entries, entries-insert, empty, len, len-entries, len-empty}
use Rattle.std.specs.FinMap.Entries.{by_order}
use Rattle.std.specs.Cmp.Lexicographic.{nat_list_cmp_total}
use Rattle.std.proofs.lemmas.List.Sums.{sum_by-cons, count_by-le-length}
use Rattle.std.proofs.lemmas.Option.{slice_get_within}
use Rattle.list_laws.proofs.Lists.{pushed-cases}
use Rattle.list_laws.proofs.Tests.{and-left, and-right}
use Rattle.fact_store.specs.declared.slot.Slot.{Slot}
use Rattle.fact_store.specs.declared.slot.Kept.{Kept}
use Rattle.fact_values.specs.Names.{name_cmp, name_eq, Texts}
use Rattle.fact_values.specs.States.{State, same_given}
use Rattle.fact_values.specs.Values.{given_in, same_text, is_dirty, dirty}
use Rattle.fact_store.specs.Given.{states}
use Rattle.fact_store.specs.Slots.{named_texts, texts_of, source, AreDistinct, HasNoSlot, IsHandedOn, CarriesOver, is_made_from, is_settled, owed}
use Rattle.fact_values.proofs.NameLemmas.{true_or_false, same_name, name_eq-same}
use Rattle.fact_store.proofs.Pairs.{same_given-trans}
use Rattle.std.proofs.lemmas.List.{length-map}
use Rattle.std.proofs.lemmas.Bool.{and_from}
use Rattle.fact_store.proofs.SlotLemmas.{distinct-tail, none_found, text_of-slot, slot_with}
use Rattle.fact_store.proofs.KeepLemmas.{set_cases}
use Rattle.fact_store.proofs.TextLemmas.{left_at}

one : Bool → ℕ
one b = cond b 1 0

count_put : (p : List ℕ → Bool) (k v : List ℕ) (es : List (List ℕ × List ℕ)) → find name_cmp k es ≡ None → count_by p (map (λ (e : List ℕ × List ℕ). e.0) (put name_cmp k v es)) ≡ cond (p k) 1 0 + count_by p (map (λ (e : List ℕ × List ℕ). e.0) es)
count_put p k v [] h = sum_by-cons (λ x. cond (p x) 1 0) k []
count_put p k v (e ∷ es) h =
    elim (name_cmp k e.0) as (λ r. name_cmp k e.0 ≡ r → count_by p (map (λ (e : List ℕ × List ℕ). e.0) (by_order r ((k, v) ∷ e ∷ es) ((e.0, v) ∷ es) (e ∷ put name_cmp k v es))) ≡ cond (p k) 1 0 + count_by p (map (λ (e : List ℕ × List ℕ). e.0) (e ∷ es))) [
      | Less ↦ λ r. sum_by-cons (λ x. cond (p x) 1 0) k (map (λ (e : List ℕ × List ℕ). e.0) (e ∷ es))
      | Equal ↦ λ r. let n : ◌≡◌ {A = Option (List ℕ)} (Some e.1) None = sym (ap (λ o. cond (is_eq o) (Some e.1) (find name_cmp k es)) r) ∙ h in cc n
      | Greater ↦ λ r.
          let n = sym (ap (λ o. cond (is_eq o) (Some e.1) (find name_cmp k es)) r) ∙ h in
          omega (arith, sum_by-cons (λ x. cond (p x) 1 0) e.0 (map (λ (e : List ℕ × List ℕ). e.0) (put name_cmp k v es)), sum_by-cons (λ x. cond (p x) 1 0) e.0 (map (λ (e : List ℕ × List ℕ). e.0) es), count_put p k v es n)
    ] refl

no_count : (p : List ℕ → Bool) (es : List (List ℕ × List ℕ)) → length es ≡ 0 → count_by p (map (λ (e : List ℕ × List ℕ). e.0) es) ≡ 0
no_count p [] e = refl
no_count p (x ∷ es) e = absurd (omega arith)

module _ {Own F : Type 0} where
  -- the names of texts are those of the slots
  pub count_keys : (p : List ℕ → Bool) (slots : List (Slot Own F)) → AreDistinct slots → count_by p (keys (texts_of slots)) ≡ count_by (λ (s : Slot Own F). p s.name) slots
  count_keys p [] d = no_count p (entries (empty {X = List ℕ} {R = name_cmp})) (sym (len-entries (empty {X = List ℕ} {R = name_cmp})) ∙ len-empty name_cmp (List ℕ))
  count_keys p (x ∷ slots) d =
      let m = texts_of slots in
      let fresh : find name_cmp x.name (entries m) ≡ None = sym (get-entries m x.name) ∙ get-from_entries nat_list_cmp_total (named_texts slots) x.name ∙ none_found slots x.name gone in
      let a = ap (λ (es : List (List ℕ × List ℕ)). count_by p (map (λ (e : List ℕ × List ℕ). e.0) es)) (entries-insert nat_list_cmp_total m x.name x.bytes) in
      let b = count_put p x.name x.bytes (entries m) fresh in
      omega (arith, a, b, count_keys p slots (distinct-tail x slots d), sum_by-cons (λ (s : Slot Own F). cond (p s.name) 1 0) x slots)
    where
      gone : HasNoSlot slots x.name
      gone j s g = elim (true_or_false (name_eq x.name s.name)) as (λ _. name_eq x.name s.name ≡ false) [
        | inl same ↦ let k : zero ≡ suc j = d zero (suc j) x s refl g (same_name x.name s.name same) in cc k
        | inr apart ↦ apart
      ]

-- there are as many names as slots
all_count : {A : Type 0} (xs : List A) → count_by (λ x. true) xs ≡ length xs
all_count [] = refl
all_count (x ∷ xs) = omega (arith, all_count xs, sum_by-cons (λ y. cond true 1 0) x xs)

pub len-texts_of : {Own F : Type 0} (slots : List (Slot Own F)) → AreDistinct slots → len (texts_of slots) ≡ length slots
len-texts_of slots d =
    let m = texts_of slots in
    omega (arith, len-entries m, length-map (entries m) (λ (e : List ℕ × List ℕ). e.0), all_count (keys m), all_count slots, count_keys (λ x. true) slots d)

-- sums over one list
sum_split : {A : Type 0} (f g h : A → ℕ) (xs : List A) → ((j : ℕ) (x : A) → slice_get xs j ≡ Some x → f x ≤ g x + h x) → sum_by f xs ≤ sum_by g xs + sum_by h xs
sum_split f g h [] p = omega arith
sum_split f g h (x ∷ xs) p =
    omega (arith, sum_by-cons f x xs, sum_by-cons g x xs, sum_by-cons h x xs, p zero x refl, sum_split f g h xs (λ j a u. p (suc j) a u))

sum_none : {A : Type 0} (f : A → ℕ) (xs : List A) → ((j : ℕ) (x : A) → slice_get xs j ≡ Some x → f x ≡ 0) → sum_by f xs ≡ 0
sum_none f [] p = refl
sum_none f (x ∷ xs) p = omega (arith, sum_by-cons f x xs, p zero x refl, sum_none f xs (λ j a u. p (suc j) a u))

module _ {Own F : Type 0} where
  itself : (x : Slot Own F) → IsHandedOn x x
  itself x kept e = (kept, e, refl, refl)

  onward : (x y z : Slot Own F) → IsHandedOn x y → IsHandedOn y z → IsHandedOn x z
  onward x y z f g kept e = let u = f kept e in let v = g u.0 u.1 in (v.0, v.1, v.2 ∙ u.2, v.3 ∙ u.3)

  pub carries-same : (slots : List (Slot Own F)) → AreDistinct slots → CarriesOver slots slots
  carries-same slots d = record {
    each = λ i j x y p q n.
        let e : i ≡ j = d i j x y p q (sym n) in
        let k : ◌≡◌ {A = Option (Slot Own F)} (Some x) (Some y) = sym p ∙ ap (slice_get slots) e ∙ q in let s : x ≡ y = cc in
        subst (IsHandedOn x) s (itself x);
  }

  -- where each name with a slot before and after has one in between
  pub carries-through : (a b c : List (Slot Own F)) → CarriesOver a b → CarriesOver b c → ((i j : ℕ) (x z : Slot Own F) → slice_get a i ≡ Some x → slice_get c j ≡ Some z → z.name ≡ x.name → (k : ℕ) × (y : Slot Own F) × (slice_get b k ≡ Some y) × (y.name ≡ x.name)) → CarriesOver a c
  carries-through a b c f g h = record {
    each = λ i j x z p q n.
        let m = h i j x z p q n in
        onward x m.1 z (f.each i m.0 x m.1 p m.2 m.3) (g.each m.0 j m.1 z m.2 q (n ∙ sym m.3));
  }

  -- one slot gets another text
  pub carries-set_text : (slots : List (Slot Own F)) (i : ℕ) (x y : Slot Own F) → AreDistinct slots → slice_get slots i ≡ Some x → y.name ≡ x.name → IsHandedOn x y → CarriesOver slots (slice_set slots i y)
  carries-set_text slots i x y d at n handed = record {
    each = λ a b u v p q m. elim (set_cases slots i b y v (slice_get_within slots i x at) q) as (λ _. IsHandedOn u v) [
      | inl this ↦
          let e : a ≡ i = d a i u x p at (sym m ∙ ap (λ (z : Slot Own F). z.name) (sym this.1) ∙ n) in
          let k : ◌≡◌ {A = Option (Slot Own F)} (Some u) (Some x) = sym p ∙ ap (slice_get slots) e ∙ at in let s : u ≡ x = cc in
          subst (λ (z : Slot Own F). IsHandedOn z v) (sym s) (subst (IsHandedOn x) this.1 handed)
      | inr past ↦ (carries-same slots d).each a b u v p past.1 m
    ];
  }

  -- one slot is removed
  pub carries-remove : (slots : List (Slot Own F)) (i : ℕ) → AreDistinct slots → CarriesOver slots (remove slots i)
  carries-remove slots i d = record { each = λ a b u v p q m. let l = left_at slots i b v q in (carries-same slots d).each a l.0 u v p l.1 m }

  -- one slot is new
  pub carries-push : (slots : List (Slot Own F)) (y : Slot Own F) → AreDistinct slots → HasNoSlot slots y.name → CarriesOver slots (slots ++ y ∷ [])
  carries-push slots y d h = record {
    each = λ a b u v p q m. elim (pushed-cases slots y v b q) as (λ _. IsHandedOn u v) [
      | inl past ↦ (carries-same slots d).each a b u v p past m
      | inr last ↦ let k : true ≡ false = sym (name_eq-same y.name u.name (ap (λ (z : Slot Own F). z.name) last.1 ∙ m)) ∙ h a u p in cc k
    ];
  }

  -- how many slots of a name pass a test
  abbrev named_count : (Slot Own F → Bool) → List (Slot Own F) → List ℕ → ℕ
  named_count p slots name = count_by (λ (s : Slot Own F). name_eq name s.name && p s) slots

  one_of-name : (b : Bool) (name : List ℕ) (slots : List (Slot Own F)) → AreDistinct slots → count_by (λ (s : Slot Own F). name_eq s.name name && b) slots ≤ cond b 1 0
  one_of-name b name [] d = omega arith
  one_of-name b name (x ∷ slots) d = by (true_or_false (name_eq x.name name)) (one_of-name b name slots (distinct-tail x slots d))
    where
      apart : name_eq x.name name ≡ true → (j : ℕ) (s : Slot Own F) → slice_get slots j ≡ Some s → (name_eq s.name name ≡ true) ⊎ (name_eq s.name name ≡ false) → name_eq s.name name ≡ false
      apart same j s g (inl too) = let k : zero ≡ suc j = d zero (suc j) x s refl g (same_name x.name name same ∙ sym (same_name s.name name too)) in cc k
      apart same j s g (inr other) = other

      by : (name_eq x.name name ≡ true) ⊎ (name_eq x.name name ≡ false) → count_by (λ (s : Slot Own F). name_eq s.name name && b) slots ≤ cond b 1 0 → count_by (λ (s : Slot Own F). name_eq s.name name && b) (x ∷ slots) ≤ cond b 1 0
      by (inl same) rest =
          let here : ◌≡◌ {A = ℕ} (cond (name_eq x.name name && b) 1 0) (cond b 1 0) = ap (λ t. cond (t && b) 1 0) same in
          let none : count_by (λ (s : Slot Own F). name_eq s.name name && b) slots ≡ 0 = sum_none (λ (s : Slot Own F). cond (name_eq s.name name && b) 1 0) slots
          (λ j s g. ap (λ t. cond (t && b) 1 0) (apart same j s g (true_or_false (name_eq s.name name)))) in
          omega (arith, sum_by-cons (λ (s : Slot Own F). cond (name_eq s.name name && b) 1 0) x slots, here, none)
      by (inr other) rest =
          let here : ◌≡◌ {A = ℕ} (cond (name_eq x.name name && b) 1 0) 0 = ap (λ t. cond (t && b) 1 0) other in
          omega (arith, sum_by-cons (λ (s : Slot Own F). cond (name_eq s.name name && b) 1 0) x slots, here, rest)

  -- over slots of distinct names these counts are no more than one for each that passes
  counts_of-names : (p : Slot Own F → Bool) (xs ys : List (Slot Own F)) → AreDistinct ys → sum_by (λ (y : Slot Own F). named_count p xs y.name) ys ≤ count_by p xs
  counts_of-names p [] ys d = omega (arith, sum_none (λ (y : Slot Own F). named_count p [] y.name) ys (λ j y g. refl))
  counts_of-names p (x ∷ xs) ys d =
      omega (
        arith,
        sum_by-cons (λ (s : Slot Own F). cond (p s) 1 0) x xs,
        one_of-name (p x) x.name ys d,
        counts_of-names p xs ys d,
        sum_split (λ (y : Slot Own F). named_count p (x ∷ xs) y.name) (λ (y : Slot Own F). cond (name_eq y.name x.name && p x) 1 0) (λ (y : Slot Own F). named_count p xs y.name) ys
            (λ j y g. omega (arith, sum_by-cons (λ (s : Slot Own F). cond (name_eq y.name s.name && p s) 1 0) x xs)),
      )

  -- one that passes is counted
  counted_at : (p : Slot Own F → Bool) (slots : List (Slot Own F)) (i : ℕ) (x : Slot Own F) (name : List ℕ) → slice_get slots i ≡ Some x → x.name ≡ name → cond (p x) 1 0 ≤ named_count p slots name
  counted_at p [] i x name at n = cc
  counted_at p (z ∷ slots) zero x name at n =
      let s : z ≡ x = cc in
      let here : ◌≡◌ {A = ℕ} (cond (name_eq name z.name && p z) 1 0) (cond (p x) 1 0) =
      ap (λ t. cond (t && p z) 1 0) (name_eq-same name z.name (sym n ∙ ap (λ (w : Slot Own F). w.name) (sym s))) ∙ ap (λ (w : Slot Own F). cond (p w) 1 0) s in
      omega (arith, sum_by-cons (λ (w : Slot Own F). cond (name_eq name w.name && p w) 1 0) z slots, here)
  counted_at p (z ∷ slots) (suc i) x name at n =
      omega (arith, sum_by-cons (λ (w : Slot Own F). cond (name_eq name w.name && p w) 1 0) z slots, counted_at p slots i x name at n)

module _ {Own F : Type 0} (own_of : List ℕ → List ℕ → Own) (needs_of : Own → Option (List (List ℕ))) (fact_of : List ℕ → Own → List (List ℕ × State F) → F) (same : F → F → Bool) (same_trans : (a b c : F) → same a b ≡ true → same b c ≡ true → same a c ≡ true) where
  -- a settled fact stays settled where its name is not dirty
  settled-clean : (old new : Texts) (x y : Slot Own F) → y.name ≡ x.name → IsHandedOn x y → get old x.name ≡ Some x.bytes → get new x.name ≡ Some y.bytes → is_settled own_of needs_of fact_of same old x ≡ true → is_dirty own_of needs_of fact_of same old new x.name ≡ false → is_settled own_of needs_of fact_of same new y ≡ true
  settled-clean old new x y n handed gx gy settled clean = by_kept x.kept refl
    where
      both : (b : Bool) → not b ≡ false → b ≡ true
      both true e = refl
      both false e = cc

      alike : (same_text own_of needs_of fact_of (get old x.name) (get new x.name) && same_given same (given_in own_of needs_of fact_of old x.name) (given_in own_of needs_of fact_of new x.name)) ≡ true
      alike = both _ clean

      bytes : x.bytes ≡ y.bytes
      bytes = same_name x.bytes y.bytes (sym (ap (λ o. same_text own_of needs_of fact_of o (get new x.name)) gx ∙ ap (same_text own_of needs_of fact_of (Some x.bytes)) gy) ∙ and-left _ _ alike)

      by_kept : (k : Option (Kept F)) → x.kept ≡ k → is_settled own_of needs_of fact_of same new y ≡ true
      by_kept None e = let h : false ≡ true = sym (ap (is_made_from own_of needs_of fact_of same old x.name x.bytes) e) ∙ settled in cc h
      by_kept (Some kept) e =
          let h = handed kept e in
          let t : (name_eq (source kept x.bytes) x.bytes && same_given same (states kept.given) (given_in own_of needs_of fact_of old x.name)) ≡ true = sym (ap (is_made_from own_of needs_of fact_of same old x.name x.bytes) e) ∙ settled in
          let s : source h.0 y.bytes ≡ y.bytes = h.2 ∙ same_name (source kept x.bytes) x.bytes (and-left _ _ t) ∙ bytes in
          ap (is_made_from own_of needs_of fact_of same new y.name y.bytes) h.1
          ∙ and_from _ _ (name_eq-same (source h.0 y.bytes) y.bytes s)
          (ap (λ g. same_given same (states g) (given_in own_of needs_of fact_of new y.name)) h.3
          ∙ ap (λ (m : List ℕ). same_given same (states kept.given) (given_in own_of needs_of fact_of new m)) n
          ∙ same_given-trans same same_trans (states kept.given) (given_in own_of needs_of fact_of old x.name) (given_in own_of needs_of fact_of new x.name) (and-right (name_eq (source kept x.bytes) x.bytes) _ t) (and-right (same_text own_of needs_of fact_of (get old x.name) (get new x.name)) _ alike))

  -- so it is owed only where it was, or where its name is dirty
  owed-one : (old new : Texts) (x y : Slot Own F) → y.name ≡ x.name → IsHandedOn x y → get old x.name ≡ Some x.bytes → get new x.name ≡ Some y.bytes → cond (not (is_settled own_of needs_of fact_of same new y)) 1 0 ≤ cond (not (is_settled own_of needs_of fact_of same old x)) 1 0 + cond (is_dirty own_of needs_of fact_of same old new y.name) 1 0
  owed-one old new x y n handed gx gy =
      choice (is_settled own_of needs_of fact_of same old x) (is_dirty own_of needs_of fact_of same old new x.name) (is_settled own_of needs_of fact_of same new y) (is_dirty own_of needs_of fact_of same old new y.name)
      (ap (is_dirty own_of needs_of fact_of same old new) n) (λ s c. settled-clean old new x y n handed gx gy s c)
    where
      choice : (s d t e : Bool) → e ≡ d → (s ≡ true → d ≡ false → t ≡ true) → cond (not t) 1 0 ≤ cond (not s) 1 0 + cond e 1 0
      choice s d true e q h = omega arith
      choice false d false e q h = omega arith
      choice true true false e q h = let k : ◌≡◌ {A = ℕ} (cond e 1 0) 1 = ap (λ b. cond b 1 0) q in omega (arith, k)
      choice true false false e q h = let k : false ≡ true = h refl refl in cc k

  -- where facts are handed on, no more is owed than was, and is dirty
  pub owed-carried : (xs ys : List (Slot Own F)) → AreDistinct xs → AreDistinct ys → CarriesOver xs ys → owed own_of needs_of fact_of same ys ≤ owed own_of needs_of fact_of same xs + dirty own_of needs_of fact_of same (texts_of xs) (texts_of ys)
  owed-carried xs ys dx dy c =
      omega (
        arith,
        count_keys (is_dirty own_of needs_of fact_of same (texts_of xs) (texts_of ys)) ys dy,
        counts_of-names was xs ys dy,
        sum_split (λ (y : Slot Own F). cond (not (is_settled own_of needs_of fact_of same (texts_of ys) y)) 1 0) (λ (y : Slot Own F). named_count was xs y.name) (λ (y : Slot Own F). cond (is_dirty own_of needs_of fact_of same (texts_of xs) (texts_of ys) y.name) 1 0) ys each,
      )
    where
      was : Slot Own F → Bool
      was x = not (is_settled own_of needs_of fact_of same (texts_of xs) x)

      one_le : (b : Bool) → cond (not b) 1 0 ≤ 1
      one_le true = omega arith
      one_le false = omega arith

      by_text : (y : Slot Own F) (j : ℕ) → slice_get ys j ≡ Some y → (o : Option (List ℕ)) → get (texts_of xs) y.name ≡ o → cond (not (is_settled own_of needs_of fact_of same (texts_of ys) y)) 1 0 ≤ named_count was xs y.name + cond (is_dirty own_of needs_of fact_of same (texts_of xs) (texts_of ys) y.name) 1 0
      by_text y j at None e =
          let dirty_new : ◌≡◌ {A = ℕ} (cond (is_dirty own_of needs_of fact_of same (texts_of xs) (texts_of ys) y.name) 1 0) 1 =
          ap (λ o. cond (not (same_text own_of needs_of fact_of o (get (texts_of ys) y.name) && same_given same (given_in own_of needs_of fact_of (texts_of xs) y.name) (given_in own_of needs_of fact_of (texts_of ys) y.name))) 1 0) e
          ∙ ap (λ o. cond (not (same_text own_of needs_of fact_of None o && same_given same (given_in own_of needs_of fact_of (texts_of xs) y.name) (given_in own_of needs_of fact_of (texts_of ys) y.name))) 1 0) (text_of-slot ys j y dy at) in
          omega (arith, dirty_new, one_le (is_settled own_of needs_of fact_of same (texts_of ys) y))
      by_text y j at (Some bytes) e =
          let w = slot_with xs y.name bytes e in let x = w.slot in
          omega (
            arith,
            counted_at was xs w.index x y.name w.at w.named,
            owed-one (texts_of xs) (texts_of ys) x y (sym w.named) (c.each w.index j x y w.at at (sym w.named)) (text_of-slot xs w.index x dx w.at) (ap (get (texts_of ys)) w.named ∙ text_of-slot ys j y dy at),
          )

      each : (j : ℕ) (y : Slot Own F) → slice_get ys j ≡ Some y → cond (not (is_settled own_of needs_of fact_of same (texts_of ys) y)) 1 0 ≤ named_count was xs y.name + cond (is_dirty own_of needs_of fact_of same (texts_of xs) (texts_of ys) y.name) 1 0
      each j y at = by_text y j at (get (texts_of xs) y.name) refl

  -- no more names are owed than there are
  pub owed-le : (slots : List (Slot Own F)) → AreDistinct slots → owed own_of needs_of fact_of same slots ≤ len (texts_of slots)
  owed-le slots d = omega (arith, len-texts_of slots d, count_by-le-length (λ (s : Slot Own F). not (is_settled own_of needs_of fact_of same (texts_of slots) s)) slots)
