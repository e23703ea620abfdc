-- The list of what is found of each item, where something is found of each.
use Rattle.std.proofs.Common.{◌≡◌, ◌≢◌, ℕ, zero, suc, Bool, true, false, List, [], ◌∷◌, Option, Some, None, refl, sym, ap, ◌∙◌, cond, map, length, get_or, arith}
use Rattle.std.specs.Prelude.{slice_get, slice_set, remove, filter_map, position, nat_lt, is_some, count_by, option_map}
use Rattle.std.specs.List.{cons_option, position_or_len}
use Rattle.std.proofs.lemmas.Bool.{ltb-false}
use Rattle.std.proofs.lemmas.List.{length-map}
use Rattle.std.proofs.lemmas.List.Quantifiers.{position-Some}
use Rattle.std.proofs.lemmas.List.Sums.{sum_by-cons, fails_before_first}
use Rattle.std.proofs.lemmas.Option.{slice_get-map, slice_get_within, get_or_from_slice_get}
use Rattle.list_laws.proofs.Lists.{item-at}

module _ {E T : Type 0} where
  -- something is found of each item
  abbrev pub AllFound : (E → Option T) → List E → Type 0
  AllFound f es = (i : ℕ) (e : E) → slice_get es i ≡ Some e → (x : T) × (f e ≡ Some x)

  pub found_at : (f : E → Option T) (es : List E) → AllFound f es → (i : ℕ) (e : E) (x : T) → slice_get es i ≡ Some e → f e ≡ Some x → slice_get (filter_map f es) i ≡ Some x
  found_at f [] h i e x at k = cc
  found_at f (a ∷ es) h zero e x at k = let s : a ≡ e = cc in ap (λ (o : Option T). slice_get (cons_option o (filter_map f es)) 0) (ap f s ∙ k)
  found_at f (a ∷ es) h (suc i) e x at k =
      let y = h 0 a refl in
      ap (λ (o : Option T). slice_get (cons_option o (filter_map f es)) (suc i)) y.1 ∙ found_at f es (λ j b g. h (suc j) b g) i e x at k

  pub length-found : (f : E → Option T) (es : List E) → AllFound f es → length (filter_map f es) ≡ length es
  length-found f [] h = refl
  length-found f (a ∷ es) h = let y = h 0 a refl in ap (λ (o : Option T). length (cons_option o (filter_map f es))) y.1 ∙ ap suc (length-found f es (λ j b g. h (suc j) b g))

  -- what finds the same of each item
  pub found-same : (f g : E → Option T) (es : List E) → ((i : ℕ) (e : E) → slice_get es i ≡ Some e → g e ≡ f e) → filter_map g es ≡ filter_map f es
  found-same f g [] h = refl
  found-same f g (a ∷ es) h = λ j. cons_option (h 0 a refl j) (found-same f g es (λ i e at. h (suc i) e at) j)

  -- what finds something else of one item
  pub found-set : (f g : E → Option T) (es : List E) (i : ℕ) (e : E) (y : T) → AllFound f es → slice_get es i ≡ Some e → g e ≡ Some y → ((j : ℕ) (a : E) → slice_get es j ≡ Some a → j ≢ i → g a ≡ f a) → filter_map g es ≡ slice_set (filter_map f es) i y
  found-set f g [] i e y h at k o = cc
  found-set f g (a ∷ es) zero e y h at k o =
      let s : a ≡ e = cc in let x = h 0 a refl in
      (λ j. cons_option ((ap g s ∙ k) j) (found-same f g es (λ i b q. o (suc i) b q (λ z. cc z)) j))
      ∙ sym (ap (λ (q : Option T). slice_set (cons_option q (filter_map f es)) 0 y) x.1)
  found-set f g (a ∷ es) (suc i) e y h at k o =
      let x = h 0 a refl in
      (λ j. cons_option ((o 0 a refl (λ z. cc z) ∙ x.1) j) (found-set f g es i e y (λ l b q. h (suc l) b q) at k (λ l b q n. o (suc l) b q (λ z. n (cc z))) j))
      ∙ sym (ap (λ (q : Option T). slice_set (cons_option q (filter_map f es)) (suc i) y) x.1)

  pub found-remove : (f : E → Option T) (es : List E) (i : ℕ) → AllFound f es → filter_map f (remove es i) ≡ remove (filter_map f es) i
  found-remove f [] zero h = refl
  found-remove f [] (suc i) h = refl
  found-remove f (a ∷ es) zero h = let x = h 0 a refl in sym (ap (λ (q : Option T). remove (cons_option q (filter_map f es)) 0) x.1)
  found-remove f (a ∷ es) (suc i) h =
      let x = h 0 a refl in
      (λ j. cons_option (x.1 j) (found-remove f es i (λ l b q. h (suc l) b q) j))
      ∙ sym (ap (λ (q : Option T). remove (cons_option q (filter_map f es)) (suc i)) x.1)

read_at : {E K : Type 0} (key : E → K) (es : List E) (i : ℕ) (e : E) (d : K) → slice_get es i ≡ Some e → get_or (map key es) i d ≡ key e
read_at key es i e d at = get_or_from_slice_get (map key es) i (key e) d (slice_get-map key es i ∙ ap (option_map key) at)

-- the first item that passes a test
pub passes_at : {E K : Type 0} (p : K → Bool) (key : E → K) (es : List E) (i : ℕ) → position p (map key es) ≡ Some i → (e : E) × (slice_get es i ≡ Some e) × (p (key e) ≡ true)
passes_at p key [] i h = cc
passes_at p key (a ∷ es) i h =
    let r = position-Some p (map key (a ∷ es)) i (key a) h in
    let e = item-at (a ∷ es) i (omega (arith, r.0, length-map (a ∷ es) key)) in
    (e.0, e.1, ap p (sym (read_at key (a ∷ es) i e.0 (key a) e.1)) ∙ r.1)

-- no item passes it
pub passes_not : {E K : Type 0} (p : K → Bool) (key : E → K) (es : List E) → position p (map key es) ≡ None → (i : ℕ) (e : E) → slice_get es i ≡ Some e → p (key e) ≡ false
passes_not p key es h i e at = by (nat_lt (position_or_len p (map key es)) (length (map key es))) refl
  where
    by : (b : Bool) → nat_lt (position_or_len p (map key es)) (length (map key es)) ≡ b → p (key e) ≡ false
    by true q = let k : ◌≡◌ {A = Option ℕ} (Some (position_or_len p (map key es))) None = sym (ap (λ (b : Bool). cond b (Some (position_or_len p (map key es))) None) q) ∙ h in cc k
    by false q =
        ap p (sym (read_at key es i e (key e) at))
        ∙ fails_before_first p (map key es) i (key e) (omega (arith, ltb-false (position_or_len p (map key es)) (length (map key es)) q, slice_get_within es i e at, length-map es key))

-- a write where something stands
pub write_same : {T : Type 0} (os : List (Option T)) (k : ℕ) (x y : T) → get_or os k None ≡ Some x → get_or (slice_set os k (Some y)) k None ≡ Some y
write_same [] k x y e = cc
write_same (o ∷ os) zero x y e = refl
write_same (o ∷ os) (suc k) x y e = write_same os k x y e

pub write_other : {T : Type 0} (os : List (Option T)) (k j : ℕ) (y : T) → j ≢ k → get_or (slice_set os k (Some y)) j None ≡ get_or os j None
write_other [] k j y n = refl
write_other (o ∷ os) zero zero y n = absurd (n refl)
write_other (o ∷ os) zero (suc j) y n = refl
write_other (o ∷ os) (suc k) zero y n = refl
write_other (o ∷ os) (suc k) (suc j) y n = write_other os k j y (λ e. n (ap suc e))

pub write_count : {T : Type 0} (os : List (Option T)) (k : ℕ) (x y : T) → get_or os k None ≡ Some x → count_by is_some (slice_set os k (Some y)) ≡ count_by is_some os
write_count [] k x y e = cc
write_count (o ∷ os) zero x y e = sym (ap (λ q. count_by is_some (q ∷ os)) e)
write_count (o ∷ os) (suc k) x y e =
    omega (arith, sum_by-cons (λ q. cond (is_some q) 1 0) o (slice_set os k (Some y)), sum_by-cons (λ q. cond (is_some q) 1 0) o os, write_count os k x y e)
