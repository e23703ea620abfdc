-- Items in byte order of their names, none of them twice.
use Rattle.std.proofs.Common.{◌≡◌, ℕ, Bool, true, false, cond, List, [], ◌∷◌, map, refl, sym, ap, ◌∙◌, subst}
use Rattle.std.specs.Prelude.{filter, not}
use Rattle.std.specs.List.{AllByRecursion}
use Rattle.std.specs.List.Sorted.{IsStrictlySortedBy}
use Rattle.std.specs.Ordering.{nat_cmp, match_ordering, ordering_reverse}
use Rattle.std.specs.declared.cmp.Ordering.{Ordering}
use Rattle.std.specs.declared.cmp.Ordering.TheVariants.{Less, Equal, Greater}
use Rattle.std.specs.Cmp.Lexicographic.{slice_cmp, nat_list_cmp_total}
use Rattle.std.specs.Str.{bytes_eq}
use Rattle.std.proofs.lemmas.List.Kept.{IsStrictlySortedBy-filter}
use Rattle.server_documents.specs.Documents.{put, without}
use Rattle.server_texts.specs.Kept.{AreInByteOrder}

-- a name stands before each of these
abbrev pub IsBeforeAll : List ℕ → List (List ℕ) → Type 0
IsBeforeAll a names = AllByRecursion (λ b. slice_cmp nat_cmp a b ≡ Less) names

pub turned : (a b : List ℕ) → slice_cmp nat_cmp a b ≡ Greater → slice_cmp nat_cmp b a ≡ Less
turned a b e = nat_list_cmp_total.antisymm b a ∙ ap ordering_reverse e

pub before-trans : (a b : List ℕ) (names : List (List ℕ)) → slice_cmp nat_cmp a b ≡ Less → IsBeforeAll b names → IsBeforeAll a names
before-trans a b [] less h = tt
before-trans a b (c ∷ names) less h = (nat_list_cmp_total.trans a b c less h.0, before-trans a b names less h.1)

before-same : (a b : List ℕ) (names : List (List ℕ)) → slice_cmp nat_cmp a b ≡ Equal → IsBeforeAll b names → IsBeforeAll a names
before-same a b [] same h = tt
before-same a b (c ∷ names) same h = (nat_list_cmp_total.congr a b c same ∙ h.0, before-same a b names same h.1)

pub ordered-none : AreInByteOrder []
unfolding IsStrictlySortedBy
ordered-none = tt

pub ordered-more : (a : List ℕ) (names : List (List ℕ)) → IsBeforeAll a names → AreInByteOrder names → AreInByteOrder (a ∷ names)
unfolding IsStrictlySortedBy
ordered-more a names before h = (before, h)

pub ordered-first : (a : List ℕ) (names : List (List ℕ)) → AreInByteOrder (a ∷ names) → IsBeforeAll a names
unfolding IsStrictlySortedBy
ordered-first a names h = h.0

pub ordered-rest : (a : List ℕ) (names : List (List ℕ)) → AreInByteOrder (a ∷ names) → AreInByteOrder names
unfolding IsStrictlySortedBy
ordered-rest a names h = h.1

module _ {A : Type 0} (name_of : A → List ℕ) where
  -- an item that is put in its place
  before-put : (a : List ℕ) (x : A) (ys : List A) → slice_cmp nat_cmp a (name_of x) ≡ Less → IsBeforeAll a (map name_of ys) → IsBeforeAll a (map name_of (put name_of x ys))
  before-put a x [] less h = (less, tt)
  before-put a x (y ∷ ys) less h = at (slice_cmp nat_cmp (name_of x) (name_of y)) (before-put a x ys less h.1)
    where
      at : (o : Ordering) → IsBeforeAll a (map name_of (put name_of x ys)) → IsBeforeAll a (map name_of (match_ordering o (x ∷ y ∷ ys) (x ∷ ys) (y ∷ put name_of x ys)))
      at Less rest = (less, h)
      at Equal rest = (less, h.1)
      at Greater rest = (h.0, rest)

  put-at : (o : Ordering) (x y : A) (ys : List A) → slice_cmp nat_cmp (name_of x) (name_of y) ≡ o → AreInByteOrder (name_of y ∷ map name_of ys) → AreInByteOrder (map name_of (put name_of x ys)) → AreInByteOrder (map name_of (match_ordering o (x ∷ y ∷ ys) (x ∷ ys) (y ∷ put name_of x ys)))
  put-at Less x y ys e h rest =
      ordered-more (name_of x) (name_of y ∷ map name_of ys) (e, before-trans (name_of x) (name_of y) (map name_of ys) e (ordered-first (name_of y) (map name_of ys) h)) h
  put-at Equal x y ys e h rest =
      ordered-more (name_of x) (map name_of ys) (before-same (name_of x) (name_of y) (map name_of ys) e (ordered-first (name_of y) (map name_of ys) h)) (ordered-rest (name_of y) (map name_of ys) h)
  put-at Greater x y ys e h rest =
      ordered-more (name_of y) (map name_of (put name_of x ys)) (before-put (name_of y) x ys (turned (name_of x) (name_of y) e) (ordered-first (name_of y) (map name_of ys) h)) rest

  pub put-ordered : (x : A) (ys : List A) → AreInByteOrder (map name_of ys) → AreInByteOrder (map name_of (put name_of x ys))
  put-ordered x [] h = ordered-more (name_of x) [] tt h
  put-ordered x (y ∷ ys) h = put-at (slice_cmp nat_cmp (name_of x) (name_of y)) x y ys refl h (put-ordered x ys (ordered-rest (name_of y) (map name_of ys) h))

  -- items that are left
  names-left : (test : List ℕ → Bool) (ys : List A) → map name_of (filter (λ y. test (name_of y)) ys) ≡ filter test (map name_of ys)
  names-left test [] = refl
  names-left test (y ∷ ys) = at (test (name_of y)) (names-left test ys)
    where
      at : (b : Bool) → map name_of (filter (λ z. test (name_of z)) ys) ≡ filter test (map name_of ys) → map name_of (cond b (y ∷ filter (λ z. test (name_of z)) ys) (filter (λ z. test (name_of z)) ys)) ≡ cond b (name_of y ∷ filter test (map name_of ys)) (filter test (map name_of ys))
      at true e = ap (λ names. name_of y ∷ names) e
      at false e = e

  pub without-ordered : (name : List ℕ) (ys : List A) → AreInByteOrder (map name_of ys) → AreInByteOrder (map name_of (without name_of name ys))
  without-ordered name ys h =
      subst (λ names. AreInByteOrder names) (sym (names-left (λ n. not (bytes_eq name n)) ys)) (IsStrictlySortedBy-filter (slice_cmp nat_cmp) (λ n. not (bytes_eq name n)) (map name_of ys) h)
