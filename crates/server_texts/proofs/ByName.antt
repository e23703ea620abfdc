-- Items that are found by their names.
use Rattle.std.proofs.Common.{◌≡◌, ℕ, zero, suc, Bool, true, false, cond, List, [], ◌∷◌, map, Some, None, refl, sym, ap, ◌∙◌, subst}
use Rattle.std.specs.Prelude.{not, is_some, slice_get}
use Rattle.std.specs.List.{AllByRecursion}
use Rattle.std.specs.Option.{IfSome}
use Rattle.std.specs.Ordering.{nat_cmp, match_ordering, is_eq}
use Rattle.std.specs.declared.cmp.Ordering.{Ordering}
use Rattle.std.specs.declared.cmp.Ordering.TheVariants.{Less, Equal, Greater}
use Rattle.std.specs.Cmp.Lexicographic.{slice_cmp, nat_list_eq_equiv}
use Rattle.std.specs.Str.{bytes_eq}
use Rattle.std.proofs.lemmas.Map.Text.{is_eq-slice_cmp}
use Rattle.std.proofs.lemmas.Slice.Eq.{bytes_eq-Decides}
use Rattle.list_laws.proofs.Texts.{text-itself, texts-apart}
use Rattle.server_documents.specs.Documents.{named, put, without}
use Rattle.server_texts.specs.Kept.{AreInByteOrder}
use Rattle.server_texts.proofs.ByteOrder.{ordered-first, ordered-rest}

-- ---- names

compared : (a b : List ℕ) (o : Ordering) → slice_cmp nat_cmp a b ≡ o → bytes_eq a b ≡ is_eq o
compared a b o e = sym (is_eq-slice_cmp a b) ∙ ap is_eq e

-- ---- all items

all-at : {A : Type 0} (f : A → List ℕ) (P : List ℕ → Type 0) (xs : List A) (i : ℕ) (x : A) → AllByRecursion P (map f xs) → slice_get xs i ≡ Some x → P (f x)
all-at f P [] zero x h e = cc
all-at f P [] (suc i) x h e = cc
all-at f P (y ∷ xs) zero x h e = let same : y ≡ x = cc in subst (λ z. P (f z)) same h.0
all-at f P (y ∷ xs) (suc i) x h e = all-at f P xs i x h.1 e

module _ {A : Type 0} (name_of : A → List ℕ) where
  pub all-put : (P : A → Type 0) (x : A) (ys : List A) → P x → AllByRecursion P ys → AllByRecursion P (put name_of x ys)
  all-put P x [] p h = (p, tt)
  all-put P x (y ∷ ys) p h = at (slice_cmp nat_cmp (name_of x) (name_of y)) (all-put P x ys p h.1)
    where
      at : (o : Ordering) → AllByRecursion P (put name_of x ys) → AllByRecursion P (match_ordering o (x ∷ y ∷ ys) (x ∷ ys) (y ∷ put name_of x ys))
      at Less rest = (p, h)
      at Equal rest = (p, h.1)
      at Greater rest = (h.0, rest)

  pub all-without : (P : A → Type 0) (name : List ℕ) (ys : List A) → AllByRecursion P ys → AllByRecursion P (without name_of name ys)
  all-without P name [] h = tt
  all-without P name (y ∷ ys) h = at (bytes_eq name (name_of y)) (all-without P name ys h.1)
    where
      at : (b : Bool) → AllByRecursion P (without name_of name ys) → AllByRecursion P (cond (not b) (y ∷ without name_of name ys) (without name_of name ys))
      at true rest = rest
      at false rest = (h.0, rest)

  -- those that are left have other names
  pub without-apart : (name : List ℕ) (ys : List A) → AllByRecursion (λ y. bytes_eq (name_of y) name ≡ false) (without name_of name ys)
  without-apart name [] = tt
  without-apart name (y ∷ ys) = at (bytes_eq name (name_of y)) refl (without-apart name ys)
    where
      at : (b : Bool) → bytes_eq name (name_of y) ≡ b → AllByRecursion (λ z. bytes_eq (name_of z) name ≡ false) (without name_of name ys) → AllByRecursion (λ z. bytes_eq (name_of z) name ≡ false) (cond (not b) (y ∷ without name_of name ys) (without name_of name ys))
      at true e rest = rest
      at false e rest = (texts-apart name (name_of y) e, rest)

  -- ---- one item

  pub found-holds : (P : A → Type 0) (name : List ℕ) (ys : List A) → AllByRecursion P ys → IfSome (named name_of name ys) P
  found-holds P name [] h = tt
  found-holds P name (y ∷ ys) h = at (bytes_eq name (name_of y)) (found-holds P name ys h.1)
    where
      at : (b : Bool) → IfSome (named name_of name ys) P → IfSome (cond b (Some y) (named name_of name ys)) P
      at true rest = h.0
      at false rest = rest

  -- where none is found, all have other names
  pub absent : (name : List ℕ) (ys : List A) → is_some (named name_of name ys) ≡ false → AllByRecursion (λ y. bytes_eq (name_of y) name ≡ false) ys
  absent name [] e = tt
  absent name (y ∷ ys) e = at (bytes_eq name (name_of y)) refl (absent name ys) e
    where
      at : (b : Bool) → bytes_eq name (name_of y) ≡ b → (is_some (named name_of name ys) ≡ false → AllByRecursion (λ z. bytes_eq (name_of z) name ≡ false) ys) → is_some (cond b (Some y) (named name_of name ys)) ≡ false → AllByRecursion (λ z. bytes_eq (name_of z) name ≡ false) (y ∷ ys)
      at true e rest none = cc
      at false e rest none = (texts-apart name (name_of y) e, rest none)

  -- an item in byte order is the only one of its name
  pub found-only : (ys : List A) (i : ℕ) (y : A) → AreInByteOrder (map name_of ys) → slice_get ys i ≡ Some y → named name_of (name_of y) ys ≡ Some y
  found-only [] zero y h e = cc
  found-only [] (suc i) y h e = cc
  found-only (x ∷ ys) zero y h e =
      let same : x ≡ y = cc in
      subst (λ z. named name_of (name_of z) (x ∷ ys) ≡ Some z) same (ap (λ b. cond b (Some x) (named name_of (name_of x) ys)) (text-itself (name_of x) (name_of x) refl))
  found-only (x ∷ ys) (suc i) y h e =
      let less : slice_cmp nat_cmp (name_of x) (name_of y) ≡ Less = all-at name_of (λ b. slice_cmp nat_cmp (name_of x) b ≡ Less) ys i y (ordered-first (name_of x) (map name_of ys) h) e in
      let apart : bytes_eq (name_of y) (name_of x) ≡ false = texts-apart (name_of x) (name_of y) (compared (name_of x) (name_of y) Less less) in
      ap (λ b. cond b (Some x) (named name_of (name_of y) ys)) apart ∙ found-only ys i y (ordered-rest (name_of x) (map name_of ys) h) e

  -- ---- after an item is put in its place

  put-found-at : (o : Ordering) (x y : A) (ys : List A) → slice_cmp nat_cmp (name_of x) (name_of y) ≡ o → named name_of (name_of x) (put name_of x ys) ≡ Some x → named name_of (name_of x) (match_ordering o (x ∷ y ∷ ys) (x ∷ ys) (y ∷ put name_of x ys)) ≡ Some x
  put-found-at Less x y ys e rest = ap (λ b. cond b (Some x) (named name_of (name_of x) (y ∷ ys))) (text-itself (name_of x) (name_of x) refl)
  put-found-at Equal x y ys e rest = ap (λ b. cond b (Some x) (named name_of (name_of x) ys)) (text-itself (name_of x) (name_of x) refl)
  put-found-at Greater x y ys e rest =
      ap (λ b. cond b (Some y) (named name_of (name_of x) (put name_of x ys))) (compared (name_of x) (name_of y) Greater e) ∙ rest

  pub put-found : (x : A) (ys : List A) → named name_of (name_of x) (put name_of x ys) ≡ Some x
  put-found x [] = ap (λ b. cond b (Some x) None) (text-itself (name_of x) (name_of x) refl)
  put-found x (y ∷ ys) = put-found-at (slice_cmp nat_cmp (name_of x) (name_of y)) x y ys refl (put-found x ys)

  put-others-at : (o : Ordering) (name : List ℕ) (x y : A) (ys : List A) → slice_cmp nat_cmp (name_of x) (name_of y) ≡ o → bytes_eq name (name_of x) ≡ false → named name_of name (put name_of x ys) ≡ named name_of name ys → named name_of name (match_ordering o (x ∷ y ∷ ys) (x ∷ ys) (y ∷ put name_of x ys)) ≡ named name_of name (y ∷ ys)
  put-others-at Less name x y ys e apart rest = ap (λ b. cond b (Some x) (named name_of name (y ∷ ys))) apart
  put-others-at Equal name x y ys e apart rest =
      let same : name_of x ≡ name_of y = (bytes_eq-Decides (name_of x) (name_of y)).0 (compared (name_of x) (name_of y) Equal e) in
      let too : bytes_eq name (name_of y) ≡ false = ap (bytes_eq name) (sym same) ∙ apart in
      ap (λ b. cond b (Some x) (named name_of name ys)) apart ∙ sym (ap (λ b. cond b (Some y) (named name_of name ys)) too)
  put-others-at Greater name x y ys e apart rest = ap (λ more. cond (bytes_eq name (name_of y)) (Some y) more) rest

  pub put-others : (name : List ℕ) (x : A) (ys : List A) → bytes_eq name (name_of x) ≡ false → named name_of name (put name_of x ys) ≡ named name_of name ys
  put-others name x [] apart = ap (λ b. cond b (Some x) None) apart
  put-others name x (y ∷ ys) apart =
      put-others-at (slice_cmp nat_cmp (name_of x) (name_of y)) name x y ys refl apart (put-others name x ys apart)

  -- ---- after an item is left out

  without-none-at : (b : Bool) (name : List ℕ) (y : A) (ys : List A) → bytes_eq name (name_of y) ≡ b → named name_of name (without name_of name ys) ≡ None → named name_of name (cond (not b) (y ∷ without name_of name ys) (without name_of name ys)) ≡ None
  without-none-at true name y ys e rest = rest
  without-none-at false name y ys e rest = ap (λ b. cond b (Some y) (named name_of name (without name_of name ys))) e ∙ rest

  pub without-none : (name : List ℕ) (ys : List A) → named name_of name (without name_of name ys) ≡ None
  without-none name [] = refl
  without-none name (y ∷ ys) = without-none-at (bytes_eq name (name_of y)) name y ys refl (without-none name ys)

  without-others-at : (b : Bool) (name other : List ℕ) (y : A) (ys : List A) → bytes_eq name (name_of y) ≡ b → bytes_eq other name ≡ false → named name_of other (without name_of name ys) ≡ named name_of other ys → named name_of other (cond (not b) (y ∷ without name_of name ys) (without name_of name ys)) ≡ named name_of other (y ∷ ys)
  without-others-at true name other y ys e apart rest =
      let same : name ≡ name_of y = (bytes_eq-Decides name (name_of y)).0 e in
      let too : bytes_eq other (name_of y) ≡ false = ap (bytes_eq other) (sym same) ∙ apart in
      rest ∙ sym (ap (λ b. cond b (Some y) (named name_of other ys)) too)
  without-others-at false name other y ys e apart rest = ap (λ more. cond (bytes_eq other (name_of y)) (Some y) more) rest

  pub without-others : (name other : List ℕ) (ys : List A) → bytes_eq other name ≡ false → named name_of other (without name_of name ys) ≡ named name_of other ys
  without-others name other [] apart = refl
  without-others name other (y ∷ ys) apart =
      without-others-at (bytes_eq name (name_of y)) name other y ys refl apart (without-others name other ys apart)
