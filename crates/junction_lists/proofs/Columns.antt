-- Columns of lists that hold one another.
use Rattle.std.proofs.Common.{◌≡◌, ℕ, zero, suc, ◌+◌, ◌-◌, ◌<◌, ◌≤◌, ◌^◌, true, false, List, [], ◌∷◌, ◌++◌, Some, refl, ap, sym, subst, ◌∙◌, arith}
use Rattle.std.specs.Prelude.{nat_le, length, take, drop, slice_get, get_or}
use Rattle.std.proofs.lemmas.Option.{slice_get-get_or}
use Rattle.std.proofs.lemmas.Bool.Decides.{nat_tests}
use Rattle.std.proofs.lemmas.List.{take-append-drop}
use Rattle.std.proofs.lemmas.List.Elements.{filter-append}
use Rattle.tla_symbols.specs.declared.lexeme.Lexeme.{Lexeme}
use Rattle.junction_lists.specs.declared.OpenList.{OpenList}
use Rattle.junction_lists.specs.OpenLists.{IsNested, inner, covered, IsBulletOf, IsInnermostBullet}

pub nested-snoc : (c : ℕ) (xs : List OpenList) (x : OpenList) → IsNested c xs → c ≤ x.col → inner xs ≤ x.col → x.col < 2 ^ 32 - 1 → IsNested c (xs ++ x ∷ [])
nested-snoc c [] x n l i b = (l, b, tt)
nested-snoc c (y ∷ []) x n l i b = (n.0, n.1, (i, b, tt))
nested-snoc c (y ∷ z ∷ zs) x n l i b = (n.0, n.1, nested-snoc (suc y.col) (z ∷ zs) x n.2 (let k : suc y.col ≤ inner (z ∷ zs) = inner-above (suc y.col) z zs n.2 in omega (arith, i, k)) i b)
  where
    inner-above : (c : ℕ) (z : OpenList) (zs : List OpenList) → IsNested c (z ∷ zs) → c ≤ inner (z ∷ zs)
    inner-above c z [] n = omega (arith, n.0)
    inner-above c z (w ∷ ws) n = omega (arith, n.0, inner-above (suc z.col) w ws n.2)

pub nested-take : (c : ℕ) (n : ℕ) (xs : List OpenList) → IsNested c xs → IsNested c (take n xs)
nested-take c zero xs k = tt
nested-take c (suc n) [] k = tt
nested-take c (suc n) (x ∷ xs) k = (k.0, k.1, nested-take (suc x.col) n xs k.2)

-- so few are open that their number is below 2^32
pub nested-few : (c : ℕ) (xs : List OpenList) → c ≤ 2 ^ 32 - 1 → IsNested c xs → length xs + c ≤ 2 ^ 32 - 1
nested-few c [] l k = omega arith
nested-few c (x ∷ xs) l k = omega (arith, k.0, k.1, nested-few (suc x.col) xs (omega (arith, k.1)) k.2)

-- a list that stands there, and those before it
pub nested-get : (c : ℕ) (xs : List OpenList) (n : ℕ) (x : OpenList) → IsNested c xs → slice_get xs n ≡ Some x → c ≤ x.col
nested-get c [] n x k e = cc
nested-get c (y ∷ ys) zero x k e = let q : y ≡ x = cc in subst (λ z. c ≤ z.col) q k.0
nested-get c (y ∷ ys) (suc n) x k e = omega (arith, k.0, nested-get (suc y.col) ys n x k.2 e)

covered-none : (col : ℕ) (y : OpenList) (rest : List OpenList) → y.col < col → covered col rest ≡ [] → covered col (y ∷ rest) ≡ []
covered-none col y rest l e = let q : nat_le col y.col ≡ false = grind (arith, nat_tests) in rw (q, e)

covered-some : (col : ℕ) (y : OpenList) (rest : List OpenList) → col ≤ y.col → covered col (y ∷ rest) ≡ y ∷ covered col rest
covered-some col y rest l = let q : nat_le col y.col ≡ true = grind (arith, nat_tests) in rw q

-- none of those up to a list left of the column
pub left-of : (c col : ℕ) (xs : List OpenList) (n : ℕ) (x : OpenList) → IsNested c xs → slice_get xs n ≡ Some x → x.col < col → covered col (take (suc n) xs) ≡ []
left-of c col [] n x k e l = refl
left-of c col (y ∷ ys) zero x k e l = let q : x ≡ y = cc in covered-none col y [] (subst (λ z. z.col < col) q l) refl
left-of c col (y ∷ ys) (suc n) x k e l =
    covered-none col y (take (suc n) ys) (let m : suc y.col ≤ x.col = nested-get (suc y.col) ys n x k.2 e in omega (arith, m, l)) (left-of (suc y.col) col ys n x k.2 e l)

-- those that are covered are the innermost ones
pub split-covered : (col : ℕ) (xs : List OpenList) (n : ℕ) → covered col (take n xs) ≡ [] → covered col (drop n xs) ≡ drop n xs → covered col xs ≡ drop n xs
split-covered col xs n e f =
    ap (λ z. covered col z) (sym (take-append-drop n xs)) ∙ (filter-append (λ list. nat_le col list.col) (take n xs) (drop n xs) ∙ (rw (e, f) refl))

-- where a walk from the innermost list stops
pub stops-left : (col : ℕ) (xs : List OpenList) (n : ℕ) (d : OpenList) → IsNested 0 xs → 0 < n → n ≤ length xs → (get_or xs (n - 1) d).col < col → covered col (drop n xs) ≡ drop n xs → covered col xs ≡ drop n xs
stops-left col xs n d k p l m e =
    let q : suc (n - 1) ≡ n = omega arith in
    let r : slice_get xs (n - 1) ≡ Some (get_or xs (n - 1) d) = slice_get-get_or xs (n - 1) d (omega arith) in
    let s : covered col (take (suc (n - 1)) xs) ≡ [] = left-of 0 col xs (n - 1) (get_or xs (n - 1) d) k r m in
    split-covered col xs n (subst (λ z. covered col (take z xs) ≡ []) q s) e

pub stops-outside : (col : ℕ) (xs : List OpenList) (n : ℕ) → n ≤ 0 → covered col (drop n xs) ≡ drop n xs → covered col xs ≡ drop n xs
stops-outside col xs n l e =
    let q : n ≡ 0 = omega arith in
    subst (λ z. covered col (drop z xs) ≡ drop z xs → covered col xs ≡ drop z xs) (sym q) (λ f. f) e

-- the innermost list's bullet
pub last-snoc : (xs : List OpenList) (x : OpenList) → Some x ≡ slice_get xs (length xs - 1) → (lexeme : Lexeme) → IsInnermostBullet xs lexeme ≡ IsBulletOf x lexeme
last-snoc [] x e lexeme = cc
last-snoc (y ∷ []) x e lexeme = let q : y ≡ x = cc in ap (λ z. IsBulletOf z lexeme) q
last-snoc (y ∷ z ∷ zs) x e lexeme = last-snoc (z ∷ zs) x (e ∙ (let q : suc (suc (length zs)) - 1 ≡ suc (length zs) = omega arith in let r : suc (length zs) - 1 ≡ length zs = omega arith in ap (λ n. slice_get (y ∷ z ∷ zs) n) q ∙ ap (λ n. slice_get (z ∷ zs) n) (sym r))) lexeme
