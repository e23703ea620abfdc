-- What stands before the last `/` of a text.
use Rattle.std.proofs.Common.{◌≡◌, ◌↔◌, ◌≢◌, ℕ, Bool, true, false, eqb, if◌then◌else◌, List, [], ◌∷◌, ◌++◌, Option, Some, None, codes, refl, ap, ◌∙◌, subst}
use Rattle.std.specs.List.{AllByRecursion}
use Rattle.std.proofs.lemmas.Bool.{eqb-true, eq-eqb, ne_eqb}
use Rattle.server_uris.specs.Uris.{before_last_slash, before_part, IsBeforeLastSlash}

abbrev Plain : List ℕ → Type 0
Plain bs = AllByRecursion (λ b. b ≢ 47) bs

abbrev front_if : Bool → Option (List ℕ)
front_if slash = if slash then Some [] else None

plain_if : (b : ℕ) (bs : List ℕ) (found : Option (List ℕ)) → before_last_slash bs ≡ found → (before_last_slash bs ≡ None → Plain bs) → before_part b found ≡ None → Plain (b ∷ bs)
plain_if b bs (Some front) e more none = cc
plain_if b bs None e more none = (λ s. two (eqb b 47) (eq-eqb b 47 s) none, more e)
  where
    two : (slash : Bool) → slash ≡ true → front_if slash ≡ None → ⊥
    two true t none = cc
    two false t none = cc

plain : (bs : List ℕ) → before_last_slash bs ≡ None → Plain bs
plain [] e = tt
plain (b ∷ bs) e = plain_if b bs (before_last_slash bs) refl (plain bs) e

pub none_in : (bs : List ℕ) → Plain bs → before_last_slash bs ≡ None
none_in [] p = refl
none_in (b ∷ bs) p = ap (before_part b) (none_in bs p.1) ∙ ap front_if (ne_eqb b 47 p.0)

at_slash : (b : ℕ) (bs front : List ℕ) (slash : Bool) → eqb b 47 ≡ slash → before_last_slash bs ≡ None → front_if slash ≡ Some front → IsBeforeLastSlash (b ∷ bs) front
at_slash b bs [] true e none is =
    record { behind = bs; written = ap (λ c. c ∷ bs) (eqb-true b 47 e); plain = plain bs none }
at_slash b bs (c ∷ front) true e none is = cc
at_slash b bs front false e none is = cc

one_more : (b : ℕ) (bs front : List ℕ) → IsBeforeLastSlash bs front → IsBeforeLastSlash (b ∷ bs) (b ∷ front)
one_more b bs front f = record { behind = f.behind; written = ap (λ t. b ∷ t) f.written; plain = f.plain }

same_front : (a b : List ℕ) → Some a ≡ Some b → a ≡ b
same_front a b e = cc

cut_if : (b : ℕ) (bs front : List ℕ) (found : Option (List ℕ)) → before_last_slash bs ≡ found → ((inner : List ℕ) → before_last_slash bs ≡ Some inner → IsBeforeLastSlash bs inner) → before_part b found ≡ Some front → IsBeforeLastSlash (b ∷ bs) front
cut_if b bs front (Some inner) e more is =
    subst (λ t. IsBeforeLastSlash (b ∷ bs) t) (same_front (b ∷ inner) front is) (one_more b bs inner (more inner e))
cut_if b bs front None e more is = at_slash b bs front (eqb b 47) refl e is

cut_is : (text front : List ℕ) → before_last_slash text ≡ Some front → IsBeforeLastSlash text front
cut_is [] front e = cc
cut_is (b ∷ bs) front e = cut_if b bs front (before_last_slash bs) refl (cut_is bs) e

is_cut : (front behind : List ℕ) → Plain behind → before_last_slash (front ++ (codes "/" ++ behind)) ≡ Some front
is_cut [] behind p = ap (before_part 47) (none_in behind p)
is_cut (b ∷ front) behind p = ap (before_part b) (is_cut front behind p)

pub last_slash_is : (text front : List ℕ) → (before_last_slash text ≡ Some front) ↔ IsBeforeLastSlash text front
last_slash_is text front =
    (cut_is text front, λ f. ap before_last_slash f.written ∙ is_cut front f.behind f.plain)
