-- Names as list of bytes: the same exactly where their order ties.
use Rattle.std.proofs.Common.{◌≡◌, ℕ, Bool, true, false, List, ◌∷◌, refl, sym, ap, ◌∙◌, inl, inr}
use Rattle.std.specs.Prelude.{◌⊎◌, ◌||◌}
use Rattle.std.specs.Cmp.Lexicographic.{nat_list_cmp_total}
use Rattle.std.specs.Cmp.{eq_by_cmp_equiv}
use Rattle.std.specs.FinMap.{nat_cmp-IsAntisymmetric, slice_cmp-IsAntisymmetric}
use Rattle.std.proofs.lemmas.Bool.{or_left}
use Rattle.list_laws.proofs.Tests.{equal-is}
use Rattle.fact_values.specs.Names.{name_cmp, name_eq, has}

-- a test is true or false
pub true_or_false : (b : Bool) → (b ≡ true) ⊎ (b ≡ false)
true_or_false true = inl refl
true_or_false false = inr refl

pub same_name : (a b : List ℕ) → name_eq a b ≡ true → a ≡ b
same_name a b e = slice_cmp-IsAntisymmetric nat_cmp-IsAntisymmetric a b (equal-is (name_cmp a b) e)

pub name_eq-refl : (a : List ℕ) → name_eq a a ≡ true
name_eq-refl a = (eq_by_cmp_equiv nat_list_cmp_total).refl a

pub name_eq-same : (a b : List ℕ) → a ≡ b → name_eq a b ≡ true
name_eq-same a b e = ap (name_eq a) (sym e) ∙ name_eq-refl a

pub or_cases : (a b : Bool) → (a || b) ≡ true → (a ≡ true) ⊎ (b ≡ true)
or_cases true b e = inl refl
or_cases false b e = inr e

pub has_head : (x : List ℕ) (xs : List (List ℕ)) → has (x ∷ xs) x ≡ true
has_head x xs = or_left (name_eq x x) (has xs x) (name_eq-refl x)

-- a test that was made on texts that equal these
pub name_eq-at : (t : Bool) (a b x y : List ℕ) → t ≡ name_eq a b → a ≡ x → b ≡ y → name_eq x y ≡ t
name_eq-at t a b x y e p q = sym (e ∙ ap (λ z. name_eq z b) p ∙ ap (name_eq x) q)
