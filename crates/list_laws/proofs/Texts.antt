-- Texts that are the same, by the test of their bytes.
use Rattle.std.proofs.Common.{◌≡◌, ℕ, List, [], ◌∷◌, true, false, refl, ◌∙◌}
use Rattle.std.specs.Prelude.{Contains, nat_eq}
use Rattle.std.specs.List.{list_any}
use Rattle.std.specs.Str.{bytes_eq}
use Rattle.std.specs.Cmp.Lexicographic.{nat_list_eq_equiv, pointwise}
use Rattle.std.proofs.lemmas.Bool.{and_parts, eqb-true}
use Rattle.std.proofs.lemmas.Slice.Eq.{bytes_eq-Decides}
use Rattle.std.proofs.lemmas.Map.Views.{Contains-from_any, list_any-from_Contains}

pub same-text : (a b : List ℕ) → bytes_eq a b ≡ true → a ≡ b
same-text a b e = (bytes_eq-Decides a b).0 e

pub text-itself : (a b : List ℕ) → a ≡ b → bytes_eq a b ≡ true
text-itself a b e = (bytes_eq-Decides a b).1 e

pub texts-apart : (a b : List ℕ) → bytes_eq a b ≡ false → bytes_eq b a ≡ false
texts-apart a b e = nat_list_eq_equiv.symm b a ∙ e

-- a text is among others exactly where the test finds it
pub any-contains : (texts : List (List ℕ)) (q : List ℕ) → list_any (bytes_eq q) texts ≡ true → Contains texts q
any-contains texts q h = Contains-from_any same-text q texts h

pub contains-any : (texts : List (List ℕ)) (q : List ℕ) → Contains texts q → list_any (bytes_eq q) texts ≡ true
contains-any texts q h = list_any-from_Contains nat_list_eq_equiv q texts h

pub numbers-equal : (a b : List ℕ) → pointwise nat_eq a b ≡ true → a ≡ b
numbers-equal [] [] e = refl
numbers-equal [] (y ∷ b) e = cc
numbers-equal (x ∷ a) [] e = cc
numbers-equal (x ∷ a) (y ∷ b) e = let both = and_parts (nat_eq x y) (pointwise nat_eq a b) e in λ i. eqb-true x y both.0 i ∷ numbers-equal a b both.1 i
