-- What tests that are true or false tell of their parts, and that numbers are the same or not.
use Rattle.std.proofs.Common.{◌≡◌, ◌≢◌, ◌⊎◌, ℕ, zero, suc, Bool, true, false, refl, ap, inl, inr}
use Rattle.std.specs.Prelude.{◌&&◌, ◌||◌}
use Rattle.std.specs.Ordering.{is_eq, is_lt}
use Rattle.std.specs.declared.cmp.Ordering.{Ordering}
use Rattle.std.specs.declared.cmp.Ordering.TheVariants.{Less, Equal, Greater}

pub and-left : (a b : Bool) → (a && b) ≡ true → a ≡ true
and-left true b e = refl
and-left false b e = e

pub and-right : (a b : Bool) → (a && b) ≡ true → b ≡ true
and-right true b e = e
and-right false b e = cc

pub and-both : (a b : Bool) → (a && b) ≡ true → (a ≡ true) × (b ≡ true)
and-both a b e = (and-left a b e, and-right a b e)

pub or-false : (a : Bool) → (a || false) ≡ a
or-false true = refl
or-false false = refl

pub equal-is : (o : Ordering) → is_eq o ≡ true → o ≡ Equal
equal-is Less e = cc
equal-is Equal e = refl
equal-is Greater e = cc

pub less-is : (o : Ordering) → is_lt o ≡ true → o ≡ Less
less-is Less e = refl
less-is Equal e = cc
less-is Greater e = cc

-- two numbers are one or are not
pub same-or-other : (i j : ℕ) → (i ≡ j) ⊎ (i ≢ j)
same-or-other zero zero = inl refl
same-or-other zero (suc j) = inr (λ e. cc)
same-or-other (suc i) zero = inr (λ e. cc)
same-or-other (suc i) (suc j) = elim (same-or-other i j) as (λ _. (suc i ≡ suc j) ⊎ (suc i ≢ suc j)) [ inl e ↦ inl (ap suc e) | inr n ↦ inr (λ e. n (cc e)) ]
