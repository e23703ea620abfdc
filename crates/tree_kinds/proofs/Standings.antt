-- Meanings that are the same, and those for which the same stands.
use Rattle.std.proofs.Common.{◌≡◌, Bool, true, false, cond, refl, sym, ap, ◌∙◌}
use Rattle.std.specs.Prelude.{not, ◌&&◌}
use Rattle.std.proofs.lemmas.Bool.{and_from, and_parts}
use Rattle.tla_model.specs.Entities.{Meaning, same_meaning}
use Rattle.tla_model.specs.Same.{meaning-itself, same-alike}
use Rattle.tree_kinds.specs.Standing.{is_bound, same_standing}

-- ---- both bound, or neither

-- both are true, or both are false
abbrev alike_bools : Bool → Bool → Bool
alike_bools a b = cond a b (not b)

bools-alike : (a b : Bool) → alike_bools a b ≡ true → a ≡ b
bools-alike true true e = refl
bools-alike true false e = cc
bools-alike false true e = cc
bools-alike false false e = refl

bool-itself : (a b : Bool) → a ≡ b → alike_bools a b ≡ true
bool-itself true b same = sym same
bool-itself false b same = ap not (sym same)

-- ---- what stands for the same

pub standing-means : (a b : Meaning) → same_standing a b ≡ true → same_meaning a b ≡ true
standing-means a b same = (and_parts (same_meaning a b) (alike_bools (is_bound a) (is_bound b)) same).0

pub standing-bound : (a b : Meaning) → same_standing a b ≡ true → is_bound a ≡ is_bound b
standing-bound a b same = bools-alike (is_bound a) (is_bound b) (and_parts (same_meaning a b) (alike_bools (is_bound a) (is_bound b)) same).1

pub standing-from : (a b : Meaning) → same_meaning a b ≡ true → is_bound a ≡ is_bound b → same_standing a b ≡ true
standing-from a b same bound = and_from (same_meaning a b) (alike_bools (is_bound a) (is_bound b)) same (bool-itself (is_bound a) (is_bound b) bound)

pub standing-itself : (a : Meaning) → same_standing a a ≡ true
standing-itself a = standing-from a a (meaning-itself a) refl

pub standing-equal : (a b : Meaning) → a ≡ b → same_standing a b ≡ true
standing-equal a b same = ap (same_standing a) (sym same) ∙ standing-itself a

pub standing-unlike : (a b : Meaning) → same_meaning a b ≡ false → same_standing a b ≡ false
standing-unlike a b unlike = ap (λ t. t && alike_bools (is_bound a) (is_bound b)) unlike

-- a bound name is none that is not
pub bound-apart : (a b : Meaning) → is_bound a ≡ true → is_bound b ≡ false → same_standing a b ≡ false
bound-apart a b bound free = by_test (same_standing a b) refl
  where
    by_test : (t : Bool) → same_standing a b ≡ t → t ≡ false
    by_test true e = sym bound ∙ standing-bound a b e ∙ free
    by_test false e = refl

-- of names that are not bound, their declarations decide
pub free-standing : (a b : Meaning) → is_bound a ≡ false → is_bound b ≡ false → same_standing a b ≡ same_meaning a b
free-standing a b free other = by_test (same_meaning a b) refl
  where
    by_test : (t : Bool) → same_meaning a b ≡ t → same_standing a b ≡ t
    by_test true e = standing-from a b e (free ∙ sym other)
    by_test false e = standing-unlike a b e

pub standing-alike : (a b c : Meaning) → same_standing a b ≡ true → same_standing a c ≡ same_standing b c
standing-alike a b c same =
    ap (λ t. t && alike_bools (is_bound a) (is_bound c)) (same-alike a b c (standing-means a b same))
    ∙ ap (λ t. same_meaning b c && alike_bools t (is_bound c)) (standing-bound a b same)

pub standing-turned : (a b : Meaning) → same_standing a b ≡ true → same_standing b a ≡ true
standing-turned a b same = sym (standing-alike a b a same) ∙ standing-itself a
