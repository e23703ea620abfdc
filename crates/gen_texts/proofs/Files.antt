-- The files that are made have names of their own, and are small.
use Rattle.std.proofs.Common.{◌≡◌, ◌<◌, ◌≤◌, ◌^◌, ◌+◌, ◌*◌, ◌/◌, ℕ, zero, suc, List, [], ◌∷◌, ◌++◌, Some, refl, sym, ap, ◌∙◌, arith, length, inl, inr}
use Rattle.std.specs.Prelude.{◌⊎◌, slice_get, sum_by}
use Rattle.std.specs.Fmt.{decimal}
use Rattle.std.proofs.lemmas.Fmt.{decimal_injective, length-decimal-le}
use Rattle.std.proofs.lemmas.List.{length-append}
use Rattle.std.proofs.lemmas.List.Sums.{sum_by_push}
use Rattle.family_facts.specs.Verdicts.{AreDistinct}
use Rattle.family_facts.specs.declared.verdict.File.{File}
use Rattle.gen_texts.specs.Texts.{further_text, name_of, text_of}
use Rattle.gen_texts.specs.Generated.{file_of, generated}

-- ---- names

-- one file more stands behind the others
last-or-before : {A : Type 0} (xs : List A) (y : A) (i : ℕ) (x : A) → slice_get (xs ++ y ∷ []) i ≡ Some x → (slice_get xs i ≡ Some x) ⊎ ((i ≡ length xs) × (x ≡ y))
last-or-before [] y zero x e = inr (refl, cc)
last-or-before [] y (suc i) x e = cc
last-or-before (z ∷ xs) y zero x e = inl e
last-or-before (z ∷ xs) y (suc i) x e = elim (last-or-before xs y i x e) as (λ _. (slice_get (z ∷ xs) (suc i) ≡ Some x) ⊎ ((suc i ≡ length (z ∷ xs)) × (x ≡ y))) [
  | inl before ↦ inl before
  | inr last ↦ let at : i ≡ length xs = last.0 in inr (omega (arith, at), last.1)
]

length-generated : (n : ℕ) → length (generated n) ≡ n
length-generated zero = refl
length-generated (suc n) = let rest = length-generated n in let e : length (generated n ++ file_of n ∷ []) ≡ length (generated n) + 1 = length-append (generated n) (file_of n ∷ []) in omega (arith, rest, e)

file-at : (n i : ℕ) (file : File) → slice_get (generated n) i ≡ Some file → (i < n) × (file ≡ file_of i)
file-at zero i file e = cc
file-at (suc n) i file e = elim (last-or-before (generated n) (file_of n) i file e) as (λ _. (i < suc n) × (file ≡ file_of i)) [
  | inl before ↦ let rest = file-at n i file before in let less : i < n = rest.0 in (omega arith, rest.1)
  | inr last ↦ let at : i ≡ n = last.0 ∙ length-generated n in (omega (arith, at), last.1 ∙ ap file_of (sym at))
]

-- what stands behind the first letter
same-rest : (number other : ℕ) → name_of number ≡ name_of other → decimal number ≡ decimal other
same-rest number other e = cc

pub are-distinct : (n : ℕ) → n < 2 ^ 16 → AreDistinct (generated n)
are-distinct n few i j a b ei ej same =
    let at = file-at n i a ei in
    let other = file-at n j b ej in
    let less : i < n = at.0 in
    let less' : j < n = other.0 in
    decimal_injective i j (omega arith) (omega arith) (same-rest i j (ap (λ (f : File). f.name) (sym at.1) ∙ same ∙ ap (λ (f : File). f.name) other.1))

-- ---- bytes

short : (n : ℕ) → n < 2 ^ 16 → length (decimal n) ≤ 5
short n few = length-decimal-le 5 n (omega arith) (omega arith) (omega arith)

further-small : (number other : ℕ) → number < 2 ^ 16 → other < 2 ^ 16 → length (further_text number other) ≤ 256
further-small number other few few' =
    let one : length (decimal number) ≤ 5 = short number few in
    let two : length (decimal other) ≤ 5 = short other few' in
    rw (length-append (decimal number), length-append (decimal other)) (omega arith)

text-small : (n : ℕ) → n < 2 ^ 16 → length (text_of n) ≤ 256
text-small zero few = omega arith
text-small (suc n) few = further-small (suc n) (n / 2) few (omega arith)

pub are-small : (n : ℕ) → n < 2 ^ 16 → sum_by (λ (file : File). length file.bytes) (generated n) ≤ n * 256
are-small zero few = omega arith
are-small (suc n) few =
    let rest = are-small n (omega arith) in
    let one : length (text_of n) ≤ 256 = text-small n (omega arith) in
    rw (sum_by_push (λ (file : File). length file.bytes) (generated n) (file_of n)) (omega (arith, rest, one))
