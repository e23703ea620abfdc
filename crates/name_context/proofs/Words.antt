-- Words of a table in code, as words of the definitions.
use Rattle.std.proofs.Common.{◌≡◌, ℕ, zero, suc, take, List, [], ◌∷◌, ◌++◌, Some, Bool, true, false, refl, ap, cond}
use Rattle.std.specs.Prelude.{is_some}
use Rattle.std.specs.Borrow.{Bor}
use Rattle.std.specs.Map as map
use Rattle.std.specs.Str.{bytes_eq}
use Rattle.tla_model.specs.Tables.{lookup, added}
use Rattle.name_context.specs.AsTables.{words_of}

pub lookup-words : {V : Type 0} (entries : List (Bor (List ℕ) × V)) (word : List ℕ) → map.lookup (λ (key : Bor (List ℕ)). bytes_eq word key.now) entries ≡ lookup bytes_eq (words_of entries) word
lookup-words [] word = refl
lookup-words (entry ∷ entries) word = ap (λ rest. cond (bytes_eq word entry.0.now) (Some entry.1) rest) (lookup-words entries word)

pub words-take : {V : Type 0} (n : ℕ) (entries : List (Bor (List ℕ) × V)) → words_of (take n entries) ≡ take n (words_of entries)
words-take zero entries = refl
words-take (suc n) [] = refl
words-take (suc n) (entry ∷ entries) = ap (λ rest. (entry.0.now, entry.1) ∷ rest) (words-take n entries)

pub words-append : {V : Type 0} (entries : List (Bor (List ℕ) × V)) (entry : Bor (List ℕ) × V) → words_of (entries ++ entry ∷ []) ≡ words_of entries ++ (entry.0.now, entry.1) ∷ []
words-append [] entry = refl
words-append (first ∷ entries) entry = ap (λ rest. (first.0.now, first.1) ∷ rest) (words-append entries entry)

-- a key that is there, and one that is not
pub added-there : {K V : Type 0} (same : K → K → Bool) (entries : List (K × V)) (key : K) (value : V) → is_some (lookup same entries key) ≡ true → entries ≡ added same entries key value
added-there same entries key value there = rw there refl

pub added-new : {K V : Type 0} (same : K → K → Bool) (entries : List (K × V)) (key : K) (value : V) → is_some (lookup same entries key) ≡ false → entries ++ (key, value) ∷ [] ≡ added same entries key value
added-new same entries key value new = rw new refl
