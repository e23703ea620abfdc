-- Words as they are looked up in a context: before those that were taken over, among these, and behind them.
use Rattle.std.proofs.Common.{◌≡◌, ℕ, zero, suc, ◌-◌, ◌≤◌, min, take, drop, length, List, [], ◌∷◌, ◌++◌, Option, Some, None, Bool, true, false, cond, refl, ap, sym, subst, ◌∙◌, arith}
use Rattle.std.specs.Prelude.{is_some, option_map}
use Rattle.std.specs.Borrow.{Bor}
use Rattle.std.specs.Option.{option_copied}
use Rattle.std.specs.Str.{bytes_eq}
use Rattle.std.proofs.lemmas.List.{map-append, take-map}
use Rattle.tla_model.specs.Entities.{Meaning}
use Rattle.tla_model.specs.Tables.{lookup}
use Rattle.tla_model.proofs.Stretching.{found-first, found-next, take-both}
use Rattle.name_context.specs.declared.context.Context.{Context}
use Rattle.name_context.specs.AsTables.{AreApart, CanTake, context_of, taken_words, usable_words, words_of}

-- words that were taken over can be used
pub lookup-usable : (words : List (List ℕ × Meaning)) (word : List ℕ) → lookup bytes_eq (usable_words words) word ≡ option_map (λ meaning. Some meaning) (lookup bytes_eq words word)
lookup-usable [] word = refl
lookup-usable (entry ∷ words) word = by (bytes_eq word entry.0) (lookup-usable words word)
  where
    by : (b : Bool) → lookup bytes_eq (usable_words words) word ≡ option_map (λ meaning. Some meaning) (lookup bytes_eq words word) →
        cond b (Some (Some entry.1)) (lookup bytes_eq (usable_words words) word) ≡ option_map (λ meaning. Some meaning) (cond b (Some entry.1) (lookup bytes_eq words word))
    by true rest = refl
    by false rest = rest

pub something-take : (n : ℕ) (words : List (List ℕ × Meaning)) → take n (usable_words words) ≡ usable_words (take n words)
something-take n words = take-map (λ (entry : List ℕ × Meaning). (entry.0, Some entry.1)) n words

pub something-append : (a b : List (List ℕ × Meaning)) → usable_words (a ++ b) ≡ usable_words a ++ usable_words b
something-append a b = map-append (λ (entry : List ℕ × Meaning). (entry.0, Some entry.1)) a b

pub something-length : (words : List (List ℕ × Meaning)) → length (usable_words words) ≡ length words
something-length [] = refl
something-length (entry ∷ words) = ap suc (something-length words)

pub take-min : {A : Type 0} (n m : ℕ) (xs : List A) → take n (take m xs) ≡ take (min m n) xs
take-min zero m xs = let none : zero ≡ min m zero = omega arith in ap (λ (k : ℕ). take k xs) none
take-min (suc n) zero xs = let none : zero ≡ min zero (suc n) = omega arith in ap (λ (k : ℕ). take k xs) none
take-min (suc n) (suc m) [] = let some : suc (min m n) ≡ min (suc m) (suc n) = omega arith in ap (λ (k : ℕ). take k []) some
take-min (suc n) (suc m) (x ∷ xs) = let some : suc (min m n) ≡ min (suc m) (suc n) = omega arith in ap (λ z. x ∷ z) (take-min n m xs) ∙ ap (λ (k : ℕ). take k (x ∷ xs)) some

-- how many words there are before those behind the ones that were taken over
pub take-three : {A : Type 0} (n : ℕ) (a b c : List A) → take n (a ++ (b ++ c)) ≡ take n a ++ (take (n - length a) b ++ take ((n - length a) - length b) c)
take-three n a b c = take-both n a (b ++ c) ∙ ap (λ z. take n a ++ z) (take-both (n - length a) b c)

-- a word that no two of three have
pub found-third : {V : Type 0} (a b c : List (List ℕ × V)) (word : List ℕ) → lookup bytes_eq a word ≡ None → lookup bytes_eq b word ≡ None → lookup bytes_eq (a ++ (b ++ c)) word ≡ lookup bytes_eq c word
found-third a b c word first second = found-next bytes_eq a (b ++ c) word first ∙ found-next bytes_eq b c word second

pub found-second : {V : Type 0} (a b c : List (List ℕ × V)) (word : List ℕ) (value : V) → lookup bytes_eq a word ≡ None → lookup bytes_eq b word ≡ Some value → lookup bytes_eq (a ++ (b ++ c)) word ≡ Some value
found-second a b c word value first second = found-next bytes_eq a (b ++ c) word first ∙ found-first bytes_eq b c word value second

-- ---- words that can be taken over

abbrev nothing : List (List ℕ × Meaning)
nothing = []

take-none : (n : ℕ) → take n nothing ≡ nothing
take-none zero = refl
take-none (suc n) = refl

-- the words of a context that nothing was taken over into
own-words : (context : Context) (words : List (List ℕ × Meaning)) → CanTake context words → (context_of context).words ≡ words_of context.words.entries
own-words context words can =
    (λ i. words_of (can.before i) ++ (usable_words (take context.shared_len (taken_words (can.taken i))) ++ words_of context.words.entries))
    ∙ ap (λ z. usable_words z ++ words_of context.words.entries) (take-none context.shared_len)

-- none of those that are there is one of them
pub all-apart : (context : Context) (words : List (List ℕ × Meaning)) → CanTake context words → AreApart words (context_of context).words
all-apart context words can = subst (AreApart words) (sym (own-words context words can)) can.apart

-- ---- what code has of them

pub none-copied : {A : Type 0} (found : Option (Bor A)) → is_some found ≡ false → option_copied found ≡ None
none-copied None none = refl
none-copied (Some x) none = cc

pub none-mapped : {A B : Type 0} (f : A → B) (found : Option A) → is_some found ≡ false → option_map f found ≡ None
none-mapped f None none = refl
none-mapped f (Some x) none = cc

pub words-length : {V : Type 0} (entries : List (Bor (List ℕ) × V)) → length (words_of entries) ≡ length entries
words-length [] = refl
words-length (entry ∷ entries) = ap suc (words-length entries)

pub drop-beyond : {A : Type 0} (n : ℕ) (xs : List A) → length xs ≤ n → drop n xs ≡ []
drop-beyond zero [] beyond = refl
drop-beyond (suc n) [] beyond = refl
drop-beyond zero (x ∷ xs) beyond = absurd (omega (arith, beyond))
drop-beyond (suc n) (x ∷ xs) beyond = drop-beyond n xs (omega (arith, beyond))
