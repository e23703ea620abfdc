-- Words of a table that are there as they stand in it: to bring them changes nothing.
use Rattle.std.proofs.Common.{◌≡◌, ℕ, ◌≤◌, List, [], ◌∷◌, ◌++◌, Option, Some, Bool, false, cond, ◌||◌, append_assoc, length, take, drop, refl, ap, sym, subst, ◌∙◌}
use Rattle.std.specs.Prelude.{is_some, not}
use Rattle.std.specs.List.{AllByRecursion}
use Rattle.std.specs.Str.{bytes_eq}
use Rattle.std.proofs.lemmas.List.{append-nil, take-append-drop, take_all}
use Rattle.tla_model.specs.Entities.{Meaning}
use Rattle.module_model.specs.Exports.{of_words}
use Rattle.module_model.specs.Modules.{Reading, brings_clash, clashes, differs, extended, with_entry}
use Rattle.tla_model.specs.Tables.{AreNew, Named, Word, lookup}
use Rattle.tla_model.proofs.Stretching.{found-next, new-first, new-next, none-among, none-next}
use Rattle.tla_model.specs.Same.{meaning-itself}
use Rattle.list_laws.proofs.Texts.{text-itself}
use Rattle.name_exports.specs.declared.names.Names.{Names}
use Rattle.name_context.specs.AsTables.{AreApart, behind, context_of, first_words, usable_words}
use Rattle.name_exports.specs.Brought.{AreFirst, IsBrought, ModuleNames, as_read, brought}
use Rattle.name_exports.proofs.Bringing.{bring-both, of_words-append}
use Rattle.name_context.proofs.Looking.{something-append}
use Rattle.name_exports.proofs.Over.{IsOver, all-over, new-behind}

-- ---- words that are there

record IsThere (reading : Reading) (word : List ℕ × Meaning) : Type 0 where
  pub seen : lookup bytes_eq reading.context.words word.0 ≡ Some (Some word.1)
  pub shown : lookup bytes_eq reading.exports.words word.0 ≡ Some word.1

record ChangesNothing (reading : Reading) (words : List (List ℕ × Meaning)) : Type 0 where
  pub reads : extended reading (of_words words) ≡ reading
  pub fits : brings_clash reading (of_words words) ≡ false

all-there : (reading : Reading) (words : List (List ℕ × Meaning)) → AllByRecursion (IsThere reading) words → ChangesNothing reading words
all-there reading [] there = record { reads = refl; fits = refl }
all-there reading (word ∷ words) there =
    let entry : Named × Meaning = (Word word.0, word.1) in
    let fits : clashes reading.context entry ≡ false = ap (λ found. differs found word.1) there.0.seen ∙ ap not (meaning-itself word.1) in
    let put : brought false reading entry ≡ reading =
    ap (λ (b : Bool). cond b reading (with_entry false reading (Word word.0) word.1)) fits
    ∙ (λ i. record reading {
      context = record { words = cond (is_some (there.0.seen i)) reading.context.words (reading.context.words ++ (word.0, Some word.1) ∷ []); symbols = reading.context.symbols };
      exports = record { words = cond (is_some (there.0.shown i)) reading.exports.words (reading.exports.words ++ (word.0, word.1) ∷ []); symbols = reading.exports.symbols };
    })
    in
    let rest = all-there reading words there.1 in
    record {
      reads = ap (λ r. extended r (of_words words)) put ∙ rest.reads;
      fits = ap (λ b. b || brings_clash (brought false reading entry) (of_words words)) fits ∙ ap (λ r. brings_clash r (of_words words)) put ∙ rest.fits;
    }

-- ---- words that stand in a list are found there

found-own : {V : Type 0} (before words after : List (List ℕ × V)) → AreNew bytes_eq before words → AllByRecursion (λ (word : List ℕ × V). lookup bytes_eq (before ++ (words ++ after)) word.0 ≡ Some word.1) words
found-own before [] after new = tt
found-own {V} before (word ∷ words) after new = (
  found-next bytes_eq before ((word ∷ words) ++ after) word.0 new.0 ∙ ap (λ (b : Bool). cond b (Some word.1) (lookup bytes_eq (words ++ after) word.0)) (text-itself word.0 word.0 refl),
  subst (λ z. AllByRecursion (λ (word : List ℕ × V). lookup bytes_eq z word.0 ≡ Some word.1) words) (append_assoc before (word ∷ []) (words ++ after)) (found-own (before ++ word ∷ []) words after new.1),
)

both-there : (reading : Reading) (words : List (List ℕ × Meaning)) →
    AllByRecursion (λ (word : List ℕ × Option Meaning). lookup bytes_eq reading.context.words word.0 ≡ Some word.1) (usable_words words) →
    AllByRecursion (λ (word : List ℕ × Meaning). lookup bytes_eq reading.exports.words word.0 ≡ Some word.1) words → AllByRecursion (IsThere reading) words
both-there reading [] seen shown = tt
both-there reading (word ∷ words) seen shown = (record { seen = seen.0; shown = shown.0 }, both-there reading words seen.1 shown.1)

-- ---- the first words of a table, and the others

apart-first : (count : ℕ) (words : List (List ℕ × Meaning)) (others : List (List ℕ × Option Meaning)) → AreApart words others → AreApart (take count words) others
apart-first count words [] apart = tt
apart-first count words (other ∷ others) apart = (none-among bytes_eq count words other.0 apart.0, apart-first count words others apart.1)

apart-others : (a b : List (List ℕ × Meaning)) (others : List (List ℕ × Option Meaning)) → AreApart (a ++ b) others → AreApart b others
apart-others a b [] apart = tt
apart-others a b (other ∷ others) apart = (none-next bytes_eq a b other.0 apart.0, apart-others a b others apart.1)

split : {A : Type 0} (count : ℕ) (xs : List A) (first : List A) → take count xs ≡ first → first ++ drop count xs ≡ xs
split count xs first is = ap (λ z. z ++ drop count xs) (sym is) ∙ take-append-drop count xs

whole : {A : Type 0} (count : ℕ) (xs : List A) (first : List A) → take count xs ≡ first → length xs ≤ count → xs ≡ first
whole count xs first is most = sym (take_all count xs most) ∙ is

module _ (old : Names) (words : List (List ℕ × Meaning)) (count : ℕ) (so : AreFirst old words count) where
  both-new : AreNew bytes_eq [] (take count words ++ drop count words)
  both-new = subst (AreNew bytes_eq []) (sym (take-append-drop count words)) so.once

  first-new : AreNew bytes_eq [] (take count words)
  first-new = new-first bytes_eq [] (take count words) (drop count words) both-new

  others-new : AreNew bytes_eq (take count words) (drop count words)
  others-new = new-next bytes_eq [] (take count words) (drop count words) both-new

  seen-new : AreNew bytes_eq (first_words old.context) (usable_words (take count words))
  seen-new =
      let before = first_words old.context in
      subst (λ z. AreNew bytes_eq z (usable_words (take count words))) (append-nil before) (new-behind before [] (take count words) (apart-first count words before so.apart) first-new)

  -- to bring the first ones changes nothing
  first-brought : IsBrought old old false (of_words (take count words))
  first-brought = record { reads = λ title taken. sym (is title taken).reads; tells = λ title taken. sym (is title taken).fits }
    where
      seen : AllByRecursion (λ (word : List ℕ × Option Meaning). lookup bytes_eq (context_of old.context).words word.0 ≡ Some word.1) (usable_words (take count words))
      seen =
          let first = usable_words (take count words) in
          let before = first_words old.context in
          subst (λ z. AllByRecursion (λ (word : List ℕ × Option Meaning). lookup bytes_eq (before ++ z) word.0 ≡ Some word.1) first)
          (split count (behind old.context) first so.seen) (found-own before first (drop count (behind old.context)) seen-new)

      shown : AllByRecursion (λ (word : List ℕ × Meaning). lookup bytes_eq old.exports.words word.0 ≡ Some word.1) (take count words)
      shown =
          subst (λ z. AllByRecursion (λ (word : List ℕ × Meaning). lookup bytes_eq z word.0 ≡ Some word.1) (take count words))
          (split count old.exports.words (take count words) so.shown) (found-own [] (take count words) (drop count old.exports.words) first-new)

      is : (title : List ℕ) (taken : ModuleNames) → ChangesNothing (as_read title taken old) (take count words)
      is title taken = all-there (as_read title taken old) (take count words) (both-there (as_read title taken old) (take count words) seen shown)

  -- so the others are what is brought
  pub others-brought : (new : Names) (clash : Bool) → IsBrought old new clash (of_words (drop count words)) → IsBrought old new clash (of_words words)
  others-brought new clash rest =
      subst (IsBrought old new clash) (sym (of_words-append (take count words) (drop count words)) ∙ ap of_words (take-append-drop count words))
      (bring-both false old old new false clash (of_words (take count words)) (of_words (drop count words)) first-brought rest)

  -- where there are no words but the first ones, the table is taken over in their place
  pub longer-brought : (new : Names) → length old.exports.words ≤ count → length (behind old.context) ≤ count →
      context_of new.context ≡ record { words = first_words old.context ++ usable_words words; symbols = (context_of old.context).symbols } →
      new.exports ≡ record { words = words; symbols = old.exports.symbols } → IsBrought old new false (of_words words)
  longer-brought new most-shown most-seen seen shown = others-brought new false (record {
    reads = λ title taken. (λ i. record { name = title; context = seen i; exports = shown i; modules = taken })
        ∙ (λ i. record { name = title; context = record { words = seen-words i; symbols = (context_of old.context).symbols }; exports = record { words = shown-words i; symbols = old.exports.symbols }; modules = taken })
        ∙ sym (is title taken).reads;
    tells = λ title taken. sym (is title taken).fits;
  })
    where
      all-shown : old.exports.words ≡ take count words
      all-shown = whole count old.exports.words (take count words) so.shown most-shown

      all-seen : behind old.context ≡ usable_words (take count words)
      all-seen = whole count (behind old.context) (usable_words (take count words)) so.seen most-seen

      apart : AreApart (drop count words) (first_words old.context)
      apart =
          let before = first_words old.context in
          apart-others (take count words) (drop count words) before (subst (λ z. AreApart z before) (sym (take-append-drop count words)) so.apart)

      is : (title : List ℕ) (taken : ModuleNames) → IsOver (as_read title taken old) (drop count words)
      is title taken =
          let before = first_words old.context in
          all-over (as_read title taken old) (drop count words)
          (subst (λ z. AreNew bytes_eq (before ++ z) (usable_words (drop count words))) (sym all-seen) (new-behind before (take count words) (drop count words) apart others-new))
          (subst (λ z. AreNew bytes_eq z (drop count words)) (sym all-shown) others-new)

      seen-words : first_words old.context ++ usable_words words ≡ (context_of old.context).words ++ usable_words (drop count words)
      seen-words =
          let before = first_words old.context in
          ap (λ z. before ++ usable_words z) (sym (take-append-drop count words))
          ∙ ap (λ z. before ++ z) (something-append (take count words) (drop count words))
          ∙ sym (append_assoc before (usable_words (take count words)) (usable_words (drop count words)))
          ∙ ap (λ z. (before ++ z) ++ usable_words (drop count words)) (sym all-seen)

      shown-words : words ≡ old.exports.words ++ drop count words
      shown-words = sym (take-append-drop count words) ∙ ap (λ z. z ++ drop count words) (sym all-shown)
