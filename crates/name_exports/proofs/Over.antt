-- Words that are taken over: as if they were put one by one.
use Rattle.std.proofs.Common.{◌≡◌, ℕ, List, [], ◌∷◌, ◌++◌, Option, Some, None, Bool, true, false, cond, ◌||◌, append_assoc, refl, ap, sym, subst, ◌∙◌, ⊎_elim}
use Rattle.std.specs.Prelude.{is_some, option_map}
use Rattle.std.specs.Str.{bytes_eq}
use Rattle.std.proofs.lemmas.Bool.{cases_Bool}
use Rattle.std.proofs.lemmas.List.{append-nil}
use Rattle.tla_model.specs.Entities.{Meaning}
use Rattle.module_model.specs.Exports.{of_words}
use Rattle.module_model.specs.Modules.{Reading, brings_clash, clashes, differs, extended, with_entry}
use Rattle.tla_model.specs.Tables.{AreNew, Named, Word, lookup}
use Rattle.tla_model.proofs.Stretching.{found-next, none-next}
use Rattle.list_laws.proofs.Texts.{texts-apart}
use Rattle.name_exports.specs.declared.names.Names.{Names}
use Rattle.name_context.specs.AsTables.{AreApart, CanTake, context_of, usable_words}
use Rattle.name_exports.specs.Brought.{IsBrought, ModuleNames, as_read, brought}
use Rattle.name_context.proofs.Looking.{all-apart, lookup-usable, something-append}

-- ---- words apart

pub apart-first : (word : List ℕ × Meaning) (words : List (List ℕ × Meaning)) (others : List (List ℕ × Option Meaning)) → AreApart (word ∷ words) others → lookup bytes_eq others word.0 ≡ None
apart-first word words [] apart = refl
apart-first word words (other ∷ others) apart = ⊎_elim
    (λ (t : bytes_eq other.0 word.0 ≡ true). let e = sym (ap (λ (b : Bool). cond b (Some word.1) (lookup bytes_eq words other.0)) t) ∙ apart.0 in cc)
    (λ (f : bytes_eq other.0 word.0 ≡ false).
    ap (λ (b : Bool). cond b (Some other.1) (lookup bytes_eq others word.0)) (texts-apart other.0 word.0 f) ∙ apart-first word words others apart.1)
    (cases_Bool (bytes_eq other.0 word.0))

pub apart-rest : (word : List ℕ × Meaning) (words : List (List ℕ × Meaning)) (others : List (List ℕ × Option Meaning)) → AreApart (word ∷ words) others → AreApart words others
apart-rest word words [] apart = tt
apart-rest word words (other ∷ others) apart = (none-next bytes_eq (word ∷ []) words other.0 apart.0, apart-rest word words others apart.1)

-- ---- words that are taken over

-- words are new behind others that are apart from them
pub new-behind : (others : List (List ℕ × Option Meaning)) (before words : List (List ℕ × Meaning)) → AreApart words others → AreNew bytes_eq before words → AreNew bytes_eq (others ++ usable_words before) (usable_words words)
new-behind others before [] apart new = tt
new-behind others before (word ∷ words) apart new = (
  found-next bytes_eq others (usable_words before) word.0 (apart-first word words others apart) ∙ lookup-usable before word.0 ∙ ap (λ found. option_map (λ meaning. Some meaning) found) new.0,
  subst (λ z. AreNew bytes_eq z (usable_words words))
      (ap (λ z. others ++ z) (something-append before (word ∷ [])) ∙ sym (append_assoc others (usable_words before) ((word.0, Some word.1) ∷ [])))
      (new-behind others (before ++ word ∷ []) words (apart-rest word words others apart) new.1),
)

-- a module with words behind those of its context and of its exports
abbrev pub over : Reading → List (List ℕ × Meaning) → Reading
over reading words = record {
  name = reading.name;
  context = record { words = reading.context.words ++ usable_words words; symbols = reading.context.symbols };
  exports = record { words = reading.exports.words ++ words; symbols = reading.exports.symbols };
  modules = reading.modules;
}

pub record IsOver (reading : Reading) (words : List (List ℕ × Meaning)) : Type 0 where
  pub reads : extended reading (of_words words) ≡ over reading words
  pub fits : brings_clash reading (of_words words) ≡ false

-- new words are put behind, and none of them clashes
pub all-over : (reading : Reading) (words : List (List ℕ × Meaning)) → AreNew bytes_eq reading.context.words (usable_words words) → AreNew bytes_eq reading.exports.words words → IsOver reading words
all-over reading [] seen shown = record {
  reads = λ i. record reading { context = record { words = sym (append-nil reading.context.words) i; symbols = reading.context.symbols }; exports = record { words = sym (append-nil reading.exports.words) i; symbols = reading.exports.symbols } };
  fits = refl;
}
all-over reading (word ∷ words) seen shown =
    let entry : Named × Meaning = (Word word.0, word.1) in
    let fits : clashes reading.context entry ≡ false = ap (λ found. differs found word.1) seen.0 in
    let put : brought false reading entry ≡ over reading (word ∷ []) =
    ap (λ (b : Bool). cond b reading (with_entry false reading (Word word.0) word.1)) fits
    ∙ (λ i. record reading {
      context = record { words = cond (is_some (seen.0 i)) reading.context.words (reading.context.words ++ (word.0, Some word.1) ∷ []); symbols = reading.context.symbols };
      exports = record { words = cond (is_some (shown.0 i)) reading.exports.words (reading.exports.words ++ (word.0, word.1) ∷ []); symbols = reading.exports.symbols };
    })
    in
    let rest = all-over (over reading (word ∷ [])) words seen.1 shown.1 in
    record {
      reads = ap (λ r. extended r (of_words words)) put ∙ rest.reads
          ∙ (λ i. record reading {
            context = record { words = append_assoc reading.context.words ((word.0, Some word.1) ∷ []) (usable_words words) i; symbols = reading.context.symbols };
            exports = record { words = append_assoc reading.exports.words ((word.0, word.1) ∷ []) words i; symbols = reading.exports.symbols };
          });
      fits = ap (λ b. b || brings_clash (brought false reading entry) (of_words words)) fits ∙ ap (λ r. brings_clash r (of_words words)) put ∙ rest.fits;
    }

pub taken-over : (old new : Names) (words : List (List ℕ × Meaning)) → CanTake old.context words → AreNew bytes_eq [] words → old.exports.words ≡ [] →
    context_of new.context ≡ record { words = (context_of old.context).words ++ usable_words words; symbols = (context_of old.context).symbols } → new.exports ≡ record { words = words; symbols = old.exports.symbols } → IsBrought old new false (of_words words)
taken-over old new words can once none seen shown = record {
  reads = λ title taken. (λ i. record { name = title; context = seen i; exports = shown i; modules = taken }) ∙ (λ i. record { name = title; context = record { words = (context_of old.context).words ++ usable_words words; symbols = (context_of old.context).symbols }; exports = record { words = sym none i ++ words; symbols = old.exports.symbols }; modules = taken }) ∙ sym (is title taken).reads;
  tells = λ title taken. sym (is title taken).fits;
}
  where
    is : (title : List ℕ) (taken : ModuleNames) → IsOver (as_read title taken old) words
    is title taken = all-over (as_read title taken old) words
        (subst (λ z. AreNew bytes_eq z (usable_words words)) (append-nil (context_of old.context).words) (new-behind (context_of old.context).words [] words (all-apart old.context words can) once))
        (subst (λ z. AreNew bytes_eq z words) (sym none) once)
