-- Names that are put into faces, each once.
use Rattle.std.proofs.Common.{◌≡◌, ℕ, Bool, true, false, List, [], ◌∷◌, ◌++◌, Option, Some, None, refl, sym, ap, ◌∙◌, cond, if◌then◌else◌, true≢false}
use Rattle.std.specs.Prelude.{is_some, string_bytes, String}
use Rattle.std.specs.Borrow.{Bor}
use Rattle.std.specs.Option.{option_copied, option_or}
use Rattle.std.specs.Str.{bytes_eq}
use Rattle.std.specs.String.{string_eq}
use Rattle.std.specs.declared.alloc.Global.{Global}
use Rattle.indexmap.specs.IndexMap.{UpdatesBy, get_by_text}
use Rattle.std.proofs.lemmas.Map.Text.{hash_map_updates_text}
use Rattle.list_laws.proofs.Options.{none-there}
use Rattle.list_laws.proofs.Texts.{same-text, text-itself, texts-apart}
use Rattle.tla_symbols.specs.declared.op.Op.{Op}
use Rattle.tla_model.specs.Tables.{Named, Word, Symbol, lookup, same_named, same_symbol}
use Rattle.flat_trees.proofs.Meanings.{named-equal}
use Rattle.module_leads.specs.declared.faces.ListedNames.{ListedNames}
use Rattle.module_leads.specs.declared.ways.Way.TheVariants as way
use Rattle.module_leads.specs.Faces.{way_among}

or-none : {A : Type 0} (o : Option A) → o ≡ option_or o None
or-none None = refl
or-none (Some x) = refl

or-there : {A : Type 0} (o p : Option A) → is_some o ≡ true → o ≡ option_or o p
or-there None p there = absurd (true≢false (sym there))
or-there (Some x) p there = refl

pub some-copied : {A : Type 0} (found : Option (Bor A)) → is_some found ≡ true → is_some (option_copied found) ≡ true
some-copied None there = there
some-copied (Some x) there = refl

pub lookup-more : {K V : Type 0} (same : K → K → Bool) (entries : List (K × V)) (key : K) (value : V) (other : K) → lookup same (entries ++ (key, value) ∷ []) other ≡ option_or (lookup same entries other) (if same other key then Some value else None)
lookup-more same [] key value other = refl
lookup-more same (entry ∷ entries) key value other = by (same other entry.0) (lookup-more same entries key value other)
  where
    by : (b : Bool) → lookup same (entries ++ (key, value) ∷ []) other ≡ option_or (lookup same entries other) (if same other key then Some value else None) →
        (if b then Some entry.1 else lookup same (entries ++ (key, value) ∷ []) other) ≡ option_or (if b then Some entry.1 else lookup same entries other) (if same other key then Some value else None)
    by true rest = refl
    by false rest = rest

-- a name that is there stays
pub there-stays : (names : ListedNames) (name : Named) (way : way.the_data) → is_some (way_among names name) ≡ true → (other : Named) → way_among names other ≡ option_or (way_among names other) (if same_named other name then Some way else None)
there-stays names name way there other = by (same_named other name) refl
  where
    by : (b : Bool) → same_named other name ≡ b → way_among names other ≡ option_or (way_among names other) (if b then Some way else None)
    by true e = or-there (way_among names other) (Some way) (ap (λ (n : Named). is_some (way_among names n)) (named-equal other name e) ∙ there)
    by false e = or-none (way_among names other)

-- a symbol goes last
pub symbol-pushed : (old new : ListedNames) (op : Op) (way : way.the_data) → new.words ≡ old.words → new.symbols.items ≡ old.symbols.items ++ (op, way) ∷ []
    → (other : Named) → way_among new other ≡ option_or (way_among old other) (if same_named other (Symbol op) then Some way else None)
symbol-pushed old new op way words symbols (Word bytes) = (λ i. get_by_text (words i) bytes) ∙ or-none (get_by_text old.words bytes)
symbol-pushed old new op way words symbols (Symbol o) = ap (λ z. lookup same_symbol z o) symbols ∙ lookup-more same_symbol old.symbols.items op way o

-- and so does a word
pub word-put : (old new : ListedNames) (key : String Global) (word : List ℕ) (way : way.the_data) → string_bytes key ≡ word → is_some (get_by_text old.words word) ≡ false → new.symbols ≡ old.symbols
    → UpdatesBy string_eq (λ k. bytes_eq (string_bytes key) (string_bytes k)) old.words new.words (Some way)
    → (other : Named) → way_among new other ≡ option_or (way_among old other) (if same_named other (Word word) then Some way else None)
word-put old new key word way spelled absent symbols updates (Symbol o) = (λ i. lookup same_symbol (symbols i).items o) ∙ or-none (lookup same_symbol old.symbols.items o)
word-put old new key word way spelled absent symbols updates (Word bytes) =
    hash_map_updates_text (string_bytes key) old.words new.words (Some way) updates bytes
    ∙ (λ i. cond (bytes_eq (spelled i) bytes) (Some way) (get_by_text old.words bytes))
    ∙ by (bytes_eq bytes word) refl
  where
    by : (b : Bool) → bytes_eq bytes word ≡ b → cond (bytes_eq word bytes) (Some way) (get_by_text old.words bytes) ≡ option_or (get_by_text old.words bytes) (if b then Some way else None)
    by true e =
        let same = same-text bytes word e in
        ap (λ (z : Bool). cond z (Some way) (get_by_text old.words bytes)) (text-itself word bytes (sym same))
        ∙ sym (ap (λ o. option_or o (Some way)) (none-there (get_by_text old.words bytes) (ap (λ z. is_some (get_by_text old.words z)) same ∙ absent)))
    by false e = ap (λ (z : Bool). cond z (Some way) (get_by_text old.words bytes)) (texts-apart bytes word e) ∙ or-none (get_by_text old.words bytes)
