-- Names that stand once in a list, and once among those of it that are kept.
use Rattle.std.proofs.Common.{◌≡◌, ◌<◌, ℕ, Bool, true, false, cond, filter, List, [], ◌∷◌, ◌++◌, Option, Some, None, get_or, is_some, length, map, take, refl, ap, sym, ◌∙◌}
use Rattle.std.specs.Prelude.{slice_get}
use Rattle.std.specs.Borrow.{Bor}
use Rattle.std.specs.Str.{bytes_eq}
use Rattle.std.proofs.lemmas.List.{take-map}
use Rattle.std.proofs.lemmas.Option.{slice_get_read}
use Rattle.list_laws.proofs.Lists.{at-map}
use Rattle.tla_symbols.specs.declared.op.Op.{Op}
use Rattle.tla_model.specs.Contexts.{Context}
use Rattle.tla_model.specs.Entities.{Meaning}
use Rattle.tla_model.specs.EntityKinds.{is_meant, stands_for_parameter}
use Rattle.tla_model.specs.Stretches.{shown}
use Rattle.tla_model.specs.Tables.{AreNew, Named, Symbol, Table, Word, find, lookup, put, same_symbol}
use Rattle.tla_model.proofs.Stretching.{found-first, found-next, new-at, none-next}
use Rattle.name_context.proofs.Words.{added-new}
use Rattle.instance_leads.specs.Found.{is_new_symbol, is_new_word, with_last}
use Rattle.instance_leads.proofs.Naming.{symbols_meant}

module _ {K V : Type 0} (same : K → K → Bool) where
  -- what is not found in both is not found in the first
  none-first : (a b : List (K × V)) (key : K) → lookup same (a ++ b) key ≡ None → lookup same a key ≡ None
  none-first a b key none = by (lookup same a key) refl
    where
      by : (found : Option V) → lookup same a key ≡ found → lookup same a key ≡ None
      by None is = is
      by (Some value) is = let found = sym (found-first same a b key value is) ∙ none in cc

  -- what is not found is not found among those that are kept
  none-kept : (keep : K × V → Bool) (xs : List (K × V)) (key : K) → lookup same xs key ≡ None → lookup same (filter keep xs) key ≡ None
  none-kept keep [] key none = refl
  none-kept keep (x ∷ xs) key none = by (keep x) (first x xs none) (none-kept keep xs key (none-next same (x ∷ []) xs key none))
    where
      first : (x : K × V) (xs : List (K × V)) → lookup same (x ∷ xs) key ≡ None → same key x.0 ≡ false
      first x xs none = by-key (same key x.0) none
        where
          by-key : (b : Bool) → cond b (Some x.1) (lookup same xs key) ≡ None → b ≡ false
          by-key true none = cc
          by-key false none = refl

      by : (b : Bool) → same key x.0 ≡ false → lookup same (filter keep xs) key ≡ None → lookup same (cond b (x ∷ filter keep xs) (filter keep xs)) key ≡ None
      by true other rest = ap (λ z. cond z (Some x.1) (lookup same (filter keep xs) key)) other ∙ rest
      by false other rest = rest

  -- those that are kept stand once, behind others that stand there
  new-kept : (keep : K × V → Bool) (before others xs : List (K × V)) → ((key : K) → lookup same before key ≡ None → lookup same others key ≡ None) → AreNew same before xs → AreNew same others (filter keep xs)
  new-kept keep before others [] within new = tt
  new-kept keep before others (x ∷ xs) within new = by (keep x)
      (new-kept keep (before ++ x ∷ []) (others ++ x ∷ []) xs (λ key none. found-next same others (x ∷ []) key (within key (none-first before (x ∷ []) key none)) ∙ none-next same before (x ∷ []) key none) new.1)
      (new-kept keep (before ++ x ∷ []) others xs (λ key none. within key (none-first before (x ∷ []) key none)) new.1)
    where
      by : (b : Bool) → AreNew same (others ++ x ∷ []) (filter keep xs) → AreNew same others (filter keep xs) → AreNew same others (cond b (x ∷ filter keep xs) (filter keep xs))
      by true with-it without = (within x.0 new.0, with-it)
      by false with-it without = without

  -- what is kept of a list stands once
  pub once-kept : (keep : K × V → Bool) (xs : List (K × V)) → AreNew same [] xs → AreNew same [] (filter keep xs)
  once-kept keep xs new = new-kept keep [] [] xs (λ key none. none) new

  -- the next one is not found behind those that are kept of the ones before it
  behind : (before kept all : List (K × V)) (key : K) → (lookup same all key ≡ None → lookup same kept key ≡ None) → lookup same (before ++ all) key ≡ None → lookup same (before ++ kept) key ≡ None
  behind before kept all key within none = found-next same before kept key (none-first before all key none) ∙ within (none-next same before all key none)

  pub next-kept : (keep : K × V → Bool) (before now xs : List (K × V)) (i : ℕ) (x : K × V) → AreNew same before xs → slice_get xs i ≡ Some x → now ≡ before ++ filter keep (take i xs) → lookup same now x.0 ≡ None
  next-kept keep before now xs i x new at so =
      ap (λ z. lookup same z x.0) so ∙ behind before (filter keep (take i xs)) (take i xs) x.0 (none-kept keep (take i xs) x.0) (new-at same before xs i x new at)

  pub next-twice : (keep first : K × V → Bool) (before now xs : List (K × V)) (i : ℕ) (x : K × V) → AreNew same before xs → slice_get xs i ≡ Some x → now ≡ before ++ filter keep (filter first (take i xs)) → lookup same now x.0 ≡ None
  next-twice keep first before now xs i x new at so =
      ap (λ z. lookup same z x.0) so
      ∙ behind before (filter keep (filter first (take i xs))) (take i xs) x.0 (λ none. none-kept keep (filter first (take i xs)) x.0 (none-kept first (take i xs) x.0 none)) (new-at same before xs i x new at)

-- of words, and of symbols
pub word-next : (context : Context) (before now : List (List ℕ × Meaning)) (words : List (Bor (List ℕ) × Bor Meaning)) (i : ℕ) (word : Bor (List ℕ) × Bor Meaning) → AreNew bytes_eq before (map shown words) → i < length words → word ≡ get_or words i word →
    now ≡ before ++ filter (is_new_word context) (map shown (take i words)) → lookup bytes_eq now word.0.now ≡ None
word-next context before now words i word new lt is so =
    next-kept bytes_eq (is_new_word context) before now (map shown words) i (shown word) new (at-map shown words i word (slice_get_read words (length words) i word refl lt is))
    (so ∙ ap (λ z. before ++ filter (is_new_word context) z) (sym (take-map shown i words)))

pub symbol-next : (context : Context) (before now symbols : List (Op × Meaning)) (i : ℕ) (symbol : Op × Meaning) → AreNew same_symbol before symbols → i < length symbols → symbol ≡ get_or symbols i symbol →
    now ≡ before ++ filter (is_new_symbol context) (symbols_meant stands_for_parameter (take i symbols)) → lookup same_symbol now symbol.0 ≡ None
symbol-next context before now symbols i symbol new lt is so =
    next-twice same_symbol (is_new_symbol context) (λ (one : Op × Meaning). is_meant stands_for_parameter one.1) before now symbols i symbol new (slice_get_read symbols (length symbols) i symbol refl lt is) so

-- a name that is not there goes last
pub put-last : (table : Table Meaning) (name : Named) (meaning : Meaning) → find table name ≡ None → put table name meaning ≡ with_last table name meaning
put-last table (Word word) meaning none = sym (λ i. record table { words = added-new bytes_eq table.words word meaning (ap is_some none) i })
put-last table (Symbol op) meaning none = sym (λ i. record table { symbols = added-new same_symbol table.symbols op meaning (ap is_some none) i })
