-- Names that are noted in a table, and looked up there.
use Rattle.std.proofs.Common.{◌≡◌, List, [], ◌∷◌, ◌++◌, Bool, true, false, refl, ap, sym, ◌∙◌, cond}
use Rattle.std.specs.Prelude.{◌||◌, is_some, Some, None}
use Rattle.std.specs.Str.{bytes_eq}
use Rattle.tla_symbols.specs.contracts.op.Op as op
use denote.Enum.Bare.{same_true}
use Rattle.tla_model.specs.Contexts.{Context}
use Rattle.tla_model.specs.Tables.{Named, Word, Symbol, added, has, is_among, lookup, put, same_named, same_symbol}
use Rattle.list_laws.proofs.Texts.{same-text}
use Rattle.list_laws.proofs.Tests.{or-false}

or-true : (a : Bool) → (a || true) ≡ true
or-true true = refl
or-true false = refl

or-swap : (a b : Bool) → (a || b) ≡ (b || a)
or-swap true b = sym (or-true b)
or-swap false b = sym (or-false b)

pub or-assoc : (a b c : Bool) → ((a || b) || c) ≡ (a || (b || c))
or-assoc true b c = refl
or-assoc false b c = refl

pub or-past : (a b c : Bool) → (a || (b || c)) ≡ (b || (a || c))
or-past true b c = sym (or-true b)
or-past false b c = refl

module _ {K V : Type 0} (same : K → K → Bool) where
  one-found : (key other : K) (value : V) → is_some (lookup same ((key, value) ∷ []) other) ≡ same other key
  one-found key other value = by (same other key)
    where
      by : (b : Bool) → is_some (cond b (Some value) None) ≡ b
      by true = refl
      by false = refl

  last-found : (entries : List (K × V)) (key other : K) (value : V) → is_some (lookup same (entries ++ (key, value) ∷ []) other) ≡ (is_some (lookup same entries other) || same other key)
  last-found [] key other value = one-found key other value
  last-found (entry ∷ entries) key other value = step-found (same other entry.0) (last-found entries key other value)
    where
      step-found : (b : Bool) → is_some (lookup same (entries ++ (key, value) ∷ []) other) ≡ (is_some (lookup same entries other) || same other key) →
          is_some (cond b (Some entry.1) (lookup same (entries ++ (key, value) ∷ []) other)) ≡ (is_some (cond b (Some entry.1) (lookup same entries other)) || same other key)
      step-found true onward = refl
      step-found false onward = onward

  again-found : (entries : List (K × V)) (key other : K) (b : Bool) → same other key ≡ b → (same other key ≡ true → other ≡ key) → is_some (lookup same entries key) ≡ true → is_some (lookup same entries other) ≡ (b || is_some (lookup same entries other))
  again-found entries key other true e equal there = ap (λ z. is_some (lookup same entries z)) (equal e) ∙ there
  again-found entries key other false e equal there = refl

  added-by : (entries : List (K × V)) (key other : K) (value : V) (b : Bool) → is_some (lookup same entries key) ≡ b → (same other key ≡ true → other ≡ key) →
      is_some (lookup same (cond b entries (entries ++ (key, value) ∷ [])) other) ≡ (same other key || is_some (lookup same entries other))
  added-by entries key other value true there equal = again-found entries key other (same other key) refl equal there
  added-by entries key other value false there equal = last-found entries key other value ∙ or-swap (is_some (lookup same entries other)) (same other key)

  added-found : (entries : List (K × V)) (key other : K) (value : V) → (same other key ≡ true → other ≡ key) → is_some (lookup same (added same entries key value) other) ≡ (same other key || is_some (lookup same entries other))
  added-found entries key other value equal = added-by entries key other value (is_some (lookup same entries key)) refl equal

-- a name that is put is there, and the others as before
pub put-found : (names : Context) (name other : Named) → has (put names name None) other ≡ (same_named other name || has names other)
put-found names (Word bytes) (Word others) = added-found bytes_eq names.words bytes others None (same-text others bytes)
put-found names (Symbol o) (Symbol others) = added-found same_symbol names.symbols o others None (same_true op.the_type tt others o)
put-found names (Word bytes) (Symbol others) = refl
put-found names (Symbol o) (Word others) = refl

-- the table has these names, and no others
pub record HasThese (names : Context) (these : List Named) : Type 0 where
  pub has_them : (name : Named) → has names name ≡ is_among these name

pub these-more : (names : Context) (these : List Named) (name : Named) → HasThese names these → HasThese (put names name None) (name ∷ these)
these-more names these name all = record { has_them = λ other. put-found names name other ∙ ap (λ z. same_named other name || z) (all.has_them other) }
