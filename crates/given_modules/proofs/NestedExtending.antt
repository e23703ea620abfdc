-- What a nested module extends is given.
use Rattle.std.proofs.Common.{◌≡◌, ℕ, suc, Bool, true, false, cond, List, [], ◌∷◌, ◌++◌, ◌⊎◌, inl, inr, Some, None, refl, sym, ap, subst, ◌∙◌}
use Rattle.std.specs.List.{AllByRecursion}
use Rattle.list_laws.proofs.Lists.{all-weaker}
use Rattle.tla_symbols.specs.declared.lexeme.Lexeme.{Lexeme}
use Rattle.tla_model.specs.declared.names.Finding.TheVariants.{Clashes}
use Rattle.tla_model.specs.Contexts.{meaning_of, usable}
use Rattle.tla_model.specs.Entities.{Meaning, Text}
use Rattle.tla_model.specs.Lexemes.{spelled}
use Rattle.tla_model.specs.Scopes.{Finding}
use Rattle.tla_model.specs.Tables.{Named, find}
use Rattle.module_scope.specs.Environments.{Environment, meaning}
use Rattle.module_model.specs.Bindings.{faults}
use Rattle.module_model.specs.Exports.{Exports, ModuleView, exported, exports_by, instantiable, is_meant, stands_behind, stands_for_parameter}
use Rattle.module_model.specs.Modules.{Reading, all_clashing, brings, brings_clash, clashes, extended, extends_all, joined, with_entry}
use Rattle.module_model.specs.NamedModules.{module_at}
use Rattle.tree_kinds.specs.Standing.{name_among}
use Rattle.flat_kinds.specs.Declarations.{Declarations, OfAllKnown}
use Rattle.flat_kinds.specs.Symbols.{same_symbol}
use Rattle.flat_trees.specs.Layouts.{order_of}
use Rattle.flattened_trees.specs.declared.End.TheVariants as end
use Rattle.flattened_trees.specs.Leads.{Leads, nowhere, only}
use Rattle.flattened_units.specs.Units.{with_symbols}
use Rattle.module_meanings.specs.Faces.{IsPlaced}
use Rattle.accepted_modules.specs.Named.{AllNamed}
use Rattle.accepted_modules.specs.Offered.{IsOffered}
use Rattle.accepted_modules.proofs.Contexts.{brings-exported, usable-found}
use Rattle.accepted_modules.proofs.Declaring.{faults-append, right-empty}
use Rattle.accepted_modules.proofs.Holding.{OfEntry, module-says, nothing-holds}
use Rattle.accepted_modules.proofs.Naming.{named-there}
use Rattle.accepted_modules.proofs.Symbols.{IsSymbol}
use Rattle.accepted_modules.proofs.Tables.{IsThere, put-finds, there-holds}
use Rattle.accepted_modules.proofs.Views.{joined-keeps}
use Rattle.given_modules.proofs.Exported.{there-passes}
use Rattle.given_modules.proofs.Inside.{extends-continue}
use Rattle.given_modules.proofs.Usable.{IsOne, IsUsable, joined-there, joined-usable}

-- ---- names that are brought

-- what can be used behind entries could be before, or is one of these
pub joined-come : (local : Bool) (reading : Reading) (entries : Exports) (name : Named) (m : Meaning) → meaning_of (joined local reading entries).context name ≡ Some m → (meaning_of reading.context name ≡ Some m) ⊎ IsThere entries name m
joined-come local reading [] name m at = inl at
joined-come local reading (entry ∷ rest) name m at = by (clashes reading.context entry) (joined-come local (cond (clashes reading.context entry) reading (with_entry local reading entry.0 entry.1)) rest name m at)
  where
    put-come : (find reading.context name ≡ Some (Some m)) ⊎ ((name ≡ entry.0) × (Some entry.1 ≡ Some m)) → (meaning_of reading.context name ≡ Some m) ⊎ IsThere (entry ∷ rest) name m
    put-come (inl before) = inl (ap usable before)
    put-come (inr same) = inr (inl (sym same.0, cc same.1))

    by : (b : Bool) → (meaning_of (cond b reading (with_entry local reading entry.0 entry.1)).context name ≡ Some m) ⊎ IsThere rest name m → (meaning_of reading.context name ≡ Some m) ⊎ IsThere (entry ∷ rest) name m
    by b (inr later) = inr (inr later)
    by true (inl before) = inl before
    by false (inl before) = put-come (put-finds reading.context entry.0 (Some entry.1) name (Some m) (usable-found (find (with_entry local reading entry.0 entry.1).context name) m before))

module _ (text : Text) (files : List ℕ → ModuleView) (modules : Environment ModuleView) where
  -- one of these modules exports it
  abbrev pub ComesFrom : List Lexeme → Named → Meaning → Type 0
  ComesFrom [] name m = ⊥
  ComesFrom (l ∷ ls) name m = IsThere (exported (module_at files modules (spelled text.source l))) name m ⊎ ComesFrom ls name m

  brings-same : (reading : Reading) (l : Lexeme) → reading.modules ≡ modules → brings text (exports_by files) reading l ≡ exported (module_at files modules (spelled text.source l))
  brings-same reading l same = brings-exported files (meaning reading.modules (spelled text.source l)) (spelled text.source l) ∙ ap (λ ms. exported (module_at files ms (spelled text.source l))) same

  pub extends-come : (reading : Reading) (ls : List Lexeme) (name : Named) (m : Meaning) → reading.modules ≡ modules → meaning_of (extends_all text (exports_by files) reading ls).context name ≡ Some m → (meaning_of reading.context name ≡ Some m) ⊎ ComesFrom ls name m
  extends-come reading [] name m same at = inl at
  extends-come reading (l ∷ ls) name m same at =
      by (extends-come (extended reading (brings text (exports_by files) reading l)) ls name m ((joined-keeps false reading (brings text (exports_by files) reading l)).modules ∙ same) at)
    where
      one : (meaning_of reading.context name ≡ Some m) ⊎ IsThere (brings text (exports_by files) reading l) name m → (meaning_of reading.context name ≡ Some m) ⊎ ComesFrom (l ∷ ls) name m
      one (inl before) = inl before
      one (inr there) = inr (inl (subst (λ (es : Exports). IsThere es name m) (brings-same reading l same) there))

      by : (meaning_of (extended reading (brings text (exports_by files) reading l)).context name ≡ Some m) ⊎ ComesFrom ls name m → (meaning_of reading.context name ≡ Some m) ⊎ ComesFrom (l ∷ ls) name m
      by (inr later) = inr (inr later)
      by (inl before) = one (joined-come false reading (brings text (exports_by files) reading l) name m before)

  -- ---- where nothing clashes

  no-clash : (b : Bool) (l : Lexeme) (rest : List Finding) → faults (cond b (Clashes l ∷ []) [] ++ rest) ≡ [] → b ≡ false
  no-clash true l rest none = absurd (cc none)
  no-clash false l rest none = refl

  -- what the modules export can be used behind them
  pub extends-there : (declares : Declarations) (reading : Reading) (ls : List Lexeme) → reading.modules ≡ modules → ((name : List ℕ) → AllNamed (IsOne declares) (files name)) → OfAllKnown (AllNamed (IsOne declares)) modules → IsUsable declares reading
      → faults (all_clashing text (exports_by files) reading ls) ≡ []
      → AllByRecursion (λ l. AllByRecursion (λ (entry : Named × Meaning). find (extends_all text (exports_by files) reading ls).context entry.0 ≡ Some (Some entry.1)) (exported (module_at files modules (spelled text.source l)))) ls
  extends-there declares reading [] same given all is none = tt
  extends-there declares reading (l ∷ ls) same given all is none =
      let entries : Exports = brings text (exports_by files) reading l in
      let next : Reading = extended reading entries in
      let clashing : List Finding = cond (brings_clash reading entries) (Clashes l ∷ []) [] in
      let later : List Finding = all_clashing text (exports_by files) next ls in
      let view : AllNamed (IsOne declares) (module_at files modules (spelled text.source l)) = module-says (AllNamed (IsOne declares)) files modules (spelled text.source l) (nothing-holds (IsOne declares)) given all in
      let ones = subst (λ (es : Exports). AllByRecursion (OfEntry (IsOne declares)) es) (sym (brings-same reading l same)) view.entries in
      let there = joined-there declares reading entries is ones (no-clash (brings_clash reading entries) l later none) in (
        subst (λ (es : Exports). AllByRecursion (λ (entry : Named × Meaning). find (extends_all text (exports_by files) next ls).context entry.0 ≡ Some (Some entry.1)) es) (brings-same reading l same)
            (all-weaker (λ (entry : Named × Meaning). find next.context entry.0 ≡ Some (Some entry.1)) (λ (entry : Named × Meaning). find (extends_all text (exports_by files) next ls).context entry.0 ≡ Some (Some entry.1))
            (λ entry at. extends-continue text (exports_by files) next ls entry.0 (Some entry.1) at) entries there),
        extends-there declares next ls ((joined-keeps false reading entries).modules ∙ same) given all (joined-usable declares false reading entries is ones) (right-empty (faults clashing) (faults later) (sym (faults-append clashing later) ∙ none)),
      )

-- ---- leads

-- with symbols a name leads where it does with others, if it does so without these, or has a place
pub same-with : (base leads : Leads) (own : List Meaning) (place : ℕ) (m : Meaning) → (base m [] ≡ nowhere) ⊎ (leads m [] ≡ base m []) → (with_symbols base own place m [] ≡ nowhere) ⊎ (with_symbols leads own place m [] ≡ with_symbols base own place m [])
same-with base leads [] place m all = all
same-with base leads (s ∷ rest) place m all = by (same_symbol m s) (same-with base leads rest (suc place) m all)
  where
    by : (b : Bool) → (with_symbols base rest (suc place) m [] ≡ nowhere) ⊎ (with_symbols leads rest (suc place) m [] ≡ with_symbols base rest (suc place) m [])
        → (cond b (only (end.Place place (order_of s)) []) (with_symbols base rest (suc place) m []) ≡ nowhere)
        ⊎ (cond b (only (end.Place place (order_of s)) []) (with_symbols leads rest (suc place) m []) ≡ cond b (only (end.Place place (order_of s)) []) (with_symbols base rest (suc place) m []))
    by true others = inr refl
    by false others = others

pub placed-both : (base leads : Leads) (own : List Meaning) (place : ℕ) (m : Meaning) → (base m [] ≡ nowhere) ⊎ (leads m [] ≡ base m []) → IsPlaced (with_symbols base own place) m → with_symbols leads own place m [] ≡ with_symbols base own place m []
placed-both base leads own place m all placed = by (same-with base leads own place m all)
  where
    by : (with_symbols base own place m [] ≡ nowhere) ⊎ (with_symbols leads own place m [] ≡ with_symbols base own place m []) → with_symbols leads own place m [] ≡ with_symbols base own place m []
    by (inl nothing) =
        let never : end.Place placed.0 (order_of m) ≡ end.Nowhere = ap (λ lead. lead.end) (sym placed.1 ∙ nothing) in
        absurd (cc never)
    by (inr same) = same

-- an entry that no module brings is a symbol
pub entry-symbol : (entries : Exports) (name : Named) (m : Meaning) → IsThere entries name m → AllByRecursion (OfEntry IsOffered) entries → name_among (instantiable entries) m ≡ None → IsSymbol m
entry-symbol entries name m there offered none = by (there-holds (OfEntry IsOffered) entries name m offered there)
  where
    by : (is_meant stands_for_parameter m ≡ true) ⊎ (is_meant stands_behind m ≡ true) → IsSymbol m
    by (inl symbol) = symbol
    by (inr behind) = absurd (named-there (instantiable entries) name m (there-passes (λ entry. is_meant stands_behind entry.1) entries name m there behind) none)
