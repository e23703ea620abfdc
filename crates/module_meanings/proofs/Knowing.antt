-- What is known behind the instances that can be used.
use Rattle.std.proofs.Common.{◌≡◌, inl, inr, ℕ, Bool, true, false, cond, List, [], ◌∷◌, Some, refl, sym, ap, ◌∙◌, subst}
use Rattle.std.specs.Prelude.{◌⊎◌}
use Rattle.std.specs.List.{AllByRecursion}
use Rattle.tla_symbols.specs.declared.lexeme.Lexeme.{Lexeme}
use Rattle.tla_model.specs.declared.names.Binder.{Binder}
use Rattle.tla_model.specs.Contexts.{meaning_of}
use Rattle.tla_model.specs.Entities.{Meaning, Text, meant}
use Rattle.tla_model.specs.Lexemes.{spelled}
use Rattle.tla_model.specs.Tables.{Named}
use Rattle.module_scope.specs.Environments.{Environment, meaning as module_meaning}
use Rattle.module_model.specs.Exports.{Exports, Known, ModuleView, and_known, exported, exports_by}
use Rattle.module_model.specs.Modules.{Reading, brings, clashes, extended, extends_all, joined, with_entry}
use Rattle.module_model.specs.NamedModules.{known_from_all, module_at}
use Rattle.model_laws.proofs.Settling.{Brought, brings-exported, told-beside as known-beside, told-from-all}
use Rattle.flattened_meanings.proofs.Fresh.{IsOneOf}
use Rattle.module_meanings.specs.Premises.{IsTold}
use Rattle.module_meanings.proofs.Contexts.{IsEntry, joined-means, told-more}

-- of names that are declared
pub binder-told : (text : Text) (known : Known) (binders : List Binder) (m : Meaning) → AllByRecursion (λ (b : Binder). IsTold known (meant text b)) binders → IsOneOf text binders m → IsTold known m
binder-told text known [] m all one = absurd one
binder-told text known (b ∷ rest) m all (inl same) = subst (IsTold known) (sym same) all.0
binder-told text known (b ∷ rest) m all (inr one) = binder-told text known rest m all.1 one

-- of entries
pub entry-told : (known : Known) (entries : Exports) (m : Meaning) → AllByRecursion (λ (entry : Named × Meaning). IsTold known entry.1) entries → IsEntry entries m → IsTold known m
entry-told known [] m all one = absurd one
entry-told known (entry ∷ rest) m all (inl same) = subst (IsTold known) (sym same) all.0
entry-told known (entry ∷ rest) m all (inr one) = entry-told known rest m all.1 one

module _ (text : Text) (views : List ℕ → ModuleView) (words : List ℕ) where
  joined-modules : (entries : Exports) (local : Bool) (reading : Reading) → (joined local reading entries).modules ≡ reading.modules
  joined-modules [] local reading = refl
  joined-modules (entry ∷ rest) local reading = joined-modules rest local _ ∙ by_clash (clashes reading.context entry)
    where
      by_clash : (b : Bool) → (cond b reading (with_entry local reading entry.0 entry.1)).modules ≡ reading.modules
      by_clash true = refl
      by_clash false = refl

  pub extends-modules : (ls : List Lexeme) (reading : Reading) → (extends_all text (exports_by views) reading ls).modules ≡ reading.modules
  extends-modules [] reading = refl
  extends-modules (l ∷ rest) reading =
      extends-modules rest (extended reading (brings text (exports_by views) reading l)) ∙ joined-modules (brings text (exports_by views) reading l) false reading

  -- behind modules that are extended
  pub extends-told : (known : Known) (modules : Environment ModuleView) (ls : List Lexeme) (reading : Reading) (name : Named) (m : Meaning) → reading.modules ≡ modules → AllByRecursion (Brought text views words known modules) ls → meaning_of (extends_all text (exports_by views) reading ls).context name ≡ Some m → (meaning_of reading.context name ≡ Some m) ⊎ IsTold known m
  extends-told known modules [] reading name m same all e = inl e
  extends-told known modules (l ∷ rest) reading name m same all e =
      by_rest (extends-told known modules rest (extended reading (brings text (exports_by views) reading l)) name m (joined-modules (brings text (exports_by views) reading l) false reading ∙ same) all.1 e)
    where
      entries-same : brings text (exports_by views) reading l ≡ exported (module_at views modules (spelled text.source l))
      entries-same =
          brings-exported text views words (module_meaning reading.modules (spelled text.source l)) (spelled text.source l)
          ∙ ap (λ ms. exported (module_at views ms (spelled text.source l))) same

      by_first : ((meaning_of reading.context name ≡ Some m) ⊎ IsEntry (brings text (exports_by views) reading l) m) → (meaning_of reading.context name ≡ Some m) ⊎ IsTold known m
      by_first (inl before) = inl before
      by_first (inr one) = inr (entry-told known (exported (module_at views modules (spelled text.source l))) m all.0 (subst (λ es. IsEntry es m) entries-same one))

      by_rest : ((meaning_of (extended reading (brings text (exports_by views) reading l)).context name ≡ Some m) ⊎ IsTold known m) → (meaning_of reading.context name ≡ Some m) ⊎ IsTold known m
      by_rest (inl here) = by_first (joined-means (brings text (exports_by views) reading l) false reading name m here)
      by_rest (inr told) = inr told

  -- behind those that a module extends, with what is known behind what they export
  pub extended-told : (known : Known) (ls : List Lexeme) (reading : Reading) (name : Named) (m : Meaning) → ((used : Named) (n : Meaning) → meaning_of reading.context used ≡ Some n → IsTold known n) → meaning_of (extends_all text (exports_by views) reading ls).context name ≡ Some m → IsTold (and_known known (known_from_all text (module_at views (extends_all text (exports_by views) reading ls).modules) ls)) m
  extended-told known ls reading name m before e =
      by_case (extends-told more after-modules ls reading name m (sym (extends-modules ls reading)) (told-from-all text views words after-modules ls) e)
    where
      after-modules : Environment ModuleView
      after-modules = (extends_all text (exports_by views) reading ls).modules

      more : Known
      more = known_from_all text (module_at views (extends_all text (exports_by views) reading ls).modules) ls

      by_case : ((meaning_of reading.context name ≡ Some m) ⊎ IsTold more m) → IsTold (and_known known more) m
      by_case (inl there) = told-more known more m (before name m there)
      by_case (inr told) = known-beside known more m told
