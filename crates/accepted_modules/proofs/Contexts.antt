-- What holds of all names that can be used where names are put, declared and brought.
use Rattle.std.proofs.Common.{◌≡◌, ℕ, Bool, true, false, cond, List, [], ◌∷◌, ◌⊎◌, inl, inr, Option, Some, None, refl, ap, subst, sym, ◌∙◌}
use Rattle.std.specs.List.{AllByRecursion}
use Rattle.std.specs.Str.{bytes_eq}
use Rattle.tla_model.specs.declared.names.Binder.{Binder}
use Rattle.tla_model.specs.Tables.{Named, Word, Symbol, find, has, lookup, put}
use Rattle.tla_model.specs.declared.names.Meaning.TheVariants.{BuiltIn}
use Rattle.tla_model.specs.Entities.{Meaning, Text, meant, name_of}
use Rattle.tla_model.specs.Contexts.{Context, built_in, meaning_of, usable}
use Rattle.tla_symbols.specs.declared.lexeme.Lexeme.{Lexeme}
use Rattle.tla_model.specs.Lexemes.{spelled}
use Rattle.module_scope.specs.Environments.{Environment, meaning}
use Rattle.module_model.specs.Exports.{Exports, ModuleView, exported, exports_by}
use Rattle.module_model.specs.Modules.{Reading, brings, clashes, declare_all, exports_under, extended, extends_all, joined, with_entry}
use Rattle.module_model.specs.NamedModules.{module_at, module_under}
use Rattle.accepted_modules.proofs.Tables.{put-finds}
use Rattle.accepted_modules.proofs.Views.{joined-keeps}

pub usable-found : (o : Option (Option Meaning)) (m : Meaning) → usable o ≡ Some m → o ≡ Some (Some m)
usable-found None m e = absurd (cc)
usable-found (Some found) m e = ap Some e

-- ---- what is built in

found-built-in : (entries : List (List ℕ × Option Meaning)) (bytes : List ℕ) (m : Meaning) → AllByRecursion (λ (entry : List ℕ × Option Meaning). entry.1 ≡ Some BuiltIn) entries → lookup bytes_eq entries bytes ≡ Some (Some m) → m ≡ BuiltIn
found-built-in [] bytes m all at = absurd (cc)
found-built-in (entry ∷ rest) bytes m all at = by (bytes_eq bytes entry.0) (found-built-in rest bytes m all.1) at
  where
    by : (b : Bool) → (lookup bytes_eq rest bytes ≡ Some (Some m) → m ≡ BuiltIn) → cond b (Some entry.1) (lookup bytes_eq rest bytes) ≡ Some (Some m) → m ≡ BuiltIn
    by true later at = let same : Some (Some m) ≡ Some (Some BuiltIn) = sym at ∙ ap Some all.0 in cc same
    by false later at = later at

pub built-in-is : (name : Named) (m : Meaning) → meaning_of built_in name ≡ Some m → m ≡ BuiltIn
built-in-is (Symbol op) m at = absurd (cc)
built-in-is (Word bytes) m at = found-built-in built_in.words bytes m (refl, (refl, (refl, (refl, tt)))) (usable-found (find built_in (Word bytes)) m at)

-- what the module of a name brings is what it exports
pub brings-exported : (files : List ℕ → ModuleView) (found : Option (Option ModuleView)) (name : List ℕ) → exports_under (exports_by files) found name ≡ exported (module_under files found name)
brings-exported files None name = refl
brings-exported files (Some None) name = refl
brings-exported files (Some (Some view)) name = refl

-- ---- names that can be used

module _ (P : Named → Meaning → Type 0) where
  -- it holds of all names that can be used
  abbrev pub HoldsOf : Context → Type 0
  HoldsOf context = (name : Named) (m : Meaning) → meaning_of context name ≡ Some m → P name m

  -- and of these entries
  abbrev pub EntryHolds : Named × Meaning → Type 0
  EntryHolds entry = P entry.0 entry.1

  pub put-holds : (context : Context) (name : Named) (value : Option Meaning) → HoldsOf context → ((m : Meaning) → value ≡ Some m → P name m) → HoldsOf (put context name value)
  put-holds context name value old new other m at = by (put-finds context name value other (Some m) (usable-found (find (put context name value) other) m at))
    where
      by : (find context other ≡ Some (Some m)) ⊎ ((other ≡ name) × (value ≡ Some m)) → P other m
      by (inl before) = old other m (ap usable before)
      by (inr is) = subst (λ n. P n m) (sym is.0) (new m is.1)

  entry-holds : (local : Bool) (reading : Reading) (name : Named) (m : Meaning) → HoldsOf reading.context → P name m → HoldsOf (with_entry local reading name m).context
  entry-holds local reading name m old one = put-holds reading.context name (Some m) old (λ other is. subst (P name) (cc) one)

  either-holds : (b : Bool) (one two : Reading) → HoldsOf one.context → HoldsOf two.context → HoldsOf (cond b one two).context
  either-holds true one two is also = is
  either-holds false one two is also = also

  pub joined-holds : (local : Bool) (reading : Reading) (entries : Exports) → HoldsOf reading.context → AllByRecursion EntryHolds entries → HoldsOf (joined local reading entries).context
  joined-holds local reading [] old all = old
  joined-holds local reading (entry ∷ rest) old all =
      let other : Reading = with_entry local reading entry.0 entry.1 in
      joined-holds local (cond (clashes reading.context entry) reading other) rest (either-holds (clashes reading.context entry) reading other old (entry-holds local reading entry.0 entry.1 old all.0)) all.1

  module _ (text : Text) where
    pub declared-holds : (local : Bool) (reading : Reading) (binders : List Binder) → HoldsOf reading.context → AllByRecursion (λ (binder : Binder). P (name_of text.source binder.name) (meant text binder)) binders → HoldsOf (declare_all text local reading binders).context
    declared-holds local reading [] old all = old
    declared-holds local reading (binder ∷ rest) old all =
        let name = name_of text.source binder.name in
        let other : Reading = with_entry local reading name (meant text binder) in
        declared-holds local (cond (has reading.context name) reading other) rest (either-holds (has reading.context name) reading other old (entry-holds local reading name (meant text binder) old all.0)) all.1

    -- behind modules that are extended, whatever these export
    pub extends-hold : (files : List ℕ → ModuleView) (modules : Environment ModuleView) (reading : Reading) (names : List Lexeme) → reading.modules ≡ modules → HoldsOf reading.context → AllByRecursion (λ l. AllByRecursion EntryHolds (exported (module_at files modules (spelled text.source l)))) names
        → HoldsOf (extends_all text (exports_by files) reading names).context
    extends-hold files modules reading [] same old all = old
    extends-hold files modules reading (l ∷ rest) same old all =
        let title : List ℕ = spelled text.source l in
        let entries : Exports = brings text (exports_by files) reading l in
        let is : entries ≡ exported (module_at files modules title) = brings-exported files (meaning reading.modules title) title ∙ ap (λ ms. exported (module_at files ms title)) same in
        let each = subst (λ (es : Exports). AllByRecursion EntryHolds es) (sym is) all.0 in
        extends-hold files modules (extended reading entries) rest ((joined-keeps false reading entries).modules ∙ same) (joined-holds false reading entries old each) all.1
