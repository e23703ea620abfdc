-- Symbols of a module have places, and what it extends brings what is known of that.
use Rattle.std.proofs.Common.{◌≡◌, ℕ, suc, Bool, true, false, cond, List, [], ◌∷◌, ◌⊎◌, inl, inr, Some, None, refl, sym, ap, subst, ◌∙◌, nat_eq}
use Rattle.std.specs.Prelude.{filter}
use Rattle.std.specs.List.{AllByRecursion}
use Rattle.std.proofs.lemmas.Bool.{and_from, and_parts, eq-eqb, eqb-true, false≢true}
use Rattle.tla_symbols.specs.declared.lexeme.Lexeme.{Lexeme}
use Rattle.unit_grammar.specs.Derivation.{DerivesModule}
use Rattle.unit_grammar.specs.Units.{ModuleUnits}
use Rattle.tla_model.specs.declared.entity.Entity.TheVariants as entity
use Rattle.tla_model.specs.declared.ids.Callee.{Callee}
use Rattle.tla_model.specs.declared.names.Meaning.TheVariants.{BuiltIn, Declared}
use Rattle.tla_model.specs.Tables.{Named}
use Rattle.tla_model.specs.Entities.{Entity, Meaning, Text, same_meaning}
use Rattle.tla_model.specs.Contexts.{built_in, meaning_of}
use Rattle.tla_model.specs.Lexemes.{spelled}
use Rattle.tla_model.specs.Same.{meaning-itself}
use Rattle.module_scope.specs.Environments.{Environment, first as first_scope}
use Rattle.module_model.specs.Exports.{Exports, ModuleView, exported, exports_by, instantiable, is_meant, stands_behind, stands_for_parameter}
use Rattle.module_model.specs.Modules.{text_of, unread}
use Rattle.module_model.specs.NamedModules.{module_at}
use Rattle.module_model.specs.Resolution.{words_of}
use Rattle.tree_kinds.specs.Standing.{Outside, name_among}
use Rattle.module_kinds.specs.ModuleKinds as k
use Rattle.module_kinds.specs.ModuleKinds.{views}
use Rattle.flat_trees.specs.Instances.{symbols_of}
use Rattle.flat_trees.specs.Layouts.{order_of}
use Rattle.flat_kinds.specs.Readings.{BringNone, extended_entries}
use Rattle.flat_kinds.specs.Symbols.{same_declared, same_symbol}
use Rattle.flattened_trees.specs.declared.End.TheVariants as end
use Rattle.flattened_trees.specs.Leads.{Leads, only}
use Rattle.flattened_units.specs.Units.{meanings_of, no_leads, with_symbols}
use Rattle.module_meanings.specs.Faces.{IsPlaced}
use Rattle.accepted_modules.specs.Named.{AllNamed}
use Rattle.accepted_modules.specs.Offered.{IsOffered}
use Rattle.accepted_modules.proofs.Contexts.{extends-hold}
use Rattle.accepted_modules.proofs.Behind.{each-there}
use Rattle.accepted_modules.proofs.Holding.{module-says, nothing-holds}
use Rattle.accepted_modules.proofs.Naming.{named-there}
use Rattle.accepted_modules.proofs.Symbols.{IsSymbol, symbols-stay}
use Rattle.accepted_modules.proofs.Tables.{IsThere, entry-there, there-holds}
use Rattle.accepted_modules.proofs.Views.{extends-keep, first-together, state-view}

-- ---- places

declared-order : (e f : Entity) (x y : Callee) → same_declared e f ≡ true → order_of (Declared e x) ≡ order_of (Declared f y)
declared-order (entity.Constant m) (entity.Constant n) x y same = eqb-true m n same
declared-order entity.Variable entity.Variable x y same = refl
declared-order e f x y same = absurd (cc)

symbol-order : (a b : Meaning) → same_symbol a b ≡ true → order_of a ≡ order_of b
symbol-order BuiltIn b same = cc same
symbol-order (Declared e x) BuiltIn same = cc same
symbol-order (Declared e x) (Declared f y) same = declared-order e f x y (and_parts (same_declared e f) (same_meaning (Declared e x) (Declared f y)) same).0

-- a symbol is the same as itself
pub symbol-itself : (m : Meaning) → IsSymbol m → same_symbol m m ≡ true
symbol-itself (Declared (entity.Constant n) callee) symbol = and_from (nat_eq n n) (same_meaning (Declared (entity.Constant n) callee) (Declared (entity.Constant n) callee)) (eq-eqb n n refl) (meaning-itself (Declared (entity.Constant n) callee))
symbol-itself (Declared entity.Variable callee) symbol = meaning-itself (Declared entity.Variable callee)
symbol-itself BuiltIn symbol = cc symbol
symbol-itself (Declared _ callee) symbol = cc symbol

-- what is the same as a symbol at a place leads to a place
pub alike-placed : (leads : Leads) (entries : Exports) (place : ℕ) (name : Named) (other m : Meaning) → IsThere entries name other → same_symbol m other ≡ true → IsPlaced (with_symbols leads (meanings_of entries) place) m
alike-placed leads [] place name other m there same = absurd there
alike-placed leads (entry ∷ rest) place name other m there same = by (same_symbol m entry.1) refl (λ later. alike-placed leads rest (suc place) name other m later same) there
  where
    by : (b : Bool) → same_symbol m entry.1 ≡ b → (IsThere rest name other → IsPlaced (with_symbols leads (meanings_of rest) (suc place)) m) → IsThere (entry ∷ rest) name other
        → (p : ℕ) × (cond b (only (end.Place place (order_of entry.1)) []) (with_symbols leads (meanings_of rest) (suc place) m []) ≡ only (end.Place p (order_of m)) [])
    by true is later there = (place, ap (λ n. only (end.Place place n) []) (sym (symbol-order m entry.1 is)))
    by false is later (inl here) = absurd (false≢true (sym is ∙ (ap (same_symbol m) here.1 ∙ same)))
    by false is later (inr there) = later there

-- so does a symbol at a place itself
pub symbol-placed : (leads : Leads) (entries : Exports) (place : ℕ) (name : Named) (m : Meaning) → IsThere entries name m → IsSymbol m → IsPlaced (with_symbols leads (meanings_of entries) place) m
symbol-placed leads entries place name m there symbol = alike-placed leads entries place name m m there (symbol-itself m symbol)

-- ---- what is brought

there-kept : (test : Named × Meaning → Bool) (entries : Exports) (name : Named) (m : Meaning) → IsThere entries name m → test (name, m) ≡ true → IsThere (filter test entries) name m
there-kept test [] name m there is = absurd there
there-kept test (entry ∷ rest) name m there is = by (test entry) refl (λ later. there-kept test rest name m later is) there
  where
    by : (b : Bool) → test entry ≡ b → (IsThere rest name m → IsThere (filter test rest) name m) → IsThere (entry ∷ rest) name m → IsThere (cond b (entry ∷ filter test rest) (filter test rest)) name m
    by true passes later (inl same) = inl same
    by true passes later (inr there) = inr (later there)
    by false fails later (inl same) = absurd (false≢true (sym fails ∙ subst (λ n. test (entry.0, n) ≡ true) (sym same.1) (subst (λ n. test (n, m) ≡ true) (sym same.0) is)))
    by false fails later (inr there) = later there

-- ---- behind what a module extends

-- a name means the same module to names and to what these stand for
pub view-same : (outsides : List ℕ → Outside) (source : List ℕ) (units : ModuleUnits) (name : List ℕ)
    → (k.named_in (text_of source units) outsides (words_of units) (first_scope (text_of source units).file) name).view ≡ module_at (views (text_of source units) outsides (words_of units)) (unread (text_of source units)).modules name
view-same outsides source units name =
    let here : Text = text_of source units in
    state-view here outsides (words_of units) (k.first outsides source units) (first-together outsides source units) name
    ∙ ap (λ ms. module_at (views here outsides (words_of units)) ms name) (extends-keep here (exports_by (views here outsides (words_of units))) (unread here) units.extends).modules

module _ (outsides : List ℕ → Outside) (source : List ℕ) (units : ModuleUnits) (given : (name : List ℕ) → AllNamed IsOffered (outsides name).view) where
  abbrev here : Text
  here = text_of source units

  -- none of the modules that it extends brings it
  abbrev IsNotBrought : Meaning → Type 0
  IsNotBrought m = BringNone here outsides (words_of units) (first_scope here.file) units.extends m

  -- a name is built in, or a symbol unless it is brought
  abbrev OrSymbol : Named → Meaning → Type 0
  OrSymbol name m = (meaning_of built_in name ≡ Some m) ⊎ (IsNotBrought m → IsSymbol m)

  abbrev start : Environment ModuleView
  start = (unread (text_of source units)).modules

  one-or-symbol : (l : Lexeme) → ((m : Meaning) → IsNotBrought m → name_among (extended_entries here outsides (words_of units) (first_scope here.file) l) m ≡ None)
      → AllByRecursion (λ entry. OrSymbol entry.0 entry.1) (exported (module_at (views here outsides (words_of units)) (unread (text_of source units)).modules (spelled here.source l)))
  one-or-symbol l none =
      let view : ModuleView = module_at (views here outsides (words_of units)) (unread here).modules (spelled here.source l) in
      let offered : AllNamed IsOffered view = module-says (AllNamed IsOffered) (views here outsides (words_of units)) (unread here).modules (spelled here.source l) (nothing-holds IsOffered) given (tt, tt) in
      let same = view-same outsides source units (spelled here.source l) in
      each-there (λ entry. OrSymbol entry.0 entry.1) (exported view)
      (λ name m there. inr (λ unbrought. by name m there (there-holds (λ entry. IsOffered entry.0 entry.1) (exported view) name m offered.entries there) (subst (λ (v : ModuleView). name_among (instantiable (exported v)) m ≡ None) same (none m unbrought))))
    where
      by : (name : Named) (m : Meaning) → IsThere (exported (module_at (views here outsides (words_of units)) (unread (text_of source units)).modules (spelled here.source l))) name m → IsOffered name m
          → name_among (instantiable (exported (module_at (views here outsides (words_of units)) (unread (text_of source units)).modules (spelled here.source l)))) m ≡ None → IsSymbol m
      by name m there (inl symbol) none = symbol
      by name m there (inr behind) none =
          let entries = exported (module_at (views here outsides (words_of units)) (unread here).modules (spelled here.source l)) in
          absurd (named-there (instantiable entries) name m (there-kept (λ (entry : Named × Meaning). is_meant stands_behind entry.1) entries name m there behind) none)

  each-or-symbol : (ls : List Lexeme) → ((m : Meaning) → IsNotBrought m → BringNone here outsides (words_of units) (first_scope here.file) ls m)
      → AllByRecursion (λ l. AllByRecursion (λ entry. OrSymbol entry.0 entry.1) (exported (module_at (views here outsides (words_of units)) (unread (text_of source units)).modules (spelled here.source l)))) ls
  each-or-symbol [] none = tt
  each-or-symbol (l ∷ rest) none = (one-or-symbol l (λ m unbrought. (none m unbrought).0), each-or-symbol rest (λ m unbrought. (none m unbrought).1))

  first-symbols : (name : Named) (m : Meaning) → meaning_of (k.first outsides source units).read.place.here.context name ≡ Some m → OrSymbol name m
  first-symbols = extends-hold OrSymbol here (views here outsides (words_of units)) (unread here).modules (unread here) units.extends refl (λ name m at. inl at) (each-or-symbol units.extends (λ m unbrought. unbrought))

  -- what none of them brings is a symbol that has a place, or built in
  pub first-others : (a : List Lexeme) (name : Named) (m : Meaning) → DerivesModule units a → meaning_of (k.first outsides source units).read.place.here.context name ≡ Some m → IsNotBrought m
      → ((is_meant stands_for_parameter m ≡ true) × IsPlaced (with_symbols no_leads (symbols_of (k.outside outsides source units)) 0) m) ⊎ ((used : Named) × (meaning_of built_in used ≡ Some m))
  first-others a name m derives means unbrought = by (first-symbols name m means)
    where
      by : OrSymbol name m → ((is_meant stands_for_parameter m ≡ true) × IsPlaced (with_symbols no_leads (symbols_of (k.outside outsides source units)) 0) m) ⊎ ((used : Named) × (meaning_of built_in used ≡ Some m))
      by (inl built) = inr (name, built)
      by (inr symbol) =
          let is = symbol unbrought in
          let parameters : Exports = (k.outside outsides source units).view.parameters in
          let there : IsThere parameters name m = entry-there parameters name m (symbols-stay (views here outsides (words_of units)) source units a [] units.units name m derives refl refl means is) in
          inl (is, symbol-placed no_leads parameters 0 name m there is)
