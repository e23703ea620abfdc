-- A module behind what it extends.
use Rattle.std.proofs.Common.{◌≡◌, inl, inr, ℕ, suc, Bool, true, false, cond, List, [], ◌∷◌, Option, Some, None, refl, sym, ◌∙◌, subst, length}
use Rattle.std.specs.Prelude.{◌⊎◌}
use Rattle.std.specs.List.{AllByRecursion}
use Rattle.std.specs.Str.{bytes_eq}
use Rattle.std.proofs.lemmas.Bool.{and_parts}
use Rattle.unit_grammar.specs.Units.{ModuleUnits}
use Rattle.tla_model.specs.declared.entity.Entity.TheVariants as entity
use Rattle.tla_model.specs.declared.names.Meaning.TheVariants.{BuiltIn, Declared}
use Rattle.tla_model.specs.Contexts.{built_in, meaning_of, usable}
use Rattle.tla_model.specs.Entities.{Meaning, Text, same_meaning}
use Rattle.tla_model.specs.EntityKinds.{is_meant, stands_for_parameter}
use Rattle.tla_model.specs.Tables.{Named, Word, Symbol, find, lookup}
use Rattle.module_scope.specs.Environments.{first as first_scope, outermost}
use Rattle.module_model.specs.Exports.{Behind, none_known, behind_meaning, exported, exports_by}
use Rattle.module_model.specs.Modules.{exports_under, text_of, unread}
use Rattle.module_model.specs.Resolution.{words_of}
use Rattle.kind_text.specs.FlatModule.{FlatModule, IsOrdered}
use Rattle.tree_kinds.specs.Standing.{Outside}
use Rattle.module_kinds.specs.ModuleKinds.{first, module_under, views}
use Rattle.flat_trees.specs.Stands.{Stand, Place}
use Rattle.flat_trees.specs.Layouts.{order_of}
use Rattle.flat_kinds.specs.Modules.{first_layout}
use Rattle.flat_kinds.specs.Symbols.{same_declared, same_symbol, symbols_at}
use Rattle.flattened_trees.specs.Agreeing.{TakesAs, is_seen, unsaid_stand}
use Rattle.flattened_trees.specs.Leads.{FlatFace, Leads}
use Rattle.flattened_units.specs.Units.{AreExtended, Reader, symbol_setting}
use Rattle.module_meanings.specs.Faces.{IsPlaced}
use Rattle.module_meanings.specs.Following.{AreExtendedSo, Follows, LeadsBy}
use Rattle.module_meanings.specs.Premises.{IsTold, AreExtendedGiven, extended_meanings, first_seen}
use Rattle.module_meanings.proofs.Contexts.{seen-right, unseen-parts}
use Rattle.module_meanings.proofs.Extending.{BringSame, extended-all, extends-means, symbols-alike, unsaid-alike}
use Rattle.module_meanings.proofs.Knowing.{extended-told}
use Rattle.module_meanings.proofs.Leads.{lead-place, none-leads, symbols-lead}
use Rattle.module_meanings.proofs.Units.{IsSymbolic}

-- ---- symbols at places

pub symbols-built_in : (base : Meaning → Stand) (symbols : List Meaning) (place : ℕ) → symbols_at base symbols place BuiltIn ≡ base BuiltIn
symbols-built_in base [] place = refl
symbols-built_in base (s ∷ rest) place = symbols-built_in base rest (suc place)

symbol-means : (a b : Meaning) → same_symbol a b ≡ true → same_meaning a b ≡ true
symbol-means BuiltIn b same = cc same
symbol-means (Declared e x) BuiltIn same = cc same
symbol-means (Declared e x) (Declared f y) same = (and_parts (same_declared e f) (same_meaning (Declared e x) (Declared f y)) same).1

pub symbols-unseen : (base : Meaning → Stand) (symbols : List Meaning) (place : ℕ) (m : Meaning) → is_seen symbols m ≡ false → symbols_at base symbols place m ≡ base m
symbols-unseen base [] place m none = refl
symbols-unseen base (s ∷ rest) place m none = by_sameness (same_symbol m s) refl (same_meaning m s) refl none (symbols-unseen base rest (suc place) m)
  where
    by_sameness : (b : Bool) → same_symbol m s ≡ b → (t : Bool) → same_meaning m s ≡ t → cond t true (is_seen rest m) ≡ false → (is_seen rest m ≡ false → symbols_at base rest (suc place) m ≡ base m) → cond b (Place place (order_of s)) (symbols_at base rest (suc place) m) ≡ base m
    by_sameness b same true means none others = absurd (cc none)
    by_sameness true same false means none others = let e = symbol-means m s same in absurd (let never : true ≡ false = sym e ∙ means in cc never)
    by_sameness false same false means none others = others none

pub symbol-symbolic : (m s : Meaning) → same_symbol m s ≡ true → IsSymbolic m
symbol-symbolic BuiltIn s same = cc same
symbol-symbolic (Declared (entity.Constant n) x) s same = (tt, refl)
symbol-symbolic (Declared entity.Variable x) s same = (tt, refl)
symbol-symbolic (Declared (entity.Parameter n) x) BuiltIn same = cc same
symbol-symbolic (Declared (entity.Parameter n) x) (Declared f y) same = cc same
symbol-symbolic (Declared (entity.Definition orders) x) BuiltIn same = cc same
symbol-symbolic (Declared (entity.Definition orders) x) (Declared f y) same = cc same
symbol-symbolic (Declared (entity.Instance orders) x) BuiltIn same = cc same
symbol-symbolic (Declared (entity.Instance orders) x) (Declared f y) same = cc same
symbol-symbolic (Declared (entity.Bound state) x) BuiltIn same = cc same
symbol-symbolic (Declared (entity.Bound state) x) (Declared f y) same = cc same
symbol-symbolic (Declared entity.Module x) BuiltIn same = cc same
symbol-symbolic (Declared entity.Module x) (Declared f y) same = cc same

-- what is declared as a symbol
parameter-symbolic : (m : Meaning) → is_meant stands_for_parameter m ≡ true → IsSymbolic m
parameter-symbolic BuiltIn is = cc is
parameter-symbolic (Declared (entity.Constant n) x) is = (tt, refl)
parameter-symbolic (Declared entity.Variable x) is = (tt, refl)
parameter-symbolic (Declared (entity.Parameter n) x) is = cc is
parameter-symbolic (Declared (entity.Definition orders) x) is = cc is
parameter-symbolic (Declared (entity.Instance orders) x) is = cc is
parameter-symbolic (Declared (entity.Bound state) x) is = cc is
parameter-symbolic (Declared entity.Module x) is = cc is

-- a symbol that has a place takes what it takes
pub parameter-takes : (stands : Meaning → Stand) (leads : Leads) (held : Behind) (m : Meaning) → LeadsBy stands leads → is_meant stands_for_parameter m ≡ true → IsPlaced leads m → TakesAs (stands m) held m
parameter-takes stands leads held m all is placed =
    let symbolic = parameter-symbolic m is in
    subst (λ stand. TakesAs stand held m) (sym (lead-place (stands m) placed.0 (order_of m) (sym (all m []) ∙ placed.1))) (symbolic.0, refl, symbolic.1)

-- ---- before all names of a module

all-found : {K : Type 0} (same : K → K → Bool) (entries : List (K × Option Meaning)) (key : K) (found : Option Meaning) → AllByRecursion (λ (entry : K × Option Meaning). entry.1 ≡ Some BuiltIn) entries → lookup same entries key ≡ Some found → found ≡ Some BuiltIn
all-found same [] key found all e = cc e
all-found same (entry ∷ rest) key found all e = by_key (same key entry.0) e (all-found same rest key found all.1)
  where
    by_key : (b : Bool) → cond b (Some entry.1) (lookup same rest key) ≡ Some found → (lookup same rest key ≡ Some found → found ≡ Some BuiltIn) → found ≡ Some BuiltIn
    by_key true e others = let here : entry.1 ≡ found = cc e in sym here ∙ all.0
    by_key false e others = others e

pub built-in-means : (name : Named) (m : Meaning) → meaning_of built_in name ≡ Some m → m ≡ BuiltIn
built-in-means (Word bytes) m e = by_found (find built_in (Word bytes)) refl e
  where
    by_found : (o : Option (Option Meaning)) → find built_in (Word bytes) ≡ o → usable o ≡ Some m → m ≡ BuiltIn
    by_found None is e = cc e
    by_found (Some found) is e =
        let all = all-found bytes_eq built_in.words bytes found (refl, (refl, (refl, (refl, tt)))) is in
        let both : Some m ≡ Some BuiltIn = sym e ∙ all in cc both
built-in-means (Symbol op) m e = cc e

-- modules of files alone can be named
first-same : (text : Text) (outsides : List ℕ → Outside) (words : List ℕ) → BringSame text outsides words (first_scope text.file) (outermost text.file)
first-same text outsides words name = by_name (bytes_eq name text.file)
  where
    by_name : (b : Bool) → exports_under (exports_by (views text outsides words)) (cond b (Some None) None) name ≡ exported (module_under outsides (cond b (Some None) None) name).view
    by_name true = refl
    by_name false = refl

module _ (flat : FlatModule) (ordered : IsOrdered flat) (means : ℕ → Option Meaning) (implied : ℕ → List Meaning) (files : List ℕ → FlatFace) (outsides : List ℕ → Outside) (source : List ℕ) (units : ModuleUnits) (symbols : List Meaning) where
  -- what the symbols stand for
  abbrev pub symbol-stands : Meaning → Stand
  symbol-stands = symbols_at unsaid_stand symbols 0

  -- the module behind what it extends
  abbrev pub first-reader : Leads → Reader
  first-reader leads = record { setting = record { leads = leads; frame = symbols; olds = [] }; round = []; faces = first_scope (text_of source units).file }

  -- the modules that it extends
  abbrev pub IsBegunSo : Leads → Type 0
  IsBegunSo leads =
      AreExtendedSo flat (text_of source units) outsides (words_of units) (first outsides source units).read.known (first outsides source units).read.place.here.context
      (first_scope (text_of source units).file) (length symbols) symbol-stands units.extends symbol-stands leads

  pub begun-so : (leads : Leads) → AreExtended flat (text_of source units) means implied files outsides (words_of units) (first_scope (text_of source units).file) (first_scope (text_of source units).file) (symbol_setting flat means implied files outsides source units symbols) (symbol_setting flat means implied files outsides source units symbols).leads units.extends leads → AreExtendedGiven flat (text_of source units) means implied files outsides (words_of units) (first outsides source units).read.known built_in (first outsides source units).read.place.here.context (first_scope (text_of source units).file) (first_scope (text_of source units).file) (symbol_setting flat means implied files outsides source units symbols).leads (symbol_setting flat means implied files outsides source units symbols).leads units.extends → IsBegunSo leads
  begun-so leads made given =
      let setting = symbol_setting flat means implied files outsides source units symbols in
      extended-all flat ordered (text_of source units) means implied files outsides (words_of units) (first outsides source units).read.known (first outsides source units).read.place.here.context
      (first_scope (text_of source units).file) (first_scope (text_of source units).file) setting setting.leads symbol-stands (symbols-lead unsaid_stand _ symbols 0 none-leads) (symbols-alike unsaid_stand symbols 0 unsaid-alike) units.extends symbol-stands setting.leads leads
      (symbols-lead unsaid_stand _ symbols 0 none-leads) given.each made

  -- what it extends brings
  abbrev extended-here : List Meaning
  extended-here = extended_meanings (text_of source units) outsides (words_of units) (first_scope (text_of source units).file) units.extends

  pub first-follows : (leads : Leads) (begun : IsBegunSo leads) → AreExtendedGiven flat (text_of source units) means implied files outsides (words_of units) (first outsides source units).read.known built_in (first outsides source units).read.place.here.context (first_scope (text_of source units).file) (first_scope (text_of source units).file) (symbol_setting flat means implied files outsides source units symbols).leads (symbol_setting flat means implied files outsides source units symbols).leads units.extends → Follows (first outsides source units) (first-reader leads) (first_seen flat means implied files outsides source units symbols) (first_layout outsides source units symbol-stands (length symbols) begun.extensions)
  first-follows leads begun given =
      record {
        context = refl;
        settings = record { leads = begun.leads; places = refl; olds = refl };
        told = λ name m e.
            extended-told (text_of source units) (views (text_of source units) outsides (words_of units)) (words_of units) none_known units.extends (unread (text_of source units)) name m
            (λ used n there. subst (IsTold none_known) (sym (built-in-means used n there)) tt) e;
        orders = λ name m e. begun.takes name m e (λ none. by_other m (given.others name m e none));
        all_seen = λ name m e. by_seen name m (extends-means (text_of source units) outsides (words_of units) (first_scope (text_of source units).file) units.extends (unread (text_of source units)) name m (first-same (text_of source units) outsides (words_of units)) e);
        unsaid = λ m none. let parts = unseen-parts (BuiltIn ∷ symbols) extended-here m none in begun.unsaid m parts.1 ∙ symbols-unseen unsaid_stand symbols 0 m (unseen-rest m parts.0);
      }
    where
      unseen-rest : (m : Meaning) → is_seen (BuiltIn ∷ symbols) m ≡ false → is_seen symbols m ≡ false
      unseen-rest m none = by_sameness (same_meaning m BuiltIn) none
        where
          by_sameness : (t : Bool) → cond t true (is_seen symbols m) ≡ false → is_seen symbols m ≡ false
          by_sameness true e = absurd (cc e)
          by_sameness false e = e

      by_other : (m : Meaning) → ((is_meant stands_for_parameter m ≡ true) × IsPlaced (symbol_setting flat means implied files outsides source units symbols).leads m) ⊎ ((used : Named) × (meaning_of built_in used ≡ Some m)) → TakesAs (symbol-stands m) (behind_meaning (first outsides source units).read.known (Some m)) m
      by_other m (inl (is, placed)) =
          parameter-takes symbol-stands (symbol_setting flat means implied files outsides source units symbols).leads (behind_meaning (first outsides source units).read.known (Some m)) m (symbols-lead unsaid_stand _ symbols 0 none-leads) is placed
      by_other m (inr (used, there)) =
          subst (λ n. TakesAs (symbol-stands n) (behind_meaning (first outsides source units).read.known (Some n)) n) (sym (built-in-means used m there))
          (subst (λ stand. TakesAs stand (behind_meaning (first outsides source units).read.known (Some BuiltIn)) BuiltIn) (sym (symbols-built_in unsaid_stand symbols 0)) (tt, refl))

      by_seen : (name : Named) (m : Meaning) → (meaning_of built_in name ≡ Some m) ⊎ (is_seen extended-here m ≡ true) → is_seen (first_seen flat means implied files outsides source units symbols) m ≡ true
      by_seen name m (inl before) = subst (λ n. is_seen (first_seen flat means implied files outsides source units symbols) n ≡ true) (sym (built-in-means name m before)) refl
      by_seen name m (inr one) = seen-right (BuiltIn ∷ symbols) extended-here m one
