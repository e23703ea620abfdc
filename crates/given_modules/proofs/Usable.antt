-- What a module exports can be used in it, as what it means there.
use Rattle.std.proofs.Common.{◌≡◌, ℕ, Bool, true, false, cond, List, [], ◌∷◌, ◌++◌, ◌⊎◌, inl, inr, Option, Some, None, is_some, refl, sym, ap, subst, ◌∙◌}
use Rattle.std.specs.Prelude.{not, ◌||◌}
use Rattle.std.specs.List.{AllByRecursion}
use Rattle.std.proofs.lemmas.Bool.{and_parts}
use Rattle.list_laws.proofs.Lists.{all-left, all-weaker}
use Rattle.tla_symbols.specs.declared.lexeme.Lexeme.{Lexeme}
use Rattle.unit_grammar.specs.Units.{UnitTree, Variables, Constants, OperatorDefinition, FunctionDefinition, ModuleDefinition, Instance, Assumption, Theorem, Line, ModuleBegin, ModuleEnd, ModuleUnits}
use Rattle.tla_model.specs.declared.ids.UnitId.{UnitId}
use Rattle.tla_model.specs.declared.names.Binder.{Binder}
use Rattle.tla_model.specs.declared.names.Meaning.TheVariants.{BuiltIn, Declared}
use Rattle.tla_model.specs.Contexts.{Context, built_in, meaning_of, usable}
use Rattle.tla_model.specs.Entities.{Entity, Meaning, Text, meant, name_of, same_decl, same_meaning, same_units, variables}
use Rattle.tla_model.specs.Lexemes.{spelled}
use Rattle.tla_model.specs.Scopes.{definition}
use Rattle.tla_model.specs.Tables.{Named, Symbol, Word, empty, find, has, put}
use Rattle.tla_model.specs.Same.{decl-equal, units-equal}
use Rattle.module_scope.specs.Environments.{Environment, meaning}
use Rattle.module_model.specs.Exports.{Exports, Known, ModuleView, entry_of, exported, exports_by, exports_of}
use Rattle.module_model.specs.Instances.{through}
use Rattle.module_model.specs.Modules.{Place, Reading, brings, brings_clash, clashes, constants, declare_all, differs, extended, extends_all, joined, left, nested, text_of, unread, with_entry}
use Rattle.module_model.specs.NamedModules.{module_at}
use Rattle.module_model.specs.Resolution.{ReadState, after, first, instance_brings, read_all, words_of}
use Rattle.module_model.proofs.Entries.{entry-of-table}
use Rattle.tree_kinds.specs.Standing.{Outside}
use Rattle.module_kinds.specs.ModuleKinds.{views}
use Rattle.flat_kinds.specs.Declarations.{AreNamesDeclared, AreUnitsDeclared, Declarations, IsDeclared, OfAllKnown, declared_names}
use Rattle.accepted_modules.specs.Coming.{ComesOfModules, a_module, no_module}
use Rattle.accepted_modules.specs.Named.{AllNamed}
use Rattle.accepted_modules.specs.States.{kinds_behind}
use Rattle.accepted_modules.proofs.Contexts.{HoldsOf, brings-exported, built-in-is, put-holds}
use Rattle.accepted_modules.proofs.Holding.{AreOwn, HoldsPlace, OfEntry, Own, added-known, after-holds, all-hold, first-holds, instance-hold, module-says, nothing-holds, outside-holds}
use Rattle.accepted_modules.proofs.Symbols.{put-new}
use Rattle.accepted_modules.proofs.Tables.{put-finds, put-keeps}
use Rattle.accepted_modules.proofs.Views.{joined-keeps, own-read}
use Rattle.given_modules.proofs.Inside.{joined-continues}

-- no path leads to what a name means
abbrev pub IsDirect : Meaning → Type 0
IsDirect BuiltIn = Unit {0}
IsDirect (Declared e callee) = callee.instance ≡ 0

-- the same of a name
abbrev pub IsDirectName : Named → Meaning → Type 0
IsDirectName name m = IsDirect m

passes-direct : (unit : UnitId) (name : Named) (m : Meaning) → IsDirectName name m → IsDirectName name (through unit m)
passes-direct unit name BuiltIn is = is
passes-direct unit name (Declared e callee) is = is

binders-direct : (text : Text) (binders : List Binder) → AllByRecursion (Own IsDirectName text) binders
binders-direct text [] = tt
binders-direct text (binder ∷ rest) = ((λ none. refl), binders-direct text rest)

units-direct : (text : Text) (units : List UnitTree) → AreOwn IsDirectName text units
units-direct text [] = tt
units-direct text (unit ∷ rest) = (binders-direct text (declared_names unit), units-direct text rest)

-- names of modules are direct
pub direct-of : {view : ModuleView} → ComesOfModules view → AllNamed IsDirectName view
direct-of no_module = record { entries = tt; parameters = tt; once = tt }
direct-of (a_module {files = files} {bytes = bytes} {units = units} front over) = outside-holds IsDirectName files bytes units passes-direct (λ title. direct-of (over title)) (units-direct (text_of bytes units) units.units)

module _ (declares : Declarations) where
  -- a name means what its declaration declares, and no path leads to it
  abbrev pub IsOne : Named → Meaning → Type 0
  IsOne name m = IsDeclared declares name m × IsDirect m

  -- what means the same is the same
  pub same-one : (n k : Named) (a b : Meaning) → same_meaning a b ≡ true → IsOne n a → IsOne k b → a ≡ b
  same-one n k BuiltIn BuiltIn same is also = refl
  same-one n k BuiltIn (Declared f b) same is also = absurd (cc same)
  same-one n k (Declared e a) BuiltIn same is also = absurd (cc same)
  same-one n k (Declared e a) (Declared f b) same is also =
      let parts = and_parts (same_decl a.decl b.decl) (same_units a.via b.via) same in
      let decl : a.decl ≡ b.decl = decl-equal a.decl b.decl parts.0 in
      let via : a.via ≡ b.via = units-equal a.via b.via parts.1 in
      let number : a.instance ≡ b.instance = is.1 ∙ sym also.1 in
      let entity : e ≡ f = ap (λ (p : Named × Entity). p.1) (sym is.0 ∙ ap declares decl ∙ also.0) in
      λ i. Declared (entity i) (record { instance = number i; decl = decl i; via = via i })

  pub passes-one : (unit : UnitId) (name : Named) (m : Meaning) → IsOne name m → IsOne name (through unit m)
  passes-one unit name BuiltIn is = is
  passes-one unit name (Declared e callee) is = is

  -- what is declared so and direct is one
  pub view-one : (view : ModuleView) → AllNamed (IsDeclared declares) view → AllNamed IsDirectName view → AllNamed IsOne view
  view-one view named direct = record { entries = both (exported view) named.entries direct.entries; parameters = both view.parameters named.parameters direct.parameters; once = named.once }
    where
      both : (entries : Exports) → AllByRecursion (OfEntry (IsDeclared declares)) entries → AllByRecursion (OfEntry IsDirectName) entries → AllByRecursion (OfEntry IsOne) entries
      both [] one two = tt
      both (entry ∷ rest) one two = ((one.0, two.0), both rest one.1 two.1)

  -- what a module exports can be used in it
  pub record IsUsable (reading : Reading) : Type 0 where
    pub names : (name : Named) (m : Meaning) → find reading.exports name ≡ Some m → find reading.context name ≡ Some (Some m)
    pub ones : HoldsOf IsOne reading.context

  -- a name is new, or means this already
  abbrev IsNewOr : Reading → Named → Meaning → Type 0
  IsNewOr reading name m = (find reading.context name ≡ None) ⊎ (find reading.context name ≡ Some (Some m))

  entry-usable : (local : Bool) (reading : Reading) (name : Named) (m : Meaning) → IsUsable reading → IsOne name m → IsNewOr reading name m → IsUsable (with_entry local reading name m)
  entry-usable local reading name m is one new = by local
    where
      context : Context
      context = put reading.context name (Some m)

      kept : (other : Named) (n : Meaning) → find reading.exports other ≡ Some n → find (put reading.context name (Some m)) other ≡ Some (Some n)
      kept other n at = put-keeps reading.context name (Some m) other (Some n) (is.names other n at)

      there : IsNewOr reading name m → find (put reading.context name (Some m)) name ≡ Some (Some m)
      there (inl none) = put-new reading.context name (Some m) none
      there (inr found) = put-keeps reading.context name (Some m) name (Some m) found

      used : HoldsOf IsOne (put reading.context name (Some m))
      used = put-holds IsOne reading.context name (Some m) is.ones (λ other same. subst (IsOne name) (cc same) one)

      by : (local : Bool) → IsUsable (with_entry local reading name m)
      by true = record { names = kept; ones = used }
      by false = record { names = λ other n at. which other n (put-finds reading.exports name m other n at); ones = used }
        where
          which : (other : Named) (n : Meaning) → (find reading.exports other ≡ Some n) ⊎ ((other ≡ name) × (m ≡ n)) → find (put reading.context name (Some m)) other ≡ Some (Some n)
          which other n (inl before) = kept other n before
          which other n (inr same) =
              subst (λ k. find (put reading.context name (Some m)) k ≡ Some (Some n)) (sym same.0) (subst (λ k. find (put reading.context name (Some m)) name ≡ Some (Some k)) same.1 (there new))

  -- what does not clash is new, or there already
  not-clashing : (reading : Reading) (entry : Named × Meaning) → IsUsable reading → IsOne entry.0 entry.1 → (o : Option (Option Meaning)) → find reading.context entry.0 ≡ o → differs o entry.1 ≡ false → IsNewOr reading entry.0 entry.1
  not-clashing reading entry is one None at apart = inl at
  not-clashing reading entry is one (Some None) at apart = absurd (cc apart)
  not-clashing reading entry is one (Some (Some other)) at apart = inr (at ∙ ap (λ m. Some (Some m)) (same-one entry.0 entry.0 other entry.1 (same (same_meaning other entry.1) refl apart) (is.ones entry.0 other (ap usable at)) one))
    where
      same : (b : Bool) → same_meaning other entry.1 ≡ b → not b ≡ false → same_meaning other entry.1 ≡ true
      same true e apart = e
      same false e apart = absurd (cc apart)

  pub joined-usable : (local : Bool) (reading : Reading) (entries : Exports) → IsUsable reading → AllByRecursion (OfEntry IsOne) entries → IsUsable (joined local reading entries)
  joined-usable local reading [] is all = is
  joined-usable local reading (entry ∷ rest) is all =
      joined-usable local (cond (clashes reading.context entry) reading (with_entry local reading entry.0 entry.1)) rest (by (clashes reading.context entry) refl) all.1
    where
      by : (b : Bool) → clashes reading.context entry ≡ b → IsUsable (cond b reading (with_entry local reading entry.0 entry.1))
      by true e = is
      by false e = entry-usable local reading entry.0 entry.1 is all.0 (not-clashing reading entry is all.0 (find reading.context entry.0) refl e)

  -- what is brought with no clash can be used
  pub joined-there : (reading : Reading) (entries : Exports) → IsUsable reading → AllByRecursion (OfEntry IsOne) entries → brings_clash reading entries ≡ false → AllByRecursion (λ (entry : Named × Meaning). find (joined false reading entries).context entry.0 ≡ Some (Some entry.1)) entries
  joined-there reading [] is all none = tt
  joined-there reading (entry ∷ rest) is all none = by (clashes reading.context entry) refl none (λ usable_there clash. joined-there (with_entry false reading entry.0 entry.1) rest usable_there all.1 clash)
    where
      new : clashes reading.context entry ≡ false → IsNewOr reading entry.0 entry.1
      new apart = not-clashing reading entry is all.0 (find reading.context entry.0) refl apart

      there : IsNewOr reading entry.0 entry.1 → find (put reading.context entry.0 (Some entry.1)) entry.0 ≡ Some (Some entry.1)
      there (inl free) = put-new reading.context entry.0 (Some entry.1) free
      there (inr found) = put-keeps reading.context entry.0 (Some entry.1) entry.0 (Some entry.1) found

      by : (b : Bool) → clashes reading.context entry ≡ b → (b || brings_clash (cond b reading (with_entry false reading entry.0 entry.1)) rest) ≡ false
          → (IsUsable (with_entry false reading entry.0 entry.1) → brings_clash (with_entry false reading entry.0 entry.1) rest ≡ false
          → AllByRecursion (λ (one : Named × Meaning). find (joined false (with_entry false reading entry.0 entry.1) rest).context one.0 ≡ Some (Some one.1)) rest)
          → AllByRecursion (λ (one : Named × Meaning). find (joined false (cond b reading (with_entry false reading entry.0 entry.1)) rest).context one.0 ≡ Some (Some one.1)) (entry ∷ rest)
      by true e clash later = absurd (cc clash)
      by false e clash later = (
        joined-continues false (with_entry false reading entry.0 entry.1) rest entry.0 (Some entry.1) (there (new e)),
        later (entry-usable false reading entry.0 entry.1 is all.0 (new e)) clash,
      )

  declared-usable : (text : Text) (local : Bool) (reading : Reading) (binders : List Binder) → IsUsable reading → AllByRecursion (λ (b : Binder). IsOne (name_of text.source b.name) (meant text b)) binders → IsUsable (declare_all text local reading binders)
  declared-usable text local reading [] is all = is
  declared-usable text local reading (binder ∷ rest) is all =
      declared-usable text local (cond (has reading.context (name_of text.source binder.name)) reading (with_entry local reading (name_of text.source binder.name) (meant text binder))) rest (by (find reading.context (name_of text.source binder.name)) refl) all.1
    where
      by : (o : Option (Option Meaning)) → find reading.context (name_of text.source binder.name) ≡ o → IsUsable (cond (is_some o) reading (with_entry local reading (name_of text.source binder.name) (meant text binder)))
      by (Some there) at = is
      by None at = entry-usable local reading (name_of text.source binder.name) (meant text binder) is all.0 (inl at)

  -- of a module that is read, and of those round it
  abbrev pub AreUsable : Place → Type 0
  AreUsable place = IsUsable place.here × AllByRecursion IsUsable place.round

  empty-never : (name : Named) (m : Meaning) → find {V = Meaning} empty name ≡ Some m → ⊥
  empty-never (Word bytes) m at = cc at
  empty-never (Symbol op) m at = cc at

  -- a nested module before what it extends
  pub nested-usable : (text : Text) (reading : Reading) (name : Lexeme) → IsUsable reading → IsUsable (nested text reading name)
  nested-usable text reading name is = record { names = λ other m at. absurd (empty-never other m at); ones = is.ones }

  module _ (text : Text) (files : List ℕ → ModuleView) (words : List ℕ) (given : (name : List ℕ) → AllNamed IsOne (files name)) where
    extends-usable : (modules : Environment ModuleView) (reading : Reading) (ls : List Lexeme) → reading.modules ≡ modules → OfAllKnown (AllNamed IsOne) modules → IsUsable reading → IsUsable (extends_all text (exports_by files) reading ls)
    extends-usable modules reading [] same all is = is
    extends-usable modules reading (l ∷ rest) same all is =
        let title : List ℕ = spelled text.source l in
        let entries : Exports = brings text (exports_by files) reading l in
        let view : AllNamed IsOne (module_at files modules title) = module-says (AllNamed IsOne) files modules title (nothing-holds IsOne) given all in
        let is-there : entries ≡ exported (module_at files modules title) = brings-exported files (meaning reading.modules title) title ∙ ap (λ ms. exported (module_at files ms title)) same in
        extends-usable modules (extended reading entries) rest ((joined-keeps false reading entries).modules ∙ same) all
        (joined-usable false reading entries is (subst (λ (es : Exports). AllByRecursion (OfEntry IsOne) es) (sym is-there) view.entries))

    left-usable : (known : Known) (inner : Reading) (round : List Reading) → IsUsable inner → AllByRecursion IsUsable round → AreUsable (left known inner round)
    left-usable known inner [] is all = (is, tt)
    left-usable known inner (outer ∷ round) is all = (record { names = all.0.names; ones = all.0.ones }, all.1)

    after-usable : (state : ReadState) (unit : UnitTree) → AllByRecursion (λ (b : Binder). IsOne (name_of text.source b.name) (meant text b)) (declared_names unit) → HoldsPlace IsOne state.place → AreUsable state.place → AreUsable (after text files words state unit).place
    after-usable state (Variables names) own holds is = (declared-usable text false state.place.here (variables names) is.0 own, is.1)
    after-usable state (Constants declarations) own holds is = (declared-usable text false state.place.here (constants declarations) is.0 own, is.1)
    after-usable state (OperatorDefinition local x) own holds is = (declared-usable text (is_some local) state.place.here (definition x) is.0 own, is.1)
    after-usable state (FunctionDefinition local x) own holds is = (declared-usable text (is_some local) state.place.here (definition x) is.0 own, is.1)
    after-usable state (ModuleDefinition local x) own holds is = (declared-usable text (is_some local) state.place.here (definition x) is.0 own, is.1)
    after-usable state (Instance local x) own holds is =
        (joined-usable (is_some local) state.place.here (instance_brings text files words state x) is.0 (instance-hold IsOne text files words passes-one given state x holds.0), is.1)
    after-usable state (Assumption word name x) own holds is = is
    after-usable state (Theorem word name x) own holds is = is
    after-usable state (Line dashes) own holds is = is
    after-usable state (ModuleBegin dashes name extends) own holds is =
        let inner : Reading = nested text state.place.here name in (
          extends-usable inner.modules inner extends refl (added-known (AllNamed IsOne) state.place.here.modules (spelled text.source name) None holds.0.modules tt)
              (record { names = λ other m at. absurd (empty-never other m at); ones = is.0.ones }),
          is,
        )
    after-usable state (ModuleEnd closing) own holds is = left-usable state.known state.place.here state.place.round is.0 is.1

    all-usable : (state : ReadState) (units : List UnitTree) → AllByRecursion (λ (unit : UnitTree). AllByRecursion (λ (b : Binder). IsOne (name_of text.source b.name) (meant text b)) (declared_names unit)) units → HoldsPlace IsOne state.place → AreUsable state.place
        → AreUsable (read_all text files words state units).place
    all-usable state [] own holds is = is
    all-usable state (unit ∷ units) own holds is =
        all-usable (after text files words state unit) units own.1
        (after-holds IsOne text files words passes-one given state unit
        (all-weaker (λ (b : Binder). IsOne (name_of text.source b.name) (meant text b)) (Own IsOne text) (λ b one none. one) (declared_names unit) own.0) holds)
        (after-usable state unit own.0 holds is)

  -- names of a text are such
  pub names-one : (text : Text) (binders : List Binder) → AllByRecursion (λ (b : Binder). IsDeclared declares (name_of text.source b.name) (meant text b)) binders → AllByRecursion (λ (b : Binder). IsOne (name_of text.source b.name) (meant text b)) binders
  names-one text [] all = tt
  names-one text (b ∷ rest) all = ((all.0, refl), names-one text rest all.1)

  module _ (outsides : List ℕ → Outside) (source : List ℕ) (units : ModuleUnits) (given : (name : List ℕ) → AllNamed IsOne (outsides name).view) (names : AreUnitsDeclared declares (text_of source units) units.units) where
    abbrev text : Text
    text = text_of source units

    abbrev words : List ℕ
    words = words_of units

    abbrev files : List ℕ → ModuleView
    files = views text outsides words

    first-usable : AreUsable (first files source units).place
    first-usable =
        let start : Reading = unread text in
        let built : HoldsOf IsOne built_in = λ name m at. subst (IsOne name) (sym (built-in-is name m at)) (tt, tt) in (
          extends-usable text files words given start.modules start units.extends refl (tt, tt) (record { names = λ other m at. absurd (empty-never other m at); ones = built }),
          tt,
        )

    -- all names there are one with their declarations
    pub behind-ones : (before behind : List UnitTree) → units.units ≡ before ++ behind → HoldsPlace IsOne (kinds_behind outsides source units before).read.place
    behind-ones before behind split =
        let all = all-left (λ (unit : UnitTree). AreNamesDeclared declares text (declared_names unit)) before behind (subst (AreUnitsDeclared declares text) split names) in
        subst (HoldsPlace IsOne) (λ i. (sym (own-read outsides source units before) i).place)
        (all-hold IsOne text files words passes-one given (first files source units) before
        (all-weaker (λ (unit : UnitTree). AreNamesDeclared declares text (declared_names unit)) (λ (unit : UnitTree). AllByRecursion (Own IsOne text) (declared_names unit))
        (λ unit declared. all-weaker (λ (b : Binder). IsOne (name_of text.source b.name) (meant text b)) (Own IsOne text) (λ b one none. one) (declared_names unit) (names-one text (declared_names unit) declared)) before all)
        (first-holds IsOne files source units passes-one given))

    -- wherever a unit is read
    pub behind-usable : (before behind : List UnitTree) → units.units ≡ before ++ behind → AreUsable (kinds_behind outsides source units before).read.place
    behind-usable before behind split =
        let all = all-left (λ (unit : UnitTree). AreNamesDeclared declares text (declared_names unit)) before behind (subst (AreUnitsDeclared declares text) split names) in
        subst AreUsable (λ i. (sym (own-read outsides source units before) i).place)
        (all-usable text files words given (first files source units) before
        (all-weaker (λ (unit : UnitTree). AreNamesDeclared declares text (declared_names unit)) (λ (unit : UnitTree). AllByRecursion (λ (b : Binder). IsOne (name_of text.source b.name) (meant text b)) (declared_names unit))
        (λ unit declared. names-one text (declared_names unit) declared) before all)
        (first-holds IsOne files source units passes-one given) first-usable)

    -- what is exported there can be used
    pub exported-usable : (reading : Reading) → IsUsable reading → (name : Named) (m : Meaning) → entry_of (exports_of reading.exports) name ≡ Some m → meaning_of reading.context name ≡ Some m
    exported-usable reading is name m at = ap usable (is.names name m (sym (entry-of-table reading.exports name) ∙ at))
