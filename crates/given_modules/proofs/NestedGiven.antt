-- Modules without faults are given, with those that are nested in them.
use Rattle.std.proofs.Common.{◌≡◌, ℕ, Bool, true, false, cond, List, [], ◌∷◌, ◌++◌, inl, inr, Option, Some, refl, sym, ap, subst, ◌∙◌, map, drop, length}
use Rattle.std.specs.Prelude.{not, ◌||◌}
use Rattle.std.specs.List.{AllByRecursion}
use Rattle.std.proofs.lemmas.Bool.{and_parts}
use Rattle.std.proofs.lemmas.List.{append-nil}
use Rattle.tla_tree.specs.declared.form.Form.TheVariants as Form
use Rattle.tla_tree.specs.Syntax.{Tree, Node}
use Rattle.unit_grammar.specs.Units.{UnitTree, Variables, Constants, OperatorDefinition, FunctionDefinition, ModuleDefinition, Instance, Assumption, Theorem, Line, ModuleBegin, ModuleEnd, ModuleUnits}
use Rattle.tla_model.specs.declared.entity.Entity.TheVariants as entity
use Rattle.tla_model.specs.declared.ids.Callee.{Callee}
use Rattle.tla_model.specs.declared.ids.DeclId.{DeclId}
use Rattle.tla_model.specs.declared.names.Binder.{Binder}
use Rattle.tla_model.specs.declared.names.Meaning.TheVariants.{BuiltIn, Declared}
use Rattle.tla_model.specs.Contexts.{Context, meaning_of}
use Rattle.tla_model.specs.Entities.{Entity, Meaning, Text, all_placed, declaring, meant, name_of, same_meaning, variables}
use Rattle.tla_model.specs.Tables.{Named, has}
use Rattle.module_scope.specs.Environments.{inside}
use Rattle.module_model.specs.Bindings.{faults}
use Rattle.module_model.specs.Exports.{Exports, ModuleView, entry_of, exported, exports_by, exports_of, is_meant, parameters_in, stands_for_parameter}
use Rattle.module_model.specs.Instances.{own_parameters, paths_in}
use Rattle.module_model.specs.Modules.{Reading, all_clashing, constants, text_of, unread}
use Rattle.module_model.specs.Resolution.{ReadState, first as first_read, found_from, found_in, words_of}
use Rattle.kind_text.specs.FlatModule.{FlatModule}
use Rattle.tree_kinds.specs.Standing.{Outside, is_bound, same_standing}
use Rattle.module_kinds.specs.ModuleKinds.{KindState, after, first, last, outside, read_all, views}
use Rattle.flat_trees.specs.Instances.{symbols_of}
use Rattle.flat_kinds.specs.Declarations.{Declarations}
use Rattle.flat_kinds.specs.Readings.{is_among}
use Rattle.flat_kinds.specs.Symbols.{AreDistinct, same_declared, same_symbol}
use Rattle.flat_kinds.proofs.Declarations.{read-same}
use Rattle.flat_kinds.proofs.Distinct.{ended-symbols}
use Rattle.flattened_trees.specs.Leads.{FlatFace, Setting, nowhere}
use Rattle.flattened_trees.specs.Questions.{Question}
use Rattle.flattened_units.specs.Units.{AreUnitsMade, IsEnded, IsUnitMade, Reader, meanings_of}
use Rattle.module_meanings.specs.Faces.{IsPlaced}
use Rattle.module_meanings.specs.Premises.{IsEndGiven, SymbolsLead, symbol_leads}
use Rattle.accepted_modules.specs.Named.{AllNamed}
use Rattle.accepted_modules.specs.States.{kinds_behind}
use Rattle.accepted_modules.proofs.Declaring.{declared-means, faults-append, none-refused, right-empty, unit-faultless}
use Rattle.accepted_modules.proofs.Holding.{OfEntry}
use Rattle.accepted_modules.proofs.Symbols.{HaveSymbols, IsSymbol}
use Rattle.accepted_modules.proofs.Tables.{IsThere, table-once, there-first, there-holds, there-passed}
use Rattle.accepted_modules.proofs.Views.{own-read}
use Rattle.fresh_names.specs.Seen.{IsDeclaredBy, IsElsewhere, symbols_in}
use Rattle.given_modules.proofs.Ahead.{IsAt, at-next}
use Rattle.given_modules.proofs.AtUnits.{IsKnown, keeps-at}
use Rattle.given_modules.proofs.Coming.{AreComing, IsComing, IsComingAt, coming-before, leads-none, name_in}
use Rattle.given_modules.proofs.Elsewhere.{ComesElsewhere, elsewhere-holds, entries-mean}
use Rattle.given_modules.proofs.Exported.{IsExportedAt, behind-have, usable-placed}
use Rattle.given_modules.proofs.Given.{HasPlaced, IsAccepted}
use Rattle.given_modules.proofs.Inside.{AreInside, behind-inside}
use Rattle.given_modules.proofs.Placed.{constants-are, lead-placed, variables-are}
use Rattle.given_modules.proofs.Usable.{IsOne, IsUsable, behind-ones, behind-usable, exported-usable}

-- all entries are so where each that is there is
pub all-there : (P : Named × Meaning → Type 0) (entries : Exports) → ((name : Named) (m : Meaning) → IsThere entries name m → P (name, m)) → AllByRecursion P entries
all-there P [] each = tt
all-there P (entry ∷ rest) each = (each entry.0 entry.1 (inl (refl, refl)), all-there P rest (λ name m there. each name m (inr there)))

-- what is known of an own parameter of a nested module
pub own-there : (context : Context) (entries : Exports) (name : Named) (m : Meaning) → IsThere (own_parameters context entries) name m → IsThere entries name m × IsSymbol m × (has context name ≡ false)
own-there context entries name m there =
    let one = there-passed (λ (entry : Named × Meaning). not (has context entry.0)) (parameters_in entries) name m there in
    let two = there-passed (λ (entry : Named × Meaning). is_meant stands_for_parameter entry.1) entries name m one.0 in
    (two.0, two.1, not-true (has context name) one.1)
  where
    not-true : (b : Bool) → not b ≡ true → b ≡ false
    not-true true e = absurd (cc e)
    not-true false e = refl

symbol-free : (m : Meaning) → IsSymbol m → is_bound m ≡ false
symbol-free BuiltIn symbol = refl
symbol-free (Declared (entity.Bound state) callee) symbol = absurd (cc symbol)
symbol-free (Declared e callee) symbol = refl

declared-free : (e f : Entity) → same_declared e f ≡ true → (callee : Callee) → is_bound (Declared e callee) ≡ false
declared-free (entity.Bound state) f same callee = absurd (cc same)
declared-free e f same callee = refl

-- the same symbol means the same, and is not bound
pub symbol-means : (m o : Meaning) → same_symbol m o ≡ true → (same_meaning m o ≡ true) × (is_bound m ≡ false)
symbol-means BuiltIn o same = absurd (cc same)
symbol-means (Declared e a) BuiltIn same = absurd (cc same)
symbol-means (Declared e a) (Declared f b) same =
    let parts = and_parts (same_declared e f) (same_meaning (Declared e a) (Declared f b)) same in
    (parts.1, declared-free e f parts.0 a)

standing-free : (m o : Meaning) → same_standing m o ≡ true → IsSymbol o → (same_meaning m o ≡ true) × (is_bound m ≡ false)
standing-free m o same symbol =
    let parts = and_parts (same_meaning m o) (cond (is_bound m) (is_bound o) (not (is_bound o))) same in
    (parts.0, by (is_bound m) (symbol-free o symbol) parts.1)
  where
    by : (b : Bool) → is_bound o ≡ false → cond b (is_bound o) (not (is_bound o)) ≡ true → b ≡ false
    by true free is = let never : false ≡ true = sym free ∙ is in absurd (cc never)
    by false free is = refl

-- a name that means the same as one of these leads nowhere round
abbrev pub IsApartFrom : List Setting → List Meaning → Meaning → Type 0
IsApartFrom round frame o = (m : Meaning) → same_meaning m o ≡ true → is_bound m ≡ false → symbol_leads round frame m [] ≡ nowhere

-- own symbols of nested modules are none of those round them
abbrev pub AreApartOwn : List Meaning → List Setting → Type 0
AreApartOwn frame [] = Unit {0}
AreApartOwn frame (outer ∷ round) = AllByRecursion (λ o. IsSymbol o × IsApartFrom round outer.frame o) (drop (length outer.frame) frame) × AreApartOwn outer.frame round

apart-among : (round : List Setting) (frame own : List Meaning) → AllByRecursion (λ o. IsSymbol o × IsApartFrom round frame o) own → (m : Meaning) → is_among own m ≡ true → symbol_leads round frame m [] ≡ nowhere
apart-among round frame [] all m is = absurd (cc is)
apart-among round frame (o ∷ rest) all m is = by (same_standing m o) refl is (apart-among round frame rest all.1 m)
  where
    by : (b : Bool) → same_standing m o ≡ b → (b || is_among rest m) ≡ true → (is_among rest m ≡ true → symbol_leads round frame m [] ≡ nowhere) → symbol_leads round frame m [] ≡ nowhere
    by true same is later = let means = standing-free m o same all.0.0 in all.0.1 m means.0 means.1
    by false same is later = later is

module _ (flat : FlatModule) (means : ℕ → Option Meaning) (implied : ℕ → List Meaning) (files : List ℕ → FlatFace) (outsides : List ℕ → Outside) (source : List ℕ) (units : ModuleUnits) (declares : Declarations) (k : IsKnown flat means implied files outsides source units declares)
    (accepted : IsAccepted outsides source units) (ones : (name : List ℕ) → AllNamed (IsOne declares) (outsides name).view)
    (apart : (before behind : List UnitTree) → units.units ≡ before ++ behind → (o : Meaning) → IsElsewhere (text_of source units) (declaring before) o → (decl : DeclId) → IsDeclaredBy (text_of source units) (symbols_in behind) decl
    → same_meaning (Declared entity.Variable (record { instance = 0; decl = decl; via = [] })) o ≡ false) where
  abbrev text : Text
  text = text_of source units

  abbrev words : List ℕ
  words = words_of units

  abbrev kinds : List UnitTree → KindState
  kinds before = kinds_behind outsides source units before

  -- ---- what is known where a unit is read

  pub usable-at : (before behind : List UnitTree) (state : KindState) → IsAt outsides source units before behind state → IsUsable declares state.read.place.here
  usable-at before behind state at =
      subst (λ (s : KindState). IsUsable declares s.read.place.here) (sym at.same) (behind-usable declares outsides source units ones k.names before behind at.split).0

  -- what is exported can be used under its own name
  exports-coming : (before behind : List UnitTree) (state : KindState) → IsAt outsides source units before behind state → (name : Named) (m : Meaning) → IsThere (exports_of state.read.place.here.exports) name m → IsSymbol m
      → (meaning_of state.read.place.here.context (name_in text declares m) ≡ Some m) × (name_in text declares m ≡ name)
  exports-coming before behind state at name m there symbol =
      let here = subst (λ (s : KindState). AllByRecursion (OfEntry (IsOne declares)) (exports_of s.read.place.here.exports)) (sym at.same) (behind-ones declares outsides source units ones k.names before behind at.split).0.exports in
      let one : IsOne declares name m = there-holds (OfEntry (IsOne declares)) (exports_of state.read.place.here.exports) name m here there in
      let once = (keeps-at flat means implied files outsides source units k.foreign declares k.declared k.names before behind state at).declared.here.once in
      let found : entry_of (exports_of state.read.place.here.exports) name ≡ Some m = there-first (exports_of state.read.place.here.exports) name m (table-once state.read.place.here.exports once) there in
      let used = exported-usable declares outsides source units ones k.names state.read.place.here (usable-at before behind state at) name m found in
      let same = named m one symbol in
      (subst (λ n. meaning_of state.read.place.here.context n ≡ Some m) (sym same) used, same)
    where
      named : (other : Meaning) → IsOne declares name other → IsSymbol other → name_in text declares other ≡ name
      named BuiltIn one symbol = absurd (cc symbol)
      named (Declared e callee) one symbol = ap (λ p. p.0) one.0

  own-coming : (before behind : List UnitTree) (state : KindState) → IsAt outsides source units before behind state → (outer : Reading) → AllByRecursion (IsComing text declares behind state.read.place.here.context) (meanings_of (own_parameters outer.context (exports_of state.read.place.here.exports)))
  own-coming before behind state at outer =
      let entries : Exports = exports_of state.read.place.here.exports in
      entries-mean (IsComing text declares behind state.read.place.here.context) (own_parameters outer.context entries)
      (all-there (λ entry. IsComing text declares behind state.read.place.here.context entry.1) (own_parameters outer.context entries)
      (λ name m there.
      let own = own-there outer.context entries name m there in
      let used = exports-coming before behind state at name m own.0 own.1 in
      record { symbol = own.1; comes = inl used.0 }))

  -- all symbols of the module can be used in the end
  pub last-coming : (final : Reader) → (last outsides source units).read.place.round ≡ [] → final.round ≡ [] → final.setting.frame ≡ symbols_of (outside outsides source units) → IsComingAt text flat means implied files outsides words declares [] (last outsides source units) final
  last-coming final place round frame =
      let state : KindState = last outsides source units in
      let at : IsAt outsides source units units.units [] state = record { split = sym (append-nil units.units); same = refl } in
      let entries : Exports = exports_of state.read.place.here.exports in
      subst (λ readings. AreComing text declares [] state.read.place.here readings final.setting.frame final.round) (sym place)
      (subst (λ settings. AreComing text declares [] state.read.place.here [] final.setting.frame settings) (sym round)
      (subst (λ (ms : List Meaning). AllByRecursion (IsComing text declares [] state.read.place.here.context) ms) (sym frame)
      (subst (λ (s : ReadState). AllByRecursion (IsComing text declares [] state.read.place.here.context) (meanings_of (parameters_in (exports_of s.place.here.exports))))
      (read-same text outsides words (first outsides source units) units.units)
      (entries-mean (IsComing text declares [] state.read.place.here.context) (parameters_in entries)
      (all-there (λ entry. IsComing text declares [] state.read.place.here.context entry.1) (parameters_in entries)
      (λ name m there.
      let one = there-passed (λ (entry : Named × Meaning). is_meant stands_for_parameter entry.1) entries name m there in
      let used = exports-coming units.units [] state at name m one.0 one.1 in
      record { symbol = one.1; comes = inl used.0 }))))))

  -- symbols of the module and of those round it can be used, or come later
  pub coming-ahead : (before behind : List UnitTree) (state : KindState) (reader next : Reader) (asked : List Question) → IsAt outsides source units before behind state → AreUnitsMade flat text means implied files outsides words state reader behind next asked
      → IsComingAt text flat means implied files outsides words declares [] (read_all text outsides words state behind) next → IsComingAt text flat means implied files outsides words declares behind state reader
  coming-ahead before [] state reader next asked at made is = subst (λ (r : Reader). IsComingAt text flat means implied files outsides words declares [] state r) made.0 is
  coming-ahead before (unit ∷ behind) state reader next asked at made is =
      coming-before text flat means implied files outsides words declares behind state reader unit made.0 made.1 made.3 (λ outer round same. own-coming before (unit ∷ behind) state at outer)
      (coming-ahead (before ++ unit ∷ []) behind (after text outsides words state unit) made.0 next made.2 (at-next outsides source units before unit behind state at) made.4 is)

  -- ---- own symbols are none round

  own-apart : (before behind : List UnitTree) (unit : UnitTree) (state : KindState) (reader : Reader) → IsAt outsides source units before (unit ∷ behind) state → (outer : Reading) (round : List Reading) (setting : Setting) (settings : List Setting) → AreInside outer round
      → AreComing text declares (unit ∷ behind) outer round setting.frame settings → AllByRecursion (λ o. IsSymbol o × IsApartFrom settings setting.frame o) (meanings_of (own_parameters outer.context (exports_of state.read.place.here.exports)))
  own-apart before behind unit state reader at outer round setting settings inside coming =
      let entries : Exports = exports_of state.read.place.here.exports in
      let here = subst (λ (s : KindState). AllByRecursion (OfEntry (ComesElsewhere text (declaring before))) (exports_of s.read.place.here.exports)) (sym at.same) (elsewhere-holds outsides source units k.foreign before).0.exports in
      entries-mean (λ o. IsSymbol o × IsApartFrom settings setting.frame o) (own_parameters outer.context entries)
      (all-there (λ entry. IsSymbol entry.1 × IsApartFrom settings setting.frame entry.1) (own_parameters outer.context entries)
      (λ name o there.
      let own = own-there outer.context entries name o there in
      let used = exports-coming before (unit ∷ behind) state at name o own.0 own.1 in
      let elsewhere : IsElsewhere text (declaring before) o = there-holds (OfEntry (ComesElsewhere text (declaring before))) entries name o here own.0 in
      let unused : has outer.context (name_in text declares o) ≡ false = ap (has outer.context) used.1 ∙ own.2 in (
        own.1,
        λ m one free.
            leads-none text declares (unit ∷ behind) outer.context o unused (λ decl declared. apart before (unit ∷ behind) at.split o elsewhere decl declared) outer round setting.frame settings (λ n there at. at) inside coming m one free own.1,
      )))

  apart-before : (before behind : List UnitTree) (state : KindState) (reader : Reader) (unit : UnitTree) (next : Reader) (asked : List Question) → IsAt outsides source units before (unit ∷ behind) state → IsComingAt text flat means implied files outsides words declares (unit ∷ behind) state reader
      → IsUnitMade flat text means implied files outsides words state reader unit next asked → AreApartOwn next.setting.frame next.round → AreApartOwn reader.setting.frame reader.round
  apart-before before behind state reader (OperatorDefinition local x) next asked at coming made is = subst (λ (r : Reader). AreApartOwn r.setting.frame r.round) made.3 is
  apart-before before behind state reader (FunctionDefinition local x) next asked at coming made is = subst (λ (r : Reader). AreApartOwn r.setting.frame r.round) made.3 is
  apart-before before behind state reader (ModuleDefinition local x) next asked at coming made is = subst (λ (r : Reader). AreApartOwn r.setting.frame r.round) made.3 is
  apart-before before behind state reader (Instance local x) next asked at coming made is = by x made
    where
      by : (x : Tree) → IsUnitMade flat text means implied files outsides words state reader (Instance local x) next asked → AreApartOwn reader.setting.frame reader.round
      by (Node (Form.Instance l) s rights) made = subst (λ (r : Reader). AreApartOwn r.setting.frame r.round) made.7 is
      by (Node Form.Let s rights) made = subst (λ (r : Reader). AreApartOwn r.setting.frame r.round) made.0 is
      by (Node _ s rights) made = subst (λ (r : Reader). AreApartOwn r.setting.frame r.round) made.0 is
  apart-before before behind state reader (Assumption word name x) next asked at coming made is = subst (λ (r : Reader). AreApartOwn r.setting.frame r.round) made.3 is
  apart-before before behind state reader (Theorem word name x) next asked at coming made is = subst (λ (r : Reader). AreApartOwn r.setting.frame r.round) made.3 is
  apart-before before behind state reader (ModuleBegin dashes name extends) next asked at coming made is = let inner = subst (λ (r : Reader). AreApartOwn r.setting.frame r.round) made.0.2.1 is in inner.1
  apart-before before behind state reader (ModuleEnd closing) next asked at coming made is =
      by state.read.place.round reader.round made.0 (subst (λ (s : KindState). AreInside s.read.place.here s.read.place.round) (sym at.same) (behind-inside outsides source units before)) coming
    where
      by : (round : List Reading) (settings : List Setting) → IsEnded flat text means implied files outsides words state round reader settings next → AreInside state.read.place.here round
          → AreComing text declares (ModuleEnd closing ∷ behind) state.read.place.here round reader.setting.frame settings → AreApartOwn reader.setting.frame settings
      by [] settings made inside coming = absurd made
      by (outer ∷ round) [] made inside coming = absurd made
      by (outer ∷ round) (setting ∷ settings) made inside coming = (
        subst (AllByRecursion (λ o. IsSymbol o × IsApartFrom settings setting.frame o)) made.0 (own-apart before behind (ModuleEnd closing) state reader at outer round setting settings inside.1 coming.1),
        subst (λ (r : Reader). AreApartOwn r.setting.frame r.round) made.1 is,
      )
  apart-before before behind state reader (Variables names) next asked at coming made is = subst (λ (r : Reader). AreApartOwn r.setting.frame r.round) made.0 is
  apart-before before behind state reader (Constants declarations) next asked at coming made is = subst (λ (r : Reader). AreApartOwn r.setting.frame r.round) made.0 is
  apart-before before behind state reader (Line dashes) next asked at coming made is = subst (λ (r : Reader). AreApartOwn r.setting.frame r.round) made.0 is

  pub apart-ahead : (before behind : List UnitTree) (state : KindState) (reader next : Reader) (asked : List Question) → IsAt outsides source units before behind state → AreUnitsMade flat text means implied files outsides words state reader behind next asked
      → IsComingAt text flat means implied files outsides words declares [] (read_all text outsides words state behind) next → next.round ≡ [] → AreApartOwn reader.setting.frame reader.round
  apart-ahead before [] state reader next asked at made is none =
      subst (λ (round : List Setting). AreApartOwn reader.setting.frame round) (sym (ap (λ (r : Reader). r.round) (sym made.0) ∙ none)) tt
  apart-ahead before (unit ∷ behind) state reader next asked at made is none =
      apart-before before behind state reader unit made.0 made.1 at (coming-ahead before (unit ∷ behind) state reader next asked at made is) made.3
      (apart-ahead (before ++ unit ∷ []) behind (after text outsides words state unit) made.0 next made.2 (at-next outsides source units before unit behind state at) made.4 is none)

  -- ---- ends

  pub end-given : (before behind : List UnitTree) (unit : UnitTree) (state : KindState) (reader next : Reader) (asked : List Question) → IsAt outsides source units before (unit ∷ behind) state → AreApartOwn reader.setting.frame reader.round
      → IsUnitMade flat text means implied files outsides words state reader unit next asked → IsEndGiven flat text means implied files outsides words unit state reader reader.round
  end-given before behind (ModuleEnd closing) state reader next asked at own made = by state.read.place.round refl reader.round made.0 own
    where
      by : (round : List Reading) → state.read.place.round ≡ round → (settings : List Setting) → IsEnded flat text means implied files outsides words state round reader settings next → AreApartOwn reader.setting.frame settings → IsEndGiven flat text means implied files outsides words (ModuleEnd closing) state reader settings
      by [] same settings made own = absurd made
      by (outer ∷ round) same [] made own = absurd made
      by (outer ∷ round) same (setting ∷ settings) made own =
          let keeps = keeps-at flat means implied files outsides source units k.foreign declares k.declared k.names before (ModuleEnd closing ∷ behind) state at in
          record {
            once = keeps.declared.here.once;
            distinct = subst AreDistinct made.0 (ended-symbols declares state (outer ∷ round) keeps).distinct;
            apart = apart-among settings setting.frame (drop (length setting.frame) reader.setting.frame) own.0;
            usable = λ name m found behind_it. exported-usable declares outsides source units ones k.names state.read.place.here (usable-at before (ModuleEnd closing ∷ behind) state at) name m found;
          }
  end-given before behind (OperatorDefinition local x) state reader next asked at own made = tt
  end-given before behind (FunctionDefinition local x) state reader next asked at own made = tt
  end-given before behind (ModuleDefinition local x) state reader next asked at own made = tt
  end-given before behind (Instance local x) state reader next asked at own made = tt
  end-given before behind (Assumption word name x) state reader next asked at own made = tt
  end-given before behind (Theorem word name x) state reader next asked at own made = tt
  end-given before behind (Variables names) state reader next asked at own made = tt
  end-given before behind (Constants declarations) state reader next asked at own made = tt
  end-given before behind (Line dashes) state reader next asked at own made = tt
  end-given before behind (ModuleBegin dashes name extends) state reader next asked at own made = tt

  -- ---- places

  -- symbols that can be used at a unit have places where symbols lead by themselves
  pub placed-at : (before behind : List UnitTree) (state : KindState) (reader : Reader) → IsAt outsides source units before behind state → IsExportedAt flat text means implied files outsides words state reader → (name : Named) (m : Meaning) → meaning_of state.read.place.here.context name ≡ Some m
      → IsSymbol m → IsPlaced (symbol_leads reader.round reader.setting.frame) m
  placed-at before behind state reader at exported name m there symbol =
      usable-placed state.read.place.here state.read.place.round reader.setting.frame reader.round
      (subst (λ (s : KindState). HaveSymbols s.read.place.here s.read.place.round) (sym at.same) (behind-have outsides source units before))
      (subst (λ (s : KindState). AreInside s.read.place.here s.read.place.round) (sym at.same) (behind-inside outsides source units before)) exported name m there symbol

  -- no faults are found in a unit
  pub unit-none : (before behind : List UnitTree) (unit : UnitTree) (state : KindState) → IsAt outsides source units before (unit ∷ behind) state → faults (found_in text (views text outsides words) words (paths_in units.units) state.read unit) ≡ []
  unit-none before behind unit state at =
      let names : List ℕ → ModuleView = views text outsides words in
      let paths : List ℕ = paths_in units.units in
      let clashing = all_clashing text (exports_by names) (unread text) units.extends in
      let found = found_from text names words paths (first_read names source units) units.units in
      let later = right-empty (faults clashing) (faults found) (sym (faults-append clashing found) ∙ accepted.faultless) in
      subst (λ s. faults (found_in text names words paths s unit) ≡ []) (sym (ap (λ (s : KindState). s.read) at.same ∙ own-read outsides source units before))
      (unit-faultless text names words paths (first_read names source units) before unit behind (subst (λ us. faults (found_from text names words paths (first_read names source units) us) ≡ []) at.split later))

  binders-led : (binders : List Binder) (reader : Reader) (context : Context) → SymbolsLead reader.setting reader.round → ((name : Named) (m : Meaning) → meaning_of context name ≡ Some m → IsSymbol m → IsPlaced (symbol_leads reader.round reader.setting.frame) m)
      → AllByRecursion (λ (b : Binder). IsSymbol (meant text b)) binders → AllByRecursion (λ (b : Binder). meaning_of context (name_of source b.name) ≡ Some (meant text b)) binders → AllByRecursion (IsPlaced reader.setting.leads) (map (meant text) binders)
  binders-led [] reader context lead placed are there = tt
  binders-led (b ∷ rest) reader context lead placed are there = (
    lead-placed reader.setting reader.round (meant text b) lead (placed (name_of source b.name) (meant text b) there.0 are.0),
    binders-led rest reader context lead placed are.1 there.1,
  )

  pub unit-placed : (before behind : List UnitTree) (unit : UnitTree) (state : KindState) (reader mid : Reader) (asked : List Question) → IsAt outsides source units before (unit ∷ behind) state → SymbolsLead reader.setting reader.round
      → IsExportedAt flat text means implied files outsides words (after text outsides words state unit) mid → IsUnitMade flat text means implied files outsides words state reader unit mid asked → HasPlaced flat means implied files outsides source units declares k accepted reader unit
  unit-placed before behind (Variables names) state reader mid asked at lead exported made =
      let next : KindState = after text outsides words state (Variables names) in
      binders-led (variables names) reader next.read.place.here.context lead
      (placed-at (before ++ Variables names ∷ []) behind next reader (at-next outsides source units before (Variables names) behind state at) (subst (λ (r : Reader). IsExportedAt flat text means implied files outsides words next r) made.0 exported)) (variables-are text names)
      (declared-means text false state.read.place.here (variables names) (none-refused text state.read.place.here.context (variables names) (unit-none before behind (Variables names) state at)))
  unit-placed before behind (Constants declarations) state reader mid asked at lead exported made =
      let next : KindState = after text outsides words state (Constants declarations) in
      binders-led (constants declarations) reader next.read.place.here.context lead
      (placed-at (before ++ Constants declarations ∷ []) behind next reader (at-next outsides source units before (Constants declarations) behind state at) (subst (λ (r : Reader). IsExportedAt flat text means implied files outsides words next r) made.0 exported)) (constants-are text (all_placed declarations))
      (declared-means text false state.read.place.here (constants declarations) (none-refused text state.read.place.here.context (constants declarations) (unit-none before behind (Constants declarations) state at)))
  unit-placed before behind (OperatorDefinition local x) state reader mid asked at lead exported made = tt
  unit-placed before behind (FunctionDefinition local x) state reader mid asked at lead exported made = tt
  unit-placed before behind (ModuleDefinition local x) state reader mid asked at lead exported made = tt
  unit-placed before behind (Instance local x) state reader mid asked at lead exported made = tt
  unit-placed before behind (Assumption word name x) state reader mid asked at lead exported made = tt
  unit-placed before behind (Theorem word name x) state reader mid asked at lead exported made = tt
  unit-placed before behind (Line dashes) state reader mid asked at lead exported made = tt
  unit-placed before behind (ModuleBegin dashes name extends) state reader mid asked at lead exported made = tt
  unit-placed before behind (ModuleEnd closing) state reader mid asked at lead exported made = tt
