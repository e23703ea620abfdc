-- Symbols that can be used in a module have places, in nested ones too: they are its own, or those of a module round it.
use Rattle.std.proofs.Common.{◌≡◌, ℕ, suc, Bool, true, false, cond, List, [], ◌∷◌, ◌⊎◌, inl, inr, Option, Some, is_some, refl, sym, ap, subst, ◌∙◌, map, drop, length}
use Rattle.list_laws.proofs.Options.{some-there}
use Rattle.tla_tree.specs.declared.form.Form.TheVariants as Form
use Rattle.tla_tree.specs.Syntax.{Tree, Node}
use Rattle.unit_grammar.specs.Units.{UnitTree, Variables, Constants, OperatorDefinition, FunctionDefinition, ModuleDefinition, Instance, Assumption, Theorem, Line, ModuleBegin, ModuleEnd, ModuleUnits}
use Rattle.std.specs.Prelude.{filter, not}
use Rattle.tla_model.specs.Contexts.{meaning_of, usable}
use Rattle.tla_model.specs.Entities.{Meaning, Text, variables}
use Rattle.tla_model.specs.Scopes.{definition}
use Rattle.tla_model.specs.Tables.{Named, Word, find, has}
use Rattle.module_model.specs.Exports.{Exports, ModuleView, exports_of, is_meant, parameters_in, stands_for_parameter}
use Rattle.module_model.specs.Instances.{own_parameters}
use Rattle.module_model.specs.Modules.{Reading, constants, left, text_of}
use Rattle.module_model.specs.Resolution.{ReadState, first as first_read, instance_brings, words_of}
use Rattle.module_model.proofs.Entries.{entry-of-table}
use Rattle.kind_text.specs.FlatModule.{FlatModule}
use Rattle.tree_kinds.specs.Standing.{Outside}
use Rattle.module_kinds.specs.ModuleKinds.{KindState, after, first, last, outside, read_all, views}
use Rattle.flat_kinds.proofs.Declarations.{read-same}
use Rattle.flat_kinds.specs.Symbols.{same_symbol}
use Rattle.flat_trees.specs.Instances.{symbols_of}
use Rattle.flat_trees.specs.Layouts.{order_of}
use Rattle.flattened_trees.specs.declared.End.TheVariants as end
use Rattle.flattened_trees.specs.Leads.{FlatFace, Leads, Setting, only}
use Rattle.flattened_trees.specs.Questions.{Question}
use Rattle.flattened_units.specs.Units.{AreUnitsMade, IsEnded, IsUnitMade, Reader, meanings_of, no_leads, with_symbols}
use Rattle.module_meanings.specs.Faces.{IsPlaced}
use Rattle.module_meanings.specs.Premises.{symbol_leads}
use Rattle.accepted_modules.specs.States.{kinds_behind}
use Rattle.accepted_modules.proofs.Contexts.{usable-found}
use Rattle.accepted_modules.proofs.Placed.{alike-placed, symbol-placed}
use Rattle.accepted_modules.proofs.Symbols.{Grows, HaveSymbols, IsSymbol, Outer, all-have, declared-grows, first-have, joined-grows}
use Rattle.accepted_modules.proofs.Tables.{IsThere, entry-there}
use Rattle.accepted_modules.proofs.Views.{own-read}
use Rattle.given_modules.proofs.Inside.{AreInside}

-- ---- among symbols

-- one of these
abbrev pub IsAmong : List Meaning → Meaning → Type 0
IsAmong [] m = ⊥
IsAmong (one ∷ rest) m = (one ≡ m) ⊎ IsAmong rest m

there-among : (entries : Exports) (name : Named) (m : Meaning) → IsThere entries name m → IsAmong (meanings_of entries) m
there-among [] name m there = absurd there
there-among (entry ∷ rest) name m (inl same) = inl same.1
there-among (entry ∷ rest) name m (inr there) = inr (there-among rest name m there)

-- those that pass a test are there among those that do
pub there-passes : (test : Named × Meaning → Bool) (entries : Exports) (name : Named) (m : Meaning) → IsThere entries name m → test (name, m) ≡ true → IsThere (filter test entries) name m
there-passes test [] name m there is = absurd there
there-passes test (entry ∷ rest) name m (inl same) is = by (test entry) (subst (λ n. test (n, entry.1) ≡ true) (sym same.0) (subst (λ k. test (name, k) ≡ true) (sym same.1) is))
  where
    by : (b : Bool) → b ≡ true → IsThere (cond b (entry ∷ filter test rest) (filter test rest)) name m
    by true e = inl same
    by false e = absurd (cc e)
there-passes test (entry ∷ rest) name m (inr there) is = by (test entry) (there-passes test rest name m there is)
  where
    by : (b : Bool) → IsThere (filter test rest) name m → IsThere (cond b (entry ∷ filter test rest) (filter test rest)) name m
    by true later = inr later
    by false later = later

-- entries that mean these
abbrev entries_for : List Meaning → Exports
entries_for ms = map (λ m. (Word [], m)) ms

meanings-for : (ms : List Meaning) → meanings_of (entries_for ms) ≡ ms
meanings-for [] = refl
meanings-for (m ∷ ms) = ap (λ rest. m ∷ rest) (meanings-for ms)

among-there : (ms : List Meaning) (m : Meaning) → IsAmong ms m → IsThere (entries_for ms) (Word []) m
among-there [] m one = absurd one
among-there (s ∷ rest) m (inl same) = inl (refl, same)
among-there (s ∷ rest) m (inr one) = inr (among-there rest m one)

-- symbols have places
pub among-placed : (leads : Leads) (ms : List Meaning) (place : ℕ) (m : Meaning) → IsAmong ms m → IsSymbol m → IsPlaced (with_symbols leads ms place) m
among-placed leads ms place m one symbol =
    subst (λ (symbols : List Meaning). IsPlaced (with_symbols leads symbols place) m) (meanings-for ms) (symbol-placed leads (entries_for ms) place (Word []) m (among-there ms m one) symbol)

-- what has a place has one behind further symbols
pub with-placed : (leads : Leads) (ms : List Meaning) (place : ℕ) (m : Meaning) → IsPlaced leads m → IsPlaced (with_symbols leads ms place) m
with-placed leads [] place m placed = placed
with-placed leads (s ∷ rest) place m placed = by (same_symbol m s) refl (with-placed leads rest (suc place) m placed)
  where
    by : (b : Bool) → same_symbol m s ≡ b → IsPlaced (with_symbols leads rest (suc place)) m → (p : ℕ) × (cond b (only (end.Place place (order_of s)) []) (with_symbols leads rest (suc place) m []) ≡ only (end.Place p (order_of m)) [])
    by true same later =
        let one : IsPlaced (with_symbols leads (s ∷ []) place) m = alike-placed leads ((Word [], s) ∷ []) place (Word []) s m (inl (refl, refl)) same in
        (one.0, sym (ap (λ b. cond b (only (end.Place place (order_of s)) []) (leads m [])) same) ∙ one.1)
    by false same later = later

-- ---- what is exported

-- symbols that a module exports are among its own, unless they can be used in the module round it; the same of those round it
abbrev pub AreExportedOwn : Reading → List Reading → List Meaning → List Setting → Type 0
AreExportedOwn here [] frame [] = (name : Named) (m : Meaning) → find here.exports name ≡ Some m → IsSymbol m → IsAmong frame m
AreExportedOwn here (outer ∷ readings) frame (setting ∷ settings) =
    ((name : Named) (m : Meaning) → find here.exports name ≡ Some m → IsSymbol m → has outer.context name ≡ false → IsAmong (drop (length setting.frame) frame) m) × AreExportedOwn outer readings setting.frame settings
AreExportedOwn here readings frame settings = ⊥

with-exported : (here next : Reading) (readings : List Reading) (frame : List Meaning) (settings : List Setting) → Grows here next → AreExportedOwn next readings frame settings → AreExportedOwn here readings frame settings
with-exported here next [] frame [] grows is = λ name m at symbol. is name m (grows name m at) symbol
with-exported here next (outer ∷ readings) frame (setting ∷ settings) grows is = ((λ name m at symbol apart. is.0 name m (grows name m at) symbol apart), is.1)
with-exported here next [] frame (setting ∷ settings) grows is = absurd is
with-exported here next (outer ∷ readings) frame [] grows is = absurd is

-- the symbols of the outermost module
abbrev pub outermost_frame : List Meaning → List Setting → List Meaning
outermost_frame frame [] = frame
outermost_frame frame (outer ∷ round) = outermost_frame outer.frame round

module _ (flat : FlatModule) (text : Text) (means : ℕ → Option Meaning) (implied : ℕ → List Meaning) (files : List ℕ → FlatFace) (outsides : List ℕ → Outside) (words : List ℕ) where
  -- at a unit
  abbrev pub IsExportedAt : KindState → Reader → Type 0
  IsExportedAt state reader = AreExportedOwn state.read.place.here state.read.place.round reader.setting.frame reader.round

  pub exported-before : (state : KindState) (reader : Reader) (unit : UnitTree) (next : Reader) (asked : List Question) → IsUnitMade flat text means implied files outsides words state reader unit next asked → IsExportedAt (after text outsides words state unit) next → IsExportedAt state reader
  exported-before state reader (OperatorDefinition local x) next asked made is =
      with-exported state.read.place.here _ state.read.place.round reader.setting.frame reader.round (declared-grows text (is_some local) state.read.place.here (definition x)) (subst (λ (r : Reader). IsExportedAt (after text outsides words state (OperatorDefinition local x)) r) made.3 is)
  exported-before state reader (FunctionDefinition local x) next asked made is =
      with-exported state.read.place.here _ state.read.place.round reader.setting.frame reader.round (declared-grows text (is_some local) state.read.place.here (definition x)) (subst (λ (r : Reader). IsExportedAt (after text outsides words state (FunctionDefinition local x)) r) made.3 is)
  exported-before state reader (ModuleDefinition local x) next asked made is =
      with-exported state.read.place.here _ state.read.place.round reader.setting.frame reader.round (declared-grows text (is_some local) state.read.place.here (definition x)) (subst (λ (r : Reader). IsExportedAt (after text outsides words state (ModuleDefinition local x)) r) made.3 is)
  exported-before state reader (Instance local x) next asked made is =
      with-exported state.read.place.here _ state.read.place.round reader.setting.frame reader.round (joined-grows (is_some local) state.read.place.here (instance_brings text (views text outsides words) words state.read x)) (by x made is)
    where
      by : (x : Tree) → IsUnitMade flat text means implied files outsides words state reader (Instance local x) next asked → IsExportedAt (after text outsides words state (Instance local x)) next → IsExportedAt (after text outsides words state (Instance local x)) reader
      by (Node (Form.Instance l) s rights) made is = subst (λ (r : Reader). IsExportedAt (after text outsides words state (Instance local (Node (Form.Instance l) s rights))) r) made.7 is
      by (Node Form.Let s rights) made is = subst (λ (r : Reader). IsExportedAt (after text outsides words state (Instance local (Node Form.Let s rights))) r) made.0 is
      by (Node form s rights) made is = subst (λ (r : Reader). IsExportedAt (after text outsides words state (Instance local (Node form s rights))) r) made.0 is
  exported-before state reader (Assumption word name x) next asked made is = subst (IsExportedAt state) made.3 is
  exported-before state reader (Theorem word name x) next asked made is = subst (IsExportedAt state) made.3 is
  exported-before state reader (ModuleBegin dashes name extends) next asked made is = let inner = subst (λ (r : Reader). IsExportedAt (after text outsides words state (ModuleBegin dashes name extends)) r) made.0.2.1 is in inner.1
  exported-before state reader (ModuleEnd closing) next asked made is = by state.read.place.round reader.round made.0 is
    where
      by : (round : List Reading) (settings : List Setting) → IsEnded flat text means implied files outsides words state round reader settings next → AreExportedOwn (left state.read.known state.read.place.here round).here (left state.read.known state.read.place.here round).round next.setting.frame next.round
          → AreExportedOwn state.read.place.here round reader.setting.frame settings
      by [] settings made is = absurd made
      by (outer ∷ round) [] made is = absurd made
      by (outer ∷ round) (setting ∷ settings) made is = (
        (λ name m at symbol apart.
            let entries : Exports = exports_of state.read.place.here.exports in
            let there : IsThere entries name m = entry-there entries name m (entry-of-table state.read.place.here.exports name ∙ at) in
            let parameter : IsThere (parameters_in entries) name m = there-passes (λ entry. is_meant stands_for_parameter entry.1) entries name m there symbol in
            let own : IsThere (own_parameters outer.context entries) name m = there-passes (λ entry. not (has outer.context entry.0)) (parameters_in entries) name m parameter (ap not apart) in
            subst (λ (ms : List Meaning). IsAmong ms m) made.0 (there-among (own_parameters outer.context entries) name m own)),
        with-exported outer (left state.read.known state.read.place.here (outer ∷ round)).here round setting.frame settings (λ name m at. at)
            (subst (λ (r : Reader). AreExportedOwn (left state.read.known state.read.place.here (outer ∷ round)).here round r.setting.frame r.round) made.1 is),
      )
  exported-before state reader (Variables names) next asked made is =
      with-exported state.read.place.here _ state.read.place.round reader.setting.frame reader.round (declared-grows text false state.read.place.here (variables names)) (subst (λ (r : Reader). IsExportedAt (after text outsides words state (Variables names)) r) made.0 is)
  exported-before state reader (Constants declarations) next asked made is =
      with-exported state.read.place.here _ state.read.place.round reader.setting.frame reader.round (declared-grows text false state.read.place.here (constants declarations)) (subst (λ (r : Reader). IsExportedAt (after text outsides words state (Constants declarations)) r) made.0 is)
  exported-before state reader (Line dashes) next asked made is = subst (IsExportedAt state) made.0 is

  pub exported-ahead : (units : List UnitTree) (state : KindState) (reader next : Reader) (asked : List Question) → AreUnitsMade flat text means implied files outsides words state reader units next asked → IsExportedAt (read_all text outsides words state units) next → IsExportedAt state reader
  exported-ahead [] state reader next asked made is = subst (IsExportedAt state) made.0 is
  exported-ahead (unit ∷ units) state reader next asked made is =
      exported-before state reader unit made.0 made.1 made.3 (exported-ahead units (after text outsides words state unit) made.0 next made.2 made.4 is)

  -- ---- the outermost module

  outermost-same : (state : KindState) (reader : Reader) (unit : UnitTree) (next : Reader) (asked : List Question) → IsUnitMade flat text means implied files outsides words state reader unit next asked → outermost_frame next.setting.frame next.round ≡ outermost_frame reader.setting.frame reader.round
  outermost-same state reader (OperatorDefinition local x) next asked made = ap (λ (r : Reader). outermost_frame r.setting.frame r.round) made.3
  outermost-same state reader (FunctionDefinition local x) next asked made = ap (λ (r : Reader). outermost_frame r.setting.frame r.round) made.3
  outermost-same state reader (ModuleDefinition local x) next asked made = ap (λ (r : Reader). outermost_frame r.setting.frame r.round) made.3
  outermost-same state reader (Instance local x) next asked made = by x made
    where
      by : (x : Tree) → IsUnitMade flat text means implied files outsides words state reader (Instance local x) next asked → outermost_frame next.setting.frame next.round ≡ outermost_frame reader.setting.frame reader.round
      by (Node (Form.Instance l) s rights) made = ap (λ (r : Reader). outermost_frame r.setting.frame r.round) made.7
      by (Node Form.Let s rights) made = ap (λ (r : Reader). outermost_frame r.setting.frame r.round) made.0
      by (Node _ s rights) made = ap (λ (r : Reader). outermost_frame r.setting.frame r.round) made.0
  outermost-same state reader (Assumption word name x) next asked made = ap (λ (r : Reader). outermost_frame r.setting.frame r.round) made.3
  outermost-same state reader (Theorem word name x) next asked made = ap (λ (r : Reader). outermost_frame r.setting.frame r.round) made.3
  outermost-same state reader (ModuleBegin dashes name extends) next asked made = ap (λ (r : Reader). outermost_frame r.setting.frame r.round) made.0.2.1
  outermost-same state reader (ModuleEnd closing) next asked made = by state.read.place.round reader.round made.0
    where
      by : (round : List Reading) (settings : List Setting) → IsEnded flat text means implied files outsides words state round reader settings next → outermost_frame next.setting.frame next.round ≡ outermost_frame reader.setting.frame settings
      by [] settings made = absurd made
      by (outer ∷ round) [] made = absurd made
      by (outer ∷ round) (setting ∷ settings) made = ap (λ (r : Reader). outermost_frame r.setting.frame r.round) made.1
  outermost-same state reader (Variables names) next asked made = ap (λ (r : Reader). outermost_frame r.setting.frame r.round) made.0
  outermost-same state reader (Constants declarations) next asked made = ap (λ (r : Reader). outermost_frame r.setting.frame r.round) made.0
  outermost-same state reader (Line dashes) next asked made = ap (λ (r : Reader). outermost_frame r.setting.frame r.round) made.0

  pub outermost-ahead : (units : List UnitTree) (state : KindState) (reader next : Reader) (asked : List Question) → AreUnitsMade flat text means implied files outsides words state reader units next asked → outermost_frame next.setting.frame next.round ≡ outermost_frame reader.setting.frame reader.round
  outermost-ahead [] state reader next asked made = ap (λ (r : Reader). outermost_frame r.setting.frame r.round) made.0
  outermost-ahead (unit ∷ units) state reader next asked made = outermost-ahead units (after text outsides words state unit) made.0 next made.2 made.4 ∙ outermost-same state reader unit made.0 made.1 made.3

-- ---- what can be used

-- symbols that can be used have places where symbols lead by themselves
pub usable-placed : (here : Reading) (round : List Reading) (frame : List Meaning) (settings : List Setting) → HaveSymbols here round → AreInside here round → AreExportedOwn here round frame settings → (name : Named) (m : Meaning) → meaning_of here.context name ≡ Some m → IsSymbol m
    → IsPlaced (symbol_leads settings frame) m
usable-placed here [] frame [] have inside own name m at symbol = by (have.symbols name m at symbol)
  where
    by : (find here.exports name ≡ Some m) ⊎ Outer [] name m → IsPlaced (with_symbols no_leads frame 0) m
    by (inl exported) = among-placed no_leads frame 0 m (own name m exported symbol) symbol
    by (inr never) = absurd never
usable-placed here (outer ∷ round) frame (setting ∷ settings) have inside own name m at symbol =
    by (λ there. usable-placed outer round setting.frame settings have.1 inside.1 own.1 name m there symbol) (have.0.symbols name m at symbol)
  where
    later : (meaning_of outer.context name ≡ Some m → IsPlaced (symbol_leads settings setting.frame) m) → meaning_of outer.context name ≡ Some m → IsPlaced (symbol_leads (setting ∷ settings) frame) m
    later again there = with-placed (symbol_leads settings setting.frame) (drop (length setting.frame) frame) (length setting.frame) m (again there)

    -- what is there round it is the same
    round-same : (x : Option Meaning) → find outer.context name ≡ Some x → meaning_of outer.context name ≡ Some m
    round-same x there =
        let here-too : Some x ≡ Some (Some m) = sym (inside.0 name x there) ∙ usable-found (find here.context name) m at in
        let same : x ≡ Some m = cc here-too in
        ap usable there ∙ same

    by_there : (meaning_of outer.context name ≡ Some m → IsPlaced (symbol_leads settings setting.frame) m) → (b : Bool) → has outer.context name ≡ b → find here.exports name ≡ Some m → IsPlaced (symbol_leads (setting ∷ settings) frame) m
    by_there again false apart exported =
        among-placed (symbol_leads settings setting.frame) (drop (length setting.frame) frame) (length setting.frame) m (own.0 name m exported symbol apart) symbol
    by_there again true is exported = let found = some-there (find outer.context name) is in later again (round-same found.0 found.1)

    by : (meaning_of outer.context name ≡ Some m → IsPlaced (symbol_leads settings setting.frame) m) → (find here.exports name ≡ Some m) ⊎ Outer (outer ∷ round) name m → IsPlaced (symbol_leads (setting ∷ settings) frame) m
    by again (inl exported) = by_there again (has outer.context name) refl exported
    by again (inr there) = later again there
usable-placed here [] frame (setting ∷ settings) have inside own name m at symbol = absurd own
usable-placed here (outer ∷ round) frame [] have inside own name m at symbol = absurd own

module _ (outsides : List ℕ → Outside) (source : List ℕ) (units : ModuleUnits) where
  -- symbols that can be used where a unit is read are exported, or come from outside
  pub behind-have : (before : List UnitTree) → HaveSymbols (kinds_behind outsides source units before).read.place.here (kinds_behind outsides source units before).read.place.round
  behind-have before =
      let files : List ℕ → ModuleView = views (text_of source units) outsides (words_of units) in
      subst (λ (s : ReadState). HaveSymbols s.place.here s.place.round) (sym (own-read outsides source units before))
      (all-have (text_of source units) files (words_of units) (first_read files source units) before (first-have files source units))

  -- symbols that are exported in the end are those of the module
  pub last-exported : (final : Reader) → (last outsides source units).read.place.round ≡ [] → final.round ≡ [] → final.setting.frame ≡ symbols_of (outside outsides source units)
      → AreExportedOwn (last outsides source units).read.place.here (last outsides source units).read.place.round final.setting.frame final.round
  last-exported final place round frame =
      let state : ReadState = (last outsides source units).read in
      subst (λ readings. AreExportedOwn state.place.here readings final.setting.frame final.round) (sym place)
      (subst (λ settings. AreExportedOwn state.place.here [] final.setting.frame settings) (sym round)
      (subst (λ (ms : List Meaning). AreExportedOwn state.place.here [] ms []) (sym frame)
      (subst (λ (s : ReadState). AreExportedOwn state.place.here [] (meanings_of (parameters_in (exports_of s.place.here.exports))) [])
      (read-same (text_of source units) outsides (words_of units) (first outsides source units) units.units)
      (λ name m at symbol.
      let entries : Exports = exports_of state.place.here.exports in
      let there : IsThere entries name m = entry-there entries name m (entry-of-table state.place.here.exports name ∙ at) in
      there-among (parameters_in entries) name m (there-passes (λ entry. is_meant stands_for_parameter entry.1) entries name m there symbol)))))
