-- What can be used at a unit was seen.
use Rattle.std.proofs.Common.{◌≡◌, ℕ, Bool, true, false, cond, List, [], ◌∷◌, ◌++◌, ◌⊎◌, inl, inr, Option, Some, None, is_some, map, refl, sym, subst}
use Rattle.std.specs.List.{AllByRecursion}
use Rattle.std.specs.Str.{bytes_eq}
use Rattle.tla_tree.specs.declared.form.Form.TheVariants as Form
use Rattle.tla_symbols.specs.declared.lexeme.Lexeme.{Lexeme}
use Rattle.tla_tree.specs.Syntax.{Tree}
use Rattle.unit_grammar.specs.Units.{UnitTree, Variables, Constants, OperatorDefinition, FunctionDefinition, ModuleDefinition, Instance, Assumption, Theorem, Line, ModuleBegin, ModuleEnd, ModuleUnits}
use Rattle.tla_model.specs.declared.names.Binder.{Binder}
use Rattle.tla_model.specs.declared.names.Meaning.TheVariants.{BuiltIn}
use Rattle.tla_model.specs.Contexts.{built_in, meaning_of}
use Rattle.tla_model.specs.Entities.{Meaning, Text, meant, variables}
use Rattle.tla_model.specs.Lexemes.{spelled}
use Rattle.tla_model.specs.Scopes.{definition}
use Rattle.tla_model.specs.Tables.{Named}
use Rattle.module_scope.specs.Environments.{Scope, begun, first as first_scope, inside, outermost, meaning as module_meaning}
use Rattle.module_model.specs.Exports.{Exports, Known, exported, exports_by}
use Rattle.module_model.specs.Modules.{Place, Reading, constants, declare_all, exports_under, extends_all, joined, left, nested, text_of, unread}
use Rattle.module_model.specs.Resolution.{instance_brings, words_of}
use Rattle.kind_text.specs.FlatModule.{FlatModule}
use Rattle.tree_kinds.specs.Standing.{Outside}
use Rattle.module_kinds.specs.ModuleKinds.{KindState, after, first, module_under, named_in, views}
use Rattle.flattened_trees.specs.Agreeing.{is_seen}
use Rattle.flattened_trees.specs.Leads.{FlatFace}
use Rattle.flattened_meanings.proofs.Fresh.{IsOneOf}
use Rattle.flattened_units.specs.Units.{Reader, meanings_of}
use Rattle.given_modules.specs.Passed.{extended_meanings, first_seen, seen_behind}
use Rattle.given_modules.proofs.Passed.{built-in-means}
use Rattle.given_modules.proofs.Passed.{IsEntry, declared-means, entry-seen, joined-means, one-is-seen, seen-left, seen-right}
use Rattle.given_modules.proofs.Passed.{BringSame, extends-means}

-- all names that can be used in a module were seen
abbrev pub IsAllSeen : List Meaning → Reading → Type 0
IsAllSeen seen reading = (name : Named) (m : Meaning) → meaning_of reading.context name ≡ Some m → is_seen seen m ≡ true

-- the same of a module and of those round it
abbrev pub AreAllSeen : List Meaning → Place → Type 0
AreAllSeen seen place = IsAllSeen seen place.here × AllByRecursion (IsAllSeen seen) place.round

here-more : (more seen : List Meaning) (reading : Reading) → IsAllSeen seen reading → IsAllSeen (more ++ seen) reading
here-more more seen reading all name m is = seen-right more seen m (all name m is)

round-more : (more seen : List Meaning) (round : List Reading) → AllByRecursion (IsAllSeen seen) round → AllByRecursion (IsAllSeen (more ++ seen)) round
round-more more seen [] all = tt
round-more more seen (outer ∷ round) all = (here-more more seen outer all.0, round-more more seen round all.1)

left-seen : (known : Known) (seen : List Meaning) (inner : Reading) (round : List Reading) → IsAllSeen seen inner → AllByRecursion (IsAllSeen seen) round → AreAllSeen seen (left known inner round)
left-seen known seen inner [] here all = (here, tt)
left-seen known seen inner (outer ∷ round) here all = (all.0, all.1)

module _ (text : Text) (outsides : List ℕ → Outside) (words : List ℕ) where
  declared-seen : (seen : List Meaning) (binders : List Binder) (local : Bool) (reading : Reading) → IsAllSeen seen reading → IsAllSeen (map (meant text) binders ++ seen) (declare_all text local reading binders)
  declared-seen seen binders local reading all name m is = by (declared-means text binders local reading name m is)
    where
      by : (meaning_of reading.context name ≡ Some m) ⊎ IsOneOf text binders m → is_seen (map (meant text) binders ++ seen) m ≡ true
      by (inl before) = seen-right (map (meant text) binders) seen m (all name m before)
      by (inr one) = seen-left (map (meant text) binders) seen m (one-is-seen text binders m one)

  joined-seen : (seen : List Meaning) (entries : Exports) (local : Bool) (reading : Reading) → IsAllSeen seen reading → IsAllSeen (meanings_of entries ++ seen) (joined local reading entries)
  joined-seen seen entries local reading all name m is = by (joined-means entries local reading name m is)
    where
      by : (meaning_of reading.context name ≡ Some m) ⊎ IsEntry entries m → is_seen (meanings_of entries ++ seen) m ≡ true
      by (inl before) = seen-right (meanings_of entries) seen m (all name m before)
      by (inr one) = seen-left (meanings_of entries) seen m (entry-seen entries m one)

  extended-seen : (seen frame : List Meaning) (modules : Scope Outside) (ls : List Lexeme) (reading : Reading) → BringSame text outsides words modules reading.modules → IsAllSeen seen reading
      → IsAllSeen ((frame ++ extended_meanings text outsides words modules ls) ++ seen) (extends_all text (exports_by (views text outsides words)) reading ls)
  extended-seen seen frame modules ls reading same all name m is = by (extends-means text outsides words modules ls reading name m same is)
    where
      by : (meaning_of reading.context name ≡ Some m) ⊎ (is_seen (extended_meanings text outsides words modules ls) m ≡ true) → is_seen ((frame ++ extended_meanings text outsides words modules ls) ++ seen) m ≡ true
      by (inl before) = seen-right (frame ++ extended_meanings text outsides words modules ls) seen m (all name m before)
      by (inr one) = seen-left (frame ++ extended_meanings text outsides words modules ls) seen m (seen-right frame (extended_meanings text outsides words modules ls) m one)

  -- names of modules mean the same where a nested module begins
  abbrev pub BeginsSame : KindState → UnitTree → Type 0
  BeginsSame state (ModuleBegin dashes name extends) =
      (title : List ℕ)
      → exports_under (exports_by (views text outsides words)) (module_meaning (inside state.read.place.here.modules (spelled text.source name)) title) title
      ≡ exported (named_in text outsides words (begun state.modules (spelled text.source name)) title).view
  BeginsSame state unit = Unit {0}

  -- behind a unit
  pub unit-seen : (state : KindState) (unit : UnitTree) (next : Reader) (seen : List Meaning) → BeginsSame state unit → AreAllSeen seen state.read.place → AreAllSeen (seen_behind text outsides words state unit next seen) (after text outsides words state unit).read.place
  unit-seen state (Variables ns) next seen same all = (declared-seen seen (variables ns) false state.read.place.here all.0, round-more (map (meant text) (variables ns)) seen state.read.place.round all.1)
  unit-seen state (Constants ds) next seen same all = (declared-seen seen (constants ds) false state.read.place.here all.0, round-more (map (meant text) (constants ds)) seen state.read.place.round all.1)
  unit-seen state (OperatorDefinition local x) next seen same all = (declared-seen seen (definition x) (is_some local) state.read.place.here all.0, round-more (map (meant text) (definition x)) seen state.read.place.round all.1)
  unit-seen state (FunctionDefinition local x) next seen same all = (declared-seen seen (definition x) (is_some local) state.read.place.here all.0, round-more (map (meant text) (definition x)) seen state.read.place.round all.1)
  unit-seen state (ModuleDefinition local x) next seen same all = (declared-seen seen (definition x) (is_some local) state.read.place.here all.0, round-more (map (meant text) (definition x)) seen state.read.place.round all.1)
  unit-seen state (Instance local x) next seen same all =
      let brings : Exports = instance_brings text (views text outsides words) words state.read x in
      (joined-seen seen brings (is_some local) state.read.place.here all.0, round-more (meanings_of brings) seen state.read.place.round all.1)
  unit-seen state (Assumption word name x) next seen same all = all
  unit-seen state (Theorem word name x) next seen same all = all
  unit-seen state (Line dashes) next seen same all = all
  unit-seen state (ModuleBegin dashes name extends) next seen same all =
      let modules : Scope Outside = begun state.modules (spelled text.source name) in
      let more : List Meaning = next.setting.frame ++ extended_meanings text outsides words modules extends in (
        extended-seen seen next.setting.frame modules extends (nested text state.read.place.here name) same all.0,
        (here-more more seen state.read.place.here all.0, round-more more seen state.read.place.round all.1),
      )
  unit-seen state (ModuleEnd closing) next seen same all = left-seen state.read.known seen state.read.place.here state.read.place.round all.0 all.1

-- modules of files alone can be named
outermost-same : (text : Text) (outsides : List ℕ → Outside) (words : List ℕ) → BringSame text outsides words (first_scope text.file) (outermost text.file)
outermost-same text outsides words name = by_name (bytes_eq name text.file)
  where
    by_name : (b : Bool) → exports_under (exports_by (views text outsides words)) (cond b (Some None) None) name ≡ exported (module_under outsides (cond b (Some None) None) name).view
    by_name true = refl
    by_name false = refl

-- behind what a module extends
pub first-all-seen : (flat : FlatModule) (means : ℕ → Option Meaning) (implied : ℕ → List Meaning) (files : List ℕ → FlatFace) (outsides : List ℕ → Outside) (source : List ℕ) (units : ModuleUnits) (symbols : List Meaning)
    → AreAllSeen (first_seen flat means implied files outsides source units symbols) (first outsides source units).read.place
first-all-seen flat means implied files outsides source units symbols = (λ name m is. by name m (extends-means text outsides words (first_scope text.file) units.extends (unread text) name m (outermost-same text outsides words) is), tt)
  where
    text : Text
    text = text_of source units

    words : List ℕ
    words = words_of units

    by : (name : Named) (m : Meaning) → (meaning_of built_in name ≡ Some m) ⊎ (is_seen (extended_meanings text outsides words (first_scope text.file) units.extends) m ≡ true) → is_seen (first_seen flat means implied files outsides source units symbols) m ≡ true
    by name m (inl before) = subst (λ n. is_seen (first_seen flat means implied files outsides source units symbols) n ≡ true) (sym (built-in-means name m before)) refl
    by name m (inr one) = seen-right (BuiltIn ∷ symbols) (extended_meanings text outsides words (first_scope text.file) units.extends) m one
