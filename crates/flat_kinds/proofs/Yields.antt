-- What names yield, whichever way they come: from files and from nested modules that are extended.
use Rattle.std.proofs.Common.{◌≡◌, ℕ, Bool, true, false, cond, List, [], ◌∷◌, ◌⊎◌, inl, inr, Option, Some, None, refl, sym, ap, ◌∙◌, subst}
use Rattle.std.specs.List.{AllByRecursion}
use Rattle.std.proofs.lemmas.Bool.{and_parts}
use Rattle.tla_symbols.specs.declared.lexeme.Lexeme.{Lexeme}
use Rattle.unit_grammar.specs.Units.{UnitTree, Variables, Constants, OperatorDefinition, FunctionDefinition, ModuleDefinition, Instance, Assumption, Theorem, Line, ModuleBegin, ModuleEnd, ModuleUnits}
use Rattle.tla_model.specs.declared.names.Meaning.TheVariants.{BuiltIn, Declared}
use Rattle.tla_model.specs.Entities.{Meaning, Text, same_decl, same_meaning, same_units}
use Rattle.tla_model.specs.EntityKinds.{is_meant, stands_behind}
use Rattle.tla_model.specs.Lexemes.{spelled}
use Rattle.tla_model.specs.Tables.{Named, same_named}
use Rattle.tla_model.specs.Same.{decl-equal, units-equal}
use Rattle.module_scope.specs.Environments.{Environment as Modules, Scope, begun, ended, first as first_scope, meaning as module_meaning}
use Rattle.module_model.specs.Exports.{Exports, entry_of, exported, exports_of, instantiable}
use Rattle.module_model.specs.Modules.{Reading, text_of}
use Rattle.module_model.specs.Resolution.{ReadState, words_of}
use Rattle.kind_text.specs.FlatModule.{FlatModule}
use Rattle.kind_text.specs.ExpandedKind.{Expanded}
use Rattle.kind_text.specs.Substitution.{Item}
use Rattle.tree_kinds.specs.Standing.{Environment, Outside, Steps, Value, coming, name_among, same_standing, value_in, with_entries}
use Rattle.tree_kinds.proofs.Standings.{standing-means}
use Rattle.module_kinds.specs.ModuleKinds.{KindState, after, extended, first, last, module_under, named_in, nested_outside, outside, standing_behind}
use Rattle.flat_trees.specs.Stands.{IsStanding, Stand, Unsaid}
use Rattle.flat_trees.specs.Layouts.{Layout}
use Rattle.flat_trees.proofs.Meanings.{named-equal, named-itself}
use Rattle.flat_kinds.specs.Declarations.{IsOnce, OfAllKnown, OfKnown}
use Rattle.flat_kinds.specs.Readings.{BringNone, KeepsStanding, Leaves, StaysBehind}
use Rattle.flat_kinds.specs.Yields.{AreYielding, ComesAgain, EndsYielding, HasExported, HasYielded, IsYielding, Yields, yielded}
use Rattle.flat_kinds.proofs.Declarations.{added-known, found-known, read-same}
use Rattle.flat_kinds.proofs.Distinct.{HaveOwnNames, words-own}
use Rattle.flat_kinds.proofs.Leaving.{meaning-left}

-- the entry under a name by which a meaning comes
record Entry (entries : Exports) (meaning : Meaning) (name : Named) : Type 0 where
  pub other : Meaning
  pub there : entry_of entries name ≡ Some other
  pub same : same_meaning meaning other ≡ true
  pub behind : is_meant stands_behind other ≡ true
  pub own : (key : Named) → AllByRecursion (λ (one : Named × Meaning). key ≡ one.0 → ⊥) entries → key ≡ name → ⊥

entry-found : (entries : Exports) (meaning : Meaning) (name : Named) → HaveOwnNames entries → name_among (instantiable entries) meaning ≡ Some name → Entry entries meaning name
entry-found [] meaning name own is = cc is
entry-found (entry ∷ rest) meaning name own is = by_kind (is_meant stands_behind entry.1) refl (entry-found rest meaning name own.1) is
  where
    later : Entry rest meaning name → Entry (entry ∷ rest) meaning name
    later found = record {
      other = found.other;
      there = by_name (same_named name entry.0) refl;
      same = found.same;
      behind = found.behind;
      own = λ key all. found.own key all.1;
    }
      where
        by_name : (b : Bool) → same_named name entry.0 ≡ b → cond b (Some entry.1) (entry_of rest name) ≡ Some found.other
        by_name false is = found.there
        by_name true is = absurd (found.own entry.0 own.0 (sym (named-equal name entry.0 is)))

    by_same : (b : Bool) → same_standing meaning entry.1 ≡ b → is_meant stands_behind entry.1 ≡ true → (name_among (instantiable rest) meaning ≡ Some name → Entry rest meaning name) → cond b (Some entry.0) (name_among (instantiable rest) meaning) ≡ Some name → Entry (entry ∷ rest) meaning name
    by_same true same behind others is =
        let named : entry.0 ≡ name = cc is in
        record {
          other = entry.1;
          there = ap (λ b. cond b (Some entry.1) (entry_of rest name)) (subst (λ n. same_named n entry.0 ≡ true) named (named-itself entry.0));
          same = standing-means meaning entry.1 same;
          behind = behind;
          own = λ key all equal. all.0 (equal ∙ sym named);
        }
    by_same false same behind others is = later (others is)

    by_kind : (b : Bool) → is_meant stands_behind entry.1 ≡ b → (name_among (instantiable rest) meaning ≡ Some name → Entry rest meaning name) → name_among (cond b (entry ∷ instantiable rest) (instantiable rest)) meaning ≡ Some name → Entry (entry ∷ rest) meaning name
    by_kind true behind others is = by_same (same_standing meaning entry.1) refl behind others is
    by_kind false behind others is = later (others is)

module _ (yields : Yields) where
  -- ---- modules that are extended

  come : (value : Value) (entries : Exports) (from : Steps → Expanded) (meaning : Meaning) (name : Named) → name_among entries meaning ≡ Some name → coming from value (name_among entries meaning) ≡ (λ arguments path. from (record { name = name; arguments = arguments } ∷ path))
  come value entries from meaning name is = ap (λ found. coming from value found) is

  one-brought : (other : Outside) (standing parameters : Environment) (meaning : Meaning) (name : Named) → IsYielding yields other → name_among (instantiable (exported other.view)) meaning ≡ Some name → with_entries standing (instantiable (exported other.view)) (other.standing parameters) meaning ≡ yielded yields meaning parameters
  one-brought other standing parameters meaning name yielding is =
      come (standing meaning) (instantiable (exported other.view)) (other.standing parameters) meaning name is ∙ (λ i arguments path. yielding meaning name is parameters arguments path i)

  one-kept : (other : Outside) (standing parameters : Environment) (meaning : Meaning) → IsYielding yields other → standing meaning ≡ yielded yields meaning parameters → with_entries standing (instantiable (exported other.view)) (other.standing parameters) meaning ≡ yielded yields meaning parameters
  one-kept other standing parameters meaning yielding before = by_found (name_among (instantiable (exported other.view)) meaning) refl
    where
      by_found : (found : Option Named) → name_among (instantiable (exported other.view)) meaning ≡ found → with_entries standing (instantiable (exported other.view)) (other.standing parameters) meaning ≡ yielded yields meaning parameters
      by_found None is = ap (λ f. coming (other.standing parameters) (standing meaning) f) is ∙ before
      by_found (Some name) is = one-brought other standing parameters meaning name yielding is

  module _ (text : Text) (files : List ℕ → Outside) (words : List ℕ) (files_yield : (name : List ℕ) → IsYielding yields (files name)) where
    named-yields : (modules : Modules Outside) (name : List ℕ) → OfAllKnown (IsYielding yields) modules → IsYielding yields (module_under files (module_meaning modules name) name)
    named-yields modules name all = found-known (IsYielding yields) modules name (λ (found : Option (Option Outside)). IsYielding yields (module_under files found name)) (files_yield name) some all
      where
        some : (found : Option Outside) → OfKnown (IsYielding yields) found → IsYielding yields (module_under files (Some found) name)
        some None one = λ meaning other is. cc is
        some (Some known) one = one

    extended-kept : (modules : Scope Outside) (parameters standing : Environment) (ls : List Lexeme) (meaning : Meaning) → OfAllKnown (IsYielding yields) modules.here → standing meaning ≡ yielded yields meaning parameters → extended text files words modules parameters standing ls meaning ≡ yielded yields meaning parameters
    extended-kept modules parameters standing [] meaning all before = before
    extended-kept modules parameters standing (l ∷ rest) meaning all before =
        let other : Outside = named_in text files words modules (spelled text.source l) in
        extended-kept modules parameters (with_entries standing (instantiable (exported other.view)) (other.standing parameters)) rest meaning all
        (one-kept other standing parameters meaning (named-yields modules.here (spelled text.source l) all) before)

    -- what one of them brings is there
    extended-brought : (modules : Scope Outside) (ls : List Lexeme) (meaning : Meaning) → OfAllKnown (IsYielding yields) modules.here → BringNone text files words modules ls meaning ⊎ ((parameters standing : Environment) → extended text files words modules parameters standing ls meaning ≡ yielded yields meaning parameters)
    extended-brought modules [] meaning all = inl tt
    extended-brought modules (l ∷ rest) meaning all =
        let other : Outside = named_in text files words modules (spelled text.source l) in
        by_found other (named-yields modules.here (spelled text.source l) all) (name_among (instantiable (exported other.view)) meaning) refl (extended-brought modules rest meaning all)
      where
        by_found : (other : Outside) → IsYielding yields other → (found : Option Named) → name_among (instantiable (exported other.view)) meaning ≡ found
            → BringNone text files words modules rest meaning ⊎ ((parameters standing : Environment) → extended text files words modules parameters standing rest meaning ≡ yielded yields meaning parameters)
            → ((name_among (instantiable (exported other.view)) meaning ≡ None) × BringNone text files words modules rest meaning) ⊎ ((parameters standing : Environment) → extended text files words modules parameters (with_entries standing (instantiable (exported other.view)) (other.standing parameters)) rest meaning ≡ yielded yields meaning parameters)
        by_found other yielding found is (inr holds) = inr (λ parameters standing. holds parameters (with_entries standing (instantiable (exported other.view)) (other.standing parameters)))
        by_found other yielding None is (inl none) = inl (is, none)
        by_found other yielding (Some name) is (inl none) =
            inr
            (λ parameters standing.
            extended-kept modules parameters (with_entries standing (instantiable (exported other.view)) (other.standing parameters)) rest meaning all (one-brought other standing parameters meaning name yielding is))

    -- a nested module keeps what a name yields, whatever it extends
    pub begins-yielded : (state : KindState) (dashes name : Lexeme) (extends : List Lexeme) (meaning : Meaning) → OfAllKnown (IsYielding yields) state.modules.here → HasYielded yields state meaning → HasYielded yields (after text files words state (ModuleBegin dashes name extends)) meaning
    begins-yielded state dashes name extends meaning all has parameters =
        extended-kept (begun state.modules (spelled text.source name)) parameters (state.standing parameters) extends meaning
        (added-known (IsYielding yields) state.modules.here (spelled text.source name) None all tt) (has parameters)

  -- what a module extends has what it yields
  pub first-yielded : (files : List ℕ → Outside) (source : List ℕ) (units : ModuleUnits) (meaning : Meaning) → ((name : List ℕ) → IsYielding yields (files name)) → BringNone (text_of source units) files (words_of units) (first_scope (text_of source units).file) units.extends meaning ⊎ HasYielded yields (first files source units) meaning
  first-yielded files source units meaning files_yield =
      let text : Text = text_of source units in
      by_brought (extended-brought text files (words_of units) files_yield (first_scope text.file) units.extends meaning (tt, tt))
    where
      by_brought : BringNone (text_of source units) files (words_of units) (first_scope (text_of source units).file) units.extends meaning ⊎ ((parameters standing : Environment) → extended (text_of source units) files (words_of units) (first_scope (text_of source units).file) parameters standing units.extends meaning ≡ yielded yields meaning parameters)
          → BringNone (text_of source units) files (words_of units) (first_scope (text_of source units).file) units.extends meaning ⊎ HasYielded yields (first files source units) meaning
      by_brought (inl none) = inl none
      by_brought (inr holds) = inr (λ parameters. holds parameters parameters)

  -- what a unit leaves stands for what it yields
  pub left-yielded : (text : Text) (files : List ℕ → Outside) (words : List ℕ) (state : KindState) (unit : UnitTree) (meaning : Meaning) → Leaves text files words state unit meaning → HasYielded yields state meaning → HasYielded yields (after text files words state unit) meaning
  left-yielded text files words state unit meaning leaves has parameters = meaning-left text files words state unit meaning leaves parameters ∙ has parameters

  -- ---- modules by what they export

  yielded-same : (a b : Meaning) (parameters : Environment) → same_meaning a b ≡ true → yielded yields b parameters ≡ yielded yields a parameters
  yielded-same BuiltIn BuiltIn parameters same = refl
  yielded-same BuiltIn (Declared f y) parameters same = cc same
  yielded-same (Declared e x) BuiltIn parameters same = cc same
  yielded-same (Declared e x) (Declared f y) parameters same =
      let parts = and_parts (same_decl x.decl y.decl) (same_units x.via y.via) same in
      sym (ap (λ d. yields d x.via parameters) (decl-equal x.decl y.decl parts.0) ∙ ap (λ via. yields y.decl via parameters) (units-equal x.via y.via parts.1))

  exports-yield : (table : Exports) (standing : Environment → Environment) (meaning : Meaning) (name : Named) → HaveOwnNames table → name_among (instantiable table) meaning ≡ Some name → ((key : Named) (other : Meaning) → entry_of table key ≡ Some other → is_meant stands_behind other ≡ true → (parameters : Environment) → standing parameters other ≡ yielded yields other parameters)
      → (parameters : Environment) (arguments : List Item) (path : Steps) → value_in (standing parameters) (entry_of table name) arguments path ≡ yielded yields meaning parameters arguments path
  exports-yield table standing meaning name own is has parameters arguments path =
      let found : Entry table meaning name = entry-found table meaning name own is in
      ap (λ (one : Option Meaning). value_in (standing parameters) one arguments path) found.there
      ∙ ap (λ (value : Value). value arguments path) (has name found.other found.there found.behind parameters ∙ yielded-same meaning found.other parameters found.same)

  -- a nested module that can be named
  pub nested-yields : (state : KindState) (outer : Reading) (round : List Reading) → IsOnce state.read.place.here.exports → HasExported yields state → IsYielding yields (nested_outside state (outer ∷ round))
  nested-yields state outer round once has meaning name is parameters arguments path =
      let table = state.read.place.here.exports in
      exports-yield (exports_of table) state.standing meaning name (words-own table.words table.symbols once.0 once.1) is has parameters arguments path

  ended-yields : (state : KindState) (round : List Reading) → IsOnce state.read.place.here.exports → HasExported yields state → IsYielding yields (nested_outside state round)
  ended-yields state [] once has = λ meaning name is. cc is
  ended-yields state (outer ∷ round) once has = nested-yields state outer round once has

  -- the modules that can be named behind one
  ended-modules : (known : Outside) (here : Modules Outside) (round : List (List ℕ × Modules Outside)) → IsYielding yields known → AreYielding yields (record { here = here; round = round }) → AreYielding yields (ended known here round)
  ended-modules known here [] one all = all
  ended-modules known here (nested ∷ round) one all = record { here = added-known (IsYielding yields) nested.1 nested.0 (Some known) all.round.0 one; round = all.round.1 }

  -- modules that can be named behind a unit
  pub modules-yield : (text : Text) (files : List ℕ → Outside) (words : List ℕ) (state : KindState) (unit : UnitTree) → AreYielding yields state.modules → EndsYielding yields state unit → AreYielding yields (after text files words state unit).modules
  modules-yield text files words state (ModuleBegin dashes name extends) all ends = record { here = added-known (IsYielding yields) state.modules.here (spelled text.source name) None all.here tt; round = (all.here, all.round) }
  modules-yield text files words state (ModuleEnd closing) all ends =
      ended-modules (nested_outside state state.read.place.round) state.modules.here state.modules.round (ended-yields state state.read.place.round ends.0 ends.1) (record { here = all.here; round = all.round })
  modules-yield text files words state (Variables names) all ends = all
  modules-yield text files words state (Constants declarations) all ends = all
  modules-yield text files words state (OperatorDefinition local x) all ends = all
  modules-yield text files words state (FunctionDefinition local x) all ends = all
  modules-yield text files words state (ModuleDefinition local x) all ends = all
  modules-yield text files words state (Instance local x) all ends = all
  modules-yield text files words state (Assumption word name x) all ends = all
  modules-yield text files words state (Theorem word name x) all ends = all
  modules-yield text files words state (Line dashes) all ends = all

  -- a module of a file
  pub file-yields : (files : List ℕ → Outside) (source : List ℕ) (units : ModuleUnits) → IsOnce (last files source units).read.place.here.exports → HasExported yields (last files source units) → IsYielding yields (outside files source units)
  file-yields files source units once has meaning name is parameters arguments path =
      let text : Text = text_of source units in
      let words : List ℕ = words_of units in
      let table = (last files source units).read.place.here.exports in
      let same = read-same text files words (first files source units) units.units in
      exports-yield (exports_of table) (last files source units).standing meaning name (words-own table.words table.symbols once.0 once.1)
      (subst (λ (state : ReadState). name_among (instantiable (exports_of state.place.here.exports)) meaning ≡ Some name) (sym same) is) has parameters arguments path

  -- ---- names of modules round a nested one

  module _ (text : Text) (files : List ℕ → Outside) (words : List ℕ) (flat : FlatModule) (symbols : Meaning → Stand) (layout : Layout) (state : KindState) (unit : UnitTree) where
    pub again-stays : KeepsStanding flat symbols layout state.standing → ((meaning : Meaning) → ComesAgain yields text files words state unit layout meaning) → StaysBehind text files words flat state unit symbols layout
    again-stays keeps each frame parameters room stands meaning = by_case (each meaning)
      where
        by_case : ComesAgain yields text files words state unit layout meaning → Leaves text files words state unit meaning ⊎ IsStanding flat frame [] (layout.stands meaning) (standing_behind text files words state unit parameters meaning)
        by_case (inl leaves) = inl leaves
        by_case (inr (inl unsaid)) = inr (subst (λ stand. IsStanding flat frame [] stand (standing_behind text files words state unit parameters meaning)) (sym unsaid) tt)
        by_case (inr (inr has)) =
            inr (subst (λ value. IsStanding flat frame [] (layout.stands meaning) value) (has.0 parameters ∙ sym (has.1 parameters)) (keeps frame parameters room stands meaning))

  pub begun-stays : (text : Text) (files : List ℕ → Outside) (words : List ℕ) (flat : FlatModule) (symbols : Meaning → Stand) (layout : Layout) (state : KindState) (dashes name : Lexeme) (extends : List Lexeme) → ((title : List ℕ) → IsYielding yields (files title)) → OfAllKnown (IsYielding yields) state.modules.here → KeepsStanding flat symbols layout state.standing
      → ((meaning : Meaning) → Leaves text files words state (ModuleBegin dashes name extends) meaning ⊎ ((layout.stands meaning ≡ Unsaid) ⊎ HasYielded yields state meaning)) → StaysBehind text files words flat state (ModuleBegin dashes name extends) symbols layout
  begun-stays text files words flat symbols layout state dashes name extends files_yield all keeps each =
      again-stays text files words flat symbols layout state (ModuleBegin dashes name extends) keeps (λ meaning. by_case meaning (each meaning))
    where
      by_case : (meaning : Meaning) → Leaves text files words state (ModuleBegin dashes name extends) meaning ⊎ ((layout.stands meaning ≡ Unsaid) ⊎ HasYielded yields state meaning) → ComesAgain yields text files words state (ModuleBegin dashes name extends) layout meaning
      by_case meaning (inl leaves) = inl leaves
      by_case meaning (inr (inl unsaid)) = inr (inl unsaid)
      by_case meaning (inr (inr has)) = inr (inr (has, begins-yielded text files words files_yield state dashes name extends meaning all has))
