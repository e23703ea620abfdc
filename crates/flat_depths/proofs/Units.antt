-- The units of a module, with those that are nested in it, keep depths.
use Rattle.std.proofs.Common.{◌≡◌, ℕ, Bool, true, false, cond, List, [], ◌∷◌, ◌⊎◌, inl, inr, Option, Some, None, map, refl, sym, ap, ◌∙◌, subst}
use Rattle.std.specs.Prelude.{◌||◌}
use Rattle.std.specs.List.{AllByRecursion}
use mathlib.Core.Path.{fun_ext}
use Rattle.tla_symbols.specs.declared.lexeme.Lexeme.{Lexeme}
use Rattle.tla_tree.specs.declared.form.Form.TheVariants as Form
use Rattle.tla_tree.specs.Syntax.{Tree, Node}
use Rattle.unit_grammar.specs.Units.{UnitTree, Variables, Constants, OperatorDefinition, FunctionDefinition, ModuleDefinition, Instance, Assumption, Theorem, Line, ModuleBegin, ModuleEnd, ModuleUnits}
use Rattle.tla_model.specs.Tables.{Named}
use Rattle.tla_model.specs.Entities.{Meaning, Text, meant}
use Rattle.tla_model.specs.Lexemes.{spelled}
use Rattle.tla_model.specs.Scopes.{definition}
use Rattle.module_scope.specs.Environments.{Scope, begun, first as first_scope}
use Rattle.module_model.specs.Exports.{Exports, ModuleView, entry_of, exports_of}
use Rattle.module_model.specs.Modules.{text_of}
use Rattle.module_model.specs.Resolution.{instance_brings, outside_in, words_of}
use Rattle.kind_text.specs.FlatModule.{Extends, FlatModule, IsOrdered}
use Rattle.tree_kinds.specs.Standing.{Outside, Reached, name_among, same_standing}
use Rattle.tree_kinds.specs.TreeDepths.{Depths, coming_depth, deeper, defined_depth, no_depths, reached_by, replaced_depth, with_depth, with_entry_depths}
use Rattle.module_kinds.specs.ModuleKinds.{KindState, after, beneath, depths_behind, extended_depths, first, known_at, last, named, named_in, outside, outside_by, read_all, views, with_brought}
use Rattle.flat_trees.specs.Stands.{Stand, Unsaid, Leaf, Place, Defined, Through, Brought}
use Rattle.flat_trees.specs.Layouts.{Layout, with_brought as brought_stands}
use Rattle.flat_kinds.specs.Readings.{BringNone, Extension, KeepsState, Leaves, exported_stand, extended_entries, extended_stands, is_among, or_stand, stand_in, with_own}
use Rattle.flat_kinds.specs.Modules.{Coming, Current, Stands, Begins, Ends, IsCurrentWithin, IsEnded, first_current, here_behind, module_stands, round_behind}
use Rattle.flat_depths.specs.Depths.{AgreesInDepth, HasDepths, HaveDepths, IsDeepModule}
use Rattle.flat_depths.specs.Modules.{AllStayDeep, AreDeepExtensions, AreDeepRead, IsBegunDeep, IsDeepAlong, IsDeepRead, IsDefinitionDeep, IsUnitDeep, KeepDepths}
use Rattle.flat_depths.proofs.Agreeing.{extended-deep, with-stands-deep}
use Rattle.flat_depths.proofs.Growing.{has-kept}

-- ---- what units leave

depths-left : (depths : Depths) (meanings : List Meaning) (reached : List Named → Reached) (other : Meaning) (path : List Named) → is_among meanings other ≡ false → with_depth depths meanings reached other path ≡ depths other path
depths-left depths [] reached other path among = refl
depths-left depths (m ∷ rest) reached other path among =
    by_sameness (same_standing other m) (with_depth depths rest reached other path) (λ others. depths-left depths rest reached other path others) among
  where
    by_sameness : (t : Bool) (found : Reached) → (is_among rest other ≡ false → found ≡ depths other path) → (t || is_among rest other) ≡ false → cond t (reached path) found ≡ depths other path
    by_sameness true found others among = cc
    by_sameness false found others among = others among

entries-left : (depths : Depths) (entries : Exports) (from : List Named → Reached) (meaning : Meaning) (path : List Named) → name_among entries meaning ≡ None → with_entry_depths depths entries from meaning path ≡ depths meaning path
entries-left depths entries from meaning path none = ap (λ found. coming_depth from (depths meaning path) found path) none

module _ (text : Text) (files : List ℕ → Outside) (words : List ℕ) where
  extended-left : (modules : Scope Outside) (depths : Depths) (ls : List Lexeme) (meaning : Meaning) (path : List Named) → BringNone text files words modules ls meaning → extended_depths text files words modules depths ls meaning path ≡ depths meaning path
  extended-left modules depths [] meaning path none = refl
  extended-left modules depths (l ∷ rest) meaning path none =
      let from = (named_in text files words modules (spelled text.source l)).depths in
      extended-left modules (with_entry_depths depths (extended_entries text files words modules l) from) rest meaning path none.1
      ∙ entries-left depths (extended_entries text files words modules l) from meaning path none.0

  brought-left : (state : KindState) (unit : UnitTree) (x : Tree) (meaning : Meaning) (path : List Named) → name_among (instance_brings text (views text files words) words state.read x) meaning ≡ None → with_brought text files words state unit x meaning path ≡ state.depths meaning path
  brought-left state unit (Node (Form.Instance l) s parts) meaning path none =
      entries-left state.depths (instance_brings text (views text files words) words state.read (Node (Form.Instance l) s parts))
      (λ p. deeper (replaced_depth text (known_at text files words state unit) (named text files words state) (beneath text files words state) (Node (Form.Instance l) s parts)) ((named text files words state (spelled text.source l)).depths p))
      meaning path none
  brought-left state unit (Node form s parts) meaning path none = refl

  -- what a unit leaves is as deep as before
  pub meaning-left : (state : KindState) (unit : UnitTree) (meaning : Meaning) (path : List Named) → Leaves text files words state unit meaning → depths_behind text files words state unit meaning path ≡ state.depths meaning path
  meaning-left state (OperatorDefinition local x) meaning path leaves = depths-left state.depths (map (meant text) (definition x)) _ meaning path leaves
  meaning-left state (FunctionDefinition local x) meaning path leaves = depths-left state.depths (map (meant text) (definition x)) _ meaning path leaves
  meaning-left state (ModuleDefinition local x) meaning path leaves = depths-left state.depths (map (meant text) (definition x)) _ meaning path leaves
  meaning-left state (Instance local x) meaning path leaves = brought-left state (Instance local x) x meaning path leaves
  meaning-left state (ModuleBegin dashes name extends) meaning path leaves = extended-left (begun state.modules (spelled text.source name)) state.depths extends meaning path leaves
  meaning-left state (Variables names) meaning path leaves = refl
  meaning-left state (Constants declarations) meaning path leaves = refl
  meaning-left state (Assumption word name x) meaning path leaves = refl
  meaning-left state (Theorem word name x) meaning path leaves = refl
  meaning-left state (Line dashes) meaning path leaves = refl
  meaning-left state (ModuleEnd closing) meaning path leaves = refl

  module _ (flat : FlatModule) where
    rounds-deep : (state : KindState) (unit : UnitTree) (round : List Current) → KeepDepths flat state round → AllStayDeep text files words flat state unit round → KeepDepths flat (after text files words state unit) round
    rounds-deep state unit [] keep stay = tt
    rounds-deep state unit (outer ∷ round) keep stay = (λ meaning. by_case meaning (stay.0 meaning), rounds-deep state unit round keep.1 stay.1)
      where
        by_case : (meaning : Meaning) → Leaves text files words state unit meaning ⊎ HasDepths flat 0 (outer.layout.stands meaning) (depths_behind text files words state unit meaning) → HasDepths flat 0 (outer.layout.stands meaning) (depths_behind text files words state unit meaning)
        by_case meaning (inl leaves) =
            subst (λ (depths : List Named → Reached). HasDepths flat 0 (outer.layout.stands meaning) depths) (sym (fun_ext (λ path. meaning-left state unit meaning path leaves))) (keep.0 meaning)
        by_case meaning (inr deep) = deep

    -- ---- units

    pub extensions-deep : (modules : Scope Outside) (ls : List Lexeme) (es : List Extension) (stands : Meaning → Stand) (depths : Depths) → AreDeepExtensions text files words flat modules ls es → HaveDepths flat stands depths → HaveDepths flat (extended_stands text files words modules stands ls es) (extended_depths text files words modules depths ls)
    extensions-deep modules [] [] stands depths all have = have
    extensions-deep modules [] (e ∷ es) stands depths all have = absurd all
    extensions-deep modules (l ∷ ls) [] stands depths all have = absurd all
    extensions-deep modules (l ∷ ls) (e ∷ es) stands depths all have =
        let module_here = named_in text files words modules (spelled text.source l) in
        let entries = extended_entries text files words modules l in
        extensions-deep modules ls es (brought_stands stands entries e.number e.inner) (with_entry_depths depths entries module_here.depths) all.1
        (extended-deep flat e.number module_here e.inner entries stands depths all.0.replaced all.0.deep have)

    definition-deep : (state : KindState) (layout : Layout) (unit : UnitTree) (x : Tree) (next : Meaning → Stand) → HaveDepths flat layout.stands state.depths → IsDefinitionDeep text files words flat state layout unit x next → HaveDepths flat next (with_depth state.depths (map (meant text) (definition x)) (defined_depth text (known_at text files words state unit) (named text files words state) (beneath text files words state) x))
    definition-deep state layout unit x next have (stand, one, same) =
        let reached = defined_depth text (known_at text files words state unit) (named text files words state) (beneath text files words state) x in
        subst (λ n. HaveDepths flat n (with_depth state.depths (map (meant text) (definition x)) reached)) (sym same)
        (λ meaning. with-stands-deep flat stand reached one meaning (map (meant text) (definition x)) layout.stands state.depths (have meaning))

    unit-deep : (state : KindState) (layout : Layout) (unit : UnitTree) (next : Meaning → Stand) → HaveDepths flat layout.stands state.depths → IsUnitDeep text files words flat state layout unit next → HaveDepths flat next (depths_behind text files words state unit)
    unit-deep state layout (OperatorDefinition local x) next have read = definition-deep state layout (OperatorDefinition local x) x next have read
    unit-deep state layout (FunctionDefinition local x) next have read = definition-deep state layout (FunctionDefinition local x) x next have read
    unit-deep state layout (ModuleDefinition local x) next have read = definition-deep state layout (ModuleDefinition local x) x next have read
    unit-deep state layout (Instance local x) next have read = read
    unit-deep state layout (ModuleBegin dashes name extends) next have read = absurd read
    unit-deep state layout (ModuleEnd closing) next have read = absurd read
    unit-deep state layout (Variables names) next have read = subst (λ n. HaveDepths flat n state.depths) (sym read) have
    unit-deep state layout (Constants declarations) next have read = subst (λ n. HaveDepths flat n state.depths) (sym read) have
    unit-deep state layout (Assumption word name x) next have read = subst (λ n. HaveDepths flat n state.depths) (sym read) have
    unit-deep state layout (Theorem word name x) next have read = subst (λ n. HaveDepths flat n state.depths) (sym read) have
    unit-deep state layout (Line dashes) next have read = subst (λ n. HaveDepths flat n state.depths) (sym read) have

    -- ---- nested modules

    own-or : (stand there : Stand) (depths : List Named → Reached) → HasDepths flat 0 there depths → HasDepths flat 0 stand depths → HasDepths flat 0 (or_stand stand there) depths
    own-or Unsaid there depths outer own = outer
    own-or (Leaf kind) there depths outer own = own
    own-or (Place place order) there depths outer own = own
    own-or (Defined d orders) there depths outer own = own
    own-or (Through j orders inner) there depths outer own = own
    own-or (Brought j inner) there depths outer own = own

    begun-deep : (state : KindState) (here : Current) (round : List Current) (unit : UnitTree) (own : Meaning → Stand) (count : ℕ) (extensions : List Extension) → KeepDepths flat state (here ∷ round) → IsBegunDeep text files words flat state here round unit own extensions → KeepDepths flat (after text files words state unit) (here_behind text files words state here round unit (Begins own count extensions) ∷ here ∷ round)
    begun-deep state here round (ModuleBegin dashes name extends) own count extensions keep (plain, all, stay) = (
      extensions-deep (begun state.modules (spelled text.source name)) extends extensions (with_own here.layout.stands own) state.depths all (λ meaning. own-or (own meaning) (here.layout.stands meaning) (state.depths meaning) (keep.0 meaning) (plain meaning)),
      rounds-deep state (ModuleBegin dashes name extends) (here ∷ round) keep stay,
    )
    begun-deep state here round unit own count extensions keep read = absurd read

    ended-deep : (state : KindState) (outer : Current) (round : List Current) (unit : UnitTree) → KeepDepths flat state (outer ∷ round) → IsEnded text files words flat (outer ∷ round) unit → KeepDepths flat (after text files words state unit) (outer ∷ round)
    ended-deep state outer round (ModuleEnd closing) keep read = same-depths (outer ∷ round) keep
      where
        same-depths : (modules : List Current) → KeepDepths flat state modules → KeepDepths flat (after text files words state (ModuleEnd closing)) modules
        same-depths [] keep = tt
        same-depths (one ∷ rest) keep = (keep.0, same-depths rest keep.1)
    ended-deep state outer round unit keep read = absurd read

    pub unit-keeps : (state : KindState) (here : Current) (round : List Current) (unit : UnitTree) (one : Coming) → KeepDepths flat state (here ∷ round) → IsDeepRead text files words flat state here round unit one → KeepDepths flat (after text files words state unit) (here_behind text files words state here round unit one ∷ round_behind text files words here round one)
    unit-keeps state here round unit (Stands next) keep read = (unit-deep state here.layout unit next keep.0 read.0, rounds-deep state unit round keep.1 read.1)
    unit-keeps state here round unit (Begins own count extensions) keep read = begun-deep state here round unit own count extensions keep read
    unit-keeps state here (outer ∷ round) unit Ends keep read = ended-deep state outer round unit keep.1 read
    unit-keeps state here [] unit Ends keep read = absurd (none unit read)
      where
        none : (u : UnitTree) → IsDeepRead text files words flat state here [] u Ends → ⊥
        none u read = read

    all-keep : (state : KindState) (units : List UnitTree) (comings : List Coming) (here : Current) (round : List Current) (behind : Current) → KeepDepths flat state (here ∷ round) → AreDeepRead text files words flat state units comings here round behind → HaveDepths flat behind.layout.stands (read_all text files words state units).depths
    all-keep state [] [] here [] behind keep read = subst (λ (b : Current). HaveDepths flat b.layout.stands state.depths) (sym read) keep.0
    all-keep state [] [] here (outer ∷ round) behind keep read = absurd read
    all-keep state [] (one ∷ rest) here round behind keep read = absurd read
    all-keep state (unit ∷ units) [] here round behind keep read = absurd read
    all-keep state (unit ∷ units) (one ∷ rest) here round behind keep read =
        all-keep (after text files words state unit) units rest (here_behind text files words state here round unit one) (round_behind text files words here round one) behind (unit-keeps state here round unit one keep read.0) read.1

    -- what is known agrees with what stands round the expressions of a unit
    pub state-agrees : (symbols : Meaning → Stand) (layout : Layout) (state : KindState) → KeepsState flat symbols layout state → HaveDepths flat layout.stands state.depths → AgreesInDepth flat layout (beneath text files words state)
    state-agrees symbols layout state keeps have = record { context = keeps.context; depths = have }

-- ---- modules

-- what a state exports
pub state-exported : (flat : FlatModule) (stands : Meaning → Stand) (state : KindState) (view : ModuleView) (constant : Bool) → HaveDepths flat stands state.depths → IsDeepModule flat (exported_stand stands (exports_of state.read.place.here.exports)) (outside_by view constant state)
state-exported flat stands state view constant have name = by_found (entry_of (exports_of state.read.place.here.exports) name)
  where
    by_found : (found : Option Meaning) → HasDepths flat 0 (stand_in stands found) (λ path. reached_by state.depths found path)
    by_found None = tt
    by_found (Some meaning) = have meaning

pub module-begins : (flat : FlatModule) (files : List ℕ → Outside) (source : List ℕ) (units : ModuleUnits) (symbols : Meaning → Stand) (places : ℕ) (extensions : List Extension) → HaveDepths flat symbols no_depths → AreDeepExtensions (text_of source units) files (words_of units) flat (first_scope (text_of source units).file) units.extends extensions → KeepDepths flat (first files source units) (first_current files source units symbols places extensions ∷ [])
module-begins flat files source units symbols places extensions plain all =
    (extensions-deep (text_of source units) files (words_of units) flat (first_scope (text_of source units).file) units.extends extensions symbols no_depths all plain, tt)

-- a module that a flat one is built along
pub module-deep : (flat : FlatModule) (files : List ℕ → Outside) (source : List ℕ) (units : ModuleUnits) (symbols : Meaning → Stand) (places : ℕ) (extensions : List Extension) (comings : List Coming) (behind : Current) → IsDeepAlong files source units flat symbols places extensions comings behind → IsDeepModule flat (module_stands files source units behind.layout) (outside files source units)
module-deep flat files source units symbols places extensions comings behind along =
    let text = text_of source units in
    let words = words_of units in
    let begins = module-begins flat files source units symbols places extensions along.symbols_plain along.extended in
    state-exported flat behind.layout.stands (last files source units) (outside_in (views text files words) source units) (last files source units).is_constant
    (all-keep text files words flat (first files source units) units.units comings (first_current files source units symbols places extensions) [] behind begins along.read)

-- in a flat module that has more
pub keep-kept : (flat more : FlatModule) (extends : Extends flat more) (ordered : IsOrdered flat) (state : KindState) (modules : List Current) → AllByRecursion (IsCurrentWithin flat) modules → KeepDepths flat state modules → KeepDepths more state modules
keep-kept flat more extends ordered state [] within keep = tt
keep-kept flat more extends ordered state (one ∷ rest) within keep =
    (λ meaning. has-kept flat more extends ordered (one.layout.stands meaning) 0 (state.depths meaning) (within.0.stands meaning) (keep.0 meaning), keep-kept flat more extends ordered state rest within.1 keep.1)
