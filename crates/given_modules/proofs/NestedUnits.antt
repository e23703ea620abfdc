-- Nested modules that begin are given, and so are modules with nested ones.
use Rattle.std.proofs.Common.{◌≡◌, ℕ, true, false, cond, List, [], ◌∷◌, ◌++◌, ◌⊎◌, inl, inr, Option, Some, None, refl, sym, ap, subst, ◌∙◌, drop, length}
use Rattle.std.specs.List.{AllByRecursion}
use Rattle.std.proofs.Math.Seq.{drop-append_seam}
use Rattle.list_laws.proofs.Lists.{all-right, all-weaker}
use Rattle.tla_symbols.specs.declared.lexeme.Lexeme.{Lexeme}
use Rattle.unit_grammar.specs.Units.{UnitTree, Variables, Constants, OperatorDefinition, FunctionDefinition, ModuleDefinition, Instance, Assumption, Theorem, Line, ModuleBegin, ModuleEnd, ModuleUnits}
use Rattle.tla_model.specs.declared.entity.Entity.TheVariants as entity
use Rattle.tla_model.specs.declared.ids.DeclId.{DeclId}
use Rattle.tla_model.specs.declared.names.Finding.TheVariants.{Taken}
use Rattle.tla_model.specs.declared.names.Meaning.TheVariants.{Declared}
use Rattle.tla_model.specs.Contexts.{meaning_of, usable}
use Rattle.tla_model.specs.Entities.{Meaning, Text, declaring, same_meaning}
use Rattle.tla_model.specs.Lexemes.{spelled}
use Rattle.tla_model.specs.Scopes.{Finding}
use Rattle.tla_model.specs.Tables.{Named, find}
use Rattle.module_scope.specs.Environments.{Scope, begun, inside, meaning}
use Rattle.module_model.specs.Bindings.{faults}
use Rattle.module_model.specs.Exports.{Exports, ModuleView, exported, exports_by}
use Rattle.module_model.specs.Modules.{all_clashing, exports_under, is_named, nested, text_of}
use Rattle.module_model.specs.NamedModules.{module_at, module_under as view_under}
use Rattle.module_model.specs.Resolution.{words_of}
use Rattle.kind_text.specs.FlatModule.{FlatModule}
use Rattle.tree_kinds.specs.Standing.{Environment, Outside}
use Rattle.module_kinds.specs.ModuleKinds.{KindState, after, first, last, module_under, named_in, outside, read_all, views}
use Rattle.flat_kinds.specs.Declarations.{Declarations, IsSymbol as IsDeclaredSymbol, OfAllKnown}
use Rattle.flat_kinds.specs.Readings.{BringNone, extended_entries}
use Rattle.flat_kinds.specs.Symbols.{same_symbol}
use Rattle.flat_trees.specs.Instances.{symbols_of}
use Rattle.flattened_trees.specs.Leads.{FlatFace, Leads, Setting, nowhere}
use Rattle.flattened_trees.specs.Questions.{Question}
use Rattle.flattened_units.specs.Units.{AreUnitsMade, IsModuleMade, IsUnitMade, Reader, face_under, with_symbols}
use Rattle.module_meanings.specs.Faces.{IsExtendedBy, IsPlaced}
use Rattle.module_meanings.specs.Premises.{AllCome, AreUnitsGiven, IsBegunGivenBy, IsExtendedFile, IsExtendedFileBy, IsFileAt, IsModuleGiven, IsUnitGivenBy, seen_behind, symbol_leads}
use Rattle.accepted_modules.specs.Behind.{Behinds}
use Rattle.accepted_modules.specs.Faces.{FacesReadAs}
use Rattle.accepted_modules.specs.Named.{AllNamed}
use Rattle.accepted_modules.specs.Offered.{IsOffered}
use Rattle.accepted_modules.specs.States.{kinds_behind}
use Rattle.accepted_modules.proofs.Contexts.{brings-exported}
use Rattle.accepted_modules.proofs.Declaring.{faults-append, right-empty}
use Rattle.accepted_modules.proofs.Faces.{IsFoundAs, found-as}
use Rattle.accepted_modules.proofs.Holding.{added-known}
use Rattle.accepted_modules.proofs.Symbols.{IsSymbol}
use Rattle.accepted_modules.proofs.Tables.{IsThere, there-holds}
use Rattle.accepted_modules.proofs.Views.{nested-same}
use Rattle.fresh_names.specs.Seen.{IsDeclaredBy, IsElsewhere, symbols_in}
use Rattle.given_modules.specs.Nested.{AreUnitsBringing, IsModuleBringing}
use Rattle.given_modules.proofs.Ahead.{IsAt, at-next}
use Rattle.given_modules.proofs.AtUnits.{IsKnown, IsMet, keeps-at, met-first, met-next, same-no_definition}
use Rattle.given_modules.proofs.Coming.{IsComingAt}
use Rattle.given_modules.proofs.Elsewhere.{entries-mean}
use Rattle.given_modules.proofs.Exported.{IsExportedAt, exported-ahead, last-exported, outermost-ahead, outermost_frame}
use Rattle.given_modules.proofs.Given.{AreExtendedSound, IsAccepted, extended-given, unit-given}
use Rattle.given_modules.proofs.NestedExtending.{ComesFrom, entry-symbol, extends-come, extends-there, placed-both}
use Rattle.given_modules.proofs.NestedGiven.{AreApartOwn, IsApartFrom, apart-ahead, end-given, last-coming, placed-at, symbol-means, unit-none, unit-placed, usable-at}
use Rattle.given_modules.proofs.NestedSymbols.{AllHave, HasOwn, offered-named, own-behind, own-named}
use Rattle.given_modules.proofs.Usable.{IsOne, behind-ones, nested-usable}

module _ (flat : FlatModule) (means : ℕ → Option Meaning) (implied : ℕ → List Meaning) (files : List ℕ → FlatFace) (outsides : List ℕ → Outside) (source : List ℕ) (units : ModuleUnits) (declares : Declarations) (k : IsKnown flat means implied files outsides source units declares)
    (accepted : IsAccepted outsides source units) (ones : (name : List ℕ) → AllNamed (IsOne declares) (outsides name).view)
    (apart : (before behind : List UnitTree) → units.units ≡ before ++ behind → (o : Meaning) → IsElsewhere (text_of source units) (declaring before) o → (decl : DeclId) → IsDeclaredBy (text_of source units) (symbols_in behind) decl
    → same_meaning (Declared entity.Variable (record { instance = 0; decl = decl; via = [] })) o ≡ false) (behinds : Behinds) (sound : AreExtendedSound flat means implied files outsides source units declares k accepted behinds) (offered : (name : List ℕ) → AllNamed IsOffered (outsides name).view)
    (nested_come : (before behind : List UnitTree) (dashes name : Lexeme) (extends : List Lexeme) → units.units ≡ before ++ ModuleBegin dashes name extends ∷ behind
    → AllByRecursion
    (λ l.
    AllCome (after (text_of source units) outsides (words_of units) (kinds_behind outsides source units before) (ModuleBegin dashes name extends)).read.known
    (after (text_of source units) outsides (words_of units) (kinds_behind outsides source units before) (ModuleBegin dashes name extends)).read.place.here.context
    (named_in (text_of source units) outsides (words_of units) (begun (kinds_behind outsides source units before).modules (spelled source name)) (spelled source l)).view
    (extended_entries (text_of source units) outsides (words_of units) (begun (kinds_behind outsides source units before).modules (spelled source name)) l)) extends) where
  abbrev text : Text
  text = text_of source units

  abbrev words : List ℕ
  words = words_of units

  abbrev names : List ℕ → ModuleView
  names = views text outsides words

  -- what is known at a unit
  abbrev Met : List UnitTree → List UnitTree → KindState → Reader → List Meaning → Type 0
  Met before behind state reader seen = IsMet flat means implied files outsides source units k.foreign declares k.declared k.names before behind state reader seen

  module _ (before behind : List UnitTree) (dashes name : Lexeme) (extends : List Lexeme) (state : KindState) (reader : Reader) (seen : List Meaning) (mid : Reader) (asked : List Question) (is : Met before (ModuleBegin dashes name extends ∷ behind) state reader seen)
      (made : IsUnitMade flat text means implied files outsides words state reader (ModuleBegin dashes name extends) mid asked)
      (then-met : Met (before ++ ModuleBegin dashes name extends ∷ []) behind (after text outsides words state (ModuleBegin dashes name extends)) mid (seen_behind text outsides words state (ModuleBegin dashes name extends) mid seen))
      (exported-mid : IsExportedAt flat text means implied files outsides words (after text outsides words state (ModuleBegin dashes name extends)) mid) (apart-mid : AreApartOwn mid.setting.frame mid.round)
      (own : List Meaning) (framed : mid.setting.frame ≡ reader.setting.frame ++ own) where
    abbrev unit : UnitTree
    unit = ModuleBegin dashes name extends

    abbrev then : KindState
    then = after text outsides words state unit

    abbrev title : List ℕ
    title = spelled source name

    abbrev count : ℕ
    count = length reader.setting.frame

    abbrev base : Leads
    base = symbol_leads reader.round reader.setting.frame

    abbrev symbols : Leads
    symbols = with_symbols base own count

    abbrev leads : Leads
    leads = with_symbols reader.setting.leads own count

    abbrev modules : Scope Outside
    modules = begun state.modules title

    abbrev faces : Scope FlatFace
    faces = begun reader.faces title

    own-is : drop count mid.setting.frame ≡ own
    own-is = ap (drop (length reader.setting.frame)) framed ∙ drop-append_seam reader.setting.frame own

    round-is : mid.round ≡ reader.setting ∷ reader.round
    round-is = ap (λ (r : Reader). r.round) made.0.2.1

    at-then : IsAt outsides source units (before ++ unit ∷ []) behind then
    at-then = at-next outsides source units before unit behind state is.seen_so.at

    -- symbols that can be used inside have places
    inner-placed : (n : Named) (m : Meaning) → meaning_of then.read.place.here.context n ≡ Some m → IsSymbol m → IsPlaced symbols m
    inner-placed n m there symbol =
        subst (λ (os : List Meaning). IsPlaced (with_symbols base os count) m) own-is
        (subst (λ (round : List Setting). IsPlaced (symbol_leads round mid.setting.frame) m) round-is
        (placed-at flat means implied files outsides source units declares k accepted ones apart (before ++ unit ∷ []) behind then mid at-then exported-mid n m there symbol))

    -- and lead there
    inner-led : (m : Meaning) → IsPlaced symbols m → leads m [] ≡ symbols m []
    inner-led m placed = placed-both base reader.setting.leads own count m (is.leads.0 m) placed

    -- ---- own symbols are new

    new-each : (ms : List Meaning) → AllByRecursion (λ o. IsSymbol o × IsApartFrom reader.round reader.setting.frame o) ms → AllByRecursion (IsDeclaredSymbol declares) ms
        → AllByRecursion (λ symbol. (m : Meaning) → same_symbol m symbol ≡ true → (symbol_leads reader.round reader.setting.frame m [] ≡ nowhere) × ((parameters : Environment) → state.standing parameters m ≡ parameters m)) ms
    new-each [] all are = tt
    new-each (o ∷ ms) all are = (
      (λ m same.
          let one = symbol-means m o same in
          let keeps = keeps-at flat means implied files outsides source units k.foreign declares k.declared k.names before (unit ∷ behind) state is.seen_so.at in
          (all.0.1 m one.0 one.1, λ parameters. keeps.passes m (same-no_definition declares m o same are.0) parameters)),
      new-each ms all.1 are.1,
    )

    own-new : AllByRecursion (λ symbol. (m : Meaning) → same_symbol m symbol ≡ true → (symbol_leads reader.round reader.setting.frame m [] ≡ nowhere) × ((parameters : Environment) → state.standing parameters m ≡ parameters m)) own
    own-new =
        let inner : AreApartOwn mid.setting.frame (reader.setting ∷ reader.round) = subst (AreApartOwn mid.setting.frame) round-is apart-mid in
        new-each own (subst (AllByRecursion (λ o. IsSymbol o × IsApartFrom reader.round reader.setting.frame o)) own-is inner.0)
        (all-right (IsDeclaredSymbol declares) reader.setting.frame own (subst (AllByRecursion (IsDeclaredSymbol declares)) framed then-met.symbols.0))

    -- ---- what is extended

    same-at : (t : List ℕ) → exported (view_under names (meaning (inside state.read.place.here.modules title) t) t) ≡ exported (named_in text outsides words modules t).view
    same-at t =
        sym (brings-exported names (meaning (inside state.read.place.here.modules title) t) t)
        ∙ subst (λ (s : KindState). exports_under (exports_by names) (meaning (inside s.read.place.here.modules title) t) t ≡ exported (named_in text outsides words (begun s.modules title) t).view) (sym is.seen_so.at.same) (nested-same outsides source units before title t)

    faces-then : FacesReadAs faces modules
    faces-then = subst (λ (fs : Scope FlatFace). FacesReadAs fs modules) (ap (λ (r : Reader). r.faces) made.0.2.1) then-met.faces

    -- symbols of modules that can be named inside are among what these export
    own-inside : (t : List ℕ) → HasOwn (named_in text outsides words modules t)
    own-inside t = own-named outsides source units sound.parameters then.modules (subst (λ (s : KindState). AllHave HasOwn s.modules) (sym at-then.same) (own-behind outsides source units (before ++ unit ∷ []))) t

    -- all that these export is offered
    offered-inside : (t : List ℕ) → AllNamed IsOffered (named_in text outsides words modules t).view
    offered-inside t = offered-named outsides source units offered (before ++ unit ∷ []) then at-then.same t

    -- what the modules export can be used inside
    there-then : AllByRecursion (λ l. AllByRecursion (λ (entry : Named × Meaning). find then.read.place.here.context entry.0 ≡ Some (Some entry.1)) (exported (module_at names (inside state.read.place.here.modules title) (spelled source l)))) extends
    there-then =
        let here = usable-at flat means implied files outsides source units declares k accepted ones apart before (unit ∷ behind) state is.seen_so.at in
        let known = subst (λ (s : KindState). OfAllKnown (AllNamed (IsOne declares)) s.read.place.here.modules) (sym is.seen_so.at.same) (behind-ones declares outsides source units ones k.names before (unit ∷ behind) is.seen_so.at.split).0.modules in
        let taken : List Finding = cond (is_named text state.read.place.here name) (Taken name ∷ []) [] in
        let clashing : List Finding = all_clashing text (exports_by names) (nested text state.read.place.here name) extends in
        let none = unit-none flat means implied files outsides source units declares k accepted ones apart before behind unit state is.seen_so.at in
        extends-there text names (inside state.read.place.here.modules title) declares (nested text state.read.place.here name) extends refl ones
        (added-known (AllNamed (IsOne declares)) state.read.place.here.modules title None known tt) (nested-usable declares text state.read.place.here name here)
        (right-empty (faults taken) (faults clashing) (sym (faults-append taken clashing) ∙ none))

    -- symbols of one of these modules have places inside
    symbols-led : (t : List ℕ)
        → AllByRecursion (λ (entry : Named × Meaning). find then.read.place.here.context entry.0 ≡ Some (Some entry.1)) (exported (module_at names (inside state.read.place.here.modules title) t))
        → AllByRecursion (λ m. IsPlaced symbols m × (leads m [] ≡ symbols m [])) (symbols_of (named_in text outsides words modules t))
    symbols-led t there =
        let view : ModuleView = (named_in text outsides words modules t).view in
        let used = subst (AllByRecursion (λ (entry : Named × Meaning). find then.read.place.here.context entry.0 ≡ Some (Some entry.1))) (same-at t) there in
        entries-mean (λ m. IsPlaced symbols m × (leads m [] ≡ symbols m [])) view.parameters
        (all-weaker (λ (entry : Named × Meaning). IsThere (exported view) entry.0 entry.1 × IsSymbol entry.1) (λ (entry : Named × Meaning). IsPlaced symbols entry.1 × (leads entry.1 [] ≡ symbols entry.1 []))
        (λ entry both.
        let at = there-holds (λ (one : Named × Meaning). find then.read.place.here.context one.0 ≡ Some (Some one.1)) (exported view) entry.0 entry.1 used both.0 in
        let placed = inner-placed entry.0 entry.1 (ap usable at) both.1 in
        (placed, inner-led entry.1 placed)) view.parameters (own-inside t))

    -- one of these modules is extended so
    one-extended : (t : List ℕ) → AllByRecursion (λ (entry : Named × Meaning). find then.read.place.here.context entry.0 ≡ Some (Some entry.1)) (exported (module_at names (inside state.read.place.here.modules title) t))
        → IsExtendedFile flat text means implied files outsides words modules faces leads symbols t
    one-extended t there = by (meaning faces.here t) (meaning modules.here t) refl refl (found-as faces.here modules.here t faces-then.here)
      where
        seam : symbol_leads (reader.setting ∷ reader.round) (reader.setting.frame ++ own) ≡ symbols
        seam = ap (λ (os : List Meaning). with_symbols base os count) (drop-append_seam reader.setting.frame own)

        by : (o : Option (Option FlatFace)) (p : Option (Option Outside)) → meaning faces.here t ≡ o → meaning modules.here t ≡ p → IsFoundAs o p → IsExtendedFileBy flat text means implied files outsides words modules faces leads symbols t o
        by None None e f found =
            subst (λ (o : Option (Option FlatFace)). IsExtendedBy flat leads symbols (face_under files o t) (named_in text outsides words modules t)) (sym e)
            (subst (λ (p : Option (Option Outside)). IsExtendedBy flat leads symbols (files t) (module_under outsides p t)) (sym f)
            (subst (λ (s : Leads). AllByRecursion (λ m. IsPlaced s m × (leads m [] ≡ s m [])) (symbols_of (outsides t)) → IsExtendedBy flat leads s (files t) (outsides t)) seam
            ((sound.good.each t).extended leads (reader.setting ∷ reader.round) (reader.setting.frame ++ own))
            (subst (λ (p : Option (Option Outside)). AllByRecursion (λ m. IsPlaced symbols m × (leads m [] ≡ symbols m [])) (symbols_of (module_under outsides p t))) f (symbols-led t there))))
        by None (Some other) e f found = absurd found
        by (Some face) p e f found = symbols-led t there

    each-extended : (ls : List Lexeme)
        → AllByRecursion (λ l. AllByRecursion (λ (entry : Named × Meaning). find then.read.place.here.context entry.0 ≡ Some (Some entry.1)) (exported (module_at names (inside state.read.place.here.modules title) (spelled source l)))) ls
        → AllByRecursion (λ l. AllCome then.read.known then.read.place.here.context (named_in text outsides words modules (spelled source l)).view (extended_entries text outsides words modules l)) ls
        → AllByRecursion
        (λ l.
        IsExtendedFile flat text means implied files outsides words modules faces leads symbols (spelled source l)
        × AllCome then.read.known then.read.place.here.context (named_in text outsides words modules (spelled source l)).view (extended_entries text outsides words modules l)) ls
    each-extended [] there come = tt
    each-extended (l ∷ ls) there come = ((one-extended (spelled source l) there.0, come.0), each-extended ls there.1 come.1)

    -- what none of them brings is a symbol, if one exports it
    from-symbol : (ls : List Lexeme) (n : Named) (m : Meaning) → ComesFrom text names (inside state.read.place.here.modules title) ls n m → BringNone text outsides words modules ls m → IsSymbol m
    from-symbol [] n m comes none = absurd comes
    from-symbol (l ∷ ls) n m (inl there) none =
        entry-symbol (exported (named_in text outsides words modules (spelled source l)).view) n m (subst (λ (es : Exports). IsThere es n m) (same-at (spelled source l)) there) (offered-inside (spelled source l)).entries none.0
    from-symbol (l ∷ ls) n m (inr comes) none = from-symbol ls n m comes none.1

    others-given : (n : Named) (m : Meaning) → meaning_of then.read.place.here.context n ≡ Some m → BringNone text outsides words modules extends m
        → (IsSymbol m × IsPlaced leads m) ⊎ ((used : Named) × (meaning_of state.read.place.here.context used ≡ Some m))
    others-given n m at none = by (extends-come text names (inside state.read.place.here.modules title) (nested text state.read.place.here name) extends n m refl at)
      where
        by : (meaning_of state.read.place.here.context n ≡ Some m) ⊎ ComesFrom text names (inside state.read.place.here.modules title) extends n m → (IsSymbol m × IsPlaced leads m) ⊎ ((used : Named) × (meaning_of state.read.place.here.context used ≡ Some m))
        by (inl before_it) = inr (n, before_it)
        by (inr comes) =
            let symbol = from-symbol extends n m comes none in
            let placed = inner-placed n m at symbol in
            inl (symbol, (placed.0, inner-led m placed ∙ placed.1))

    pub begun-given : IsBegunGivenBy flat text means implied files outsides words (IsExtendedFile flat text means implied files outsides words) state reader own dashes name extends
    begun-given = record {
      new = own-new;
      extended = record {
        each =
            each-extended extends there-then
            (subst
            (λ (s : KindState).
            AllByRecursion
            (λ l.
            AllCome (after text outsides words s unit).read.known (after text outsides words s unit).read.place.here.context (named_in text outsides words (begun s.modules title) (spelled source l)).view
            (extended_entries text outsides words (begun s.modules title) l)) extends) (sym is.seen_so.at.same) (nested_come before behind dashes name extends is.seen_so.at.split));
        others = others-given;
      };
      same = λ t.
          subst (λ (s : KindState). exports_under (exports_by names) (meaning (inside s.read.place.here.modules title) t) t ≡ exported (named_in text outsides words (begun s.modules title) t).view) (sym is.seen_so.at.same)
          (nested-same outsides source units before title t);
    }

  -- ---- units

  any-given : (before behind : List UnitTree) (unit : UnitTree) (state : KindState) (reader : Reader) (seen : List Meaning) (mid : Reader) (asked : List Question) → Met before (unit ∷ behind) state reader seen → IsUnitMade flat text means implied files outsides words state reader unit mid asked
      → Met (before ++ unit ∷ []) behind (after text outsides words state unit) mid (seen_behind text outsides words state unit mid seen) → IsExportedAt flat text means implied files outsides words (after text outsides words state unit) mid → AreApartOwn mid.setting.frame mid.round
      → IsUnitGivenBy flat text means implied files outsides words (IsFileAt flat text means implied files outsides words) state reader seen unit mid
  any-given before behind (ModuleBegin dashes name extends) state reader seen mid asked is made then-met exported-mid apart-mid = λ own framed. begun-given before behind dashes name extends state reader seen mid asked is made then-met exported-mid apart-mid own framed
  any-given before behind (ModuleEnd closing) state reader seen mid asked is made then-met exported-mid apart-mid = tt
  any-given before behind (OperatorDefinition local x) state reader seen mid asked is made then-met exported-mid apart-mid = unit-given flat means implied files outsides source units declares k accepted before behind (OperatorDefinition local x) state reader seen mid is tt tt
  any-given before behind (FunctionDefinition local x) state reader seen mid asked is made then-met exported-mid apart-mid = unit-given flat means implied files outsides source units declares k accepted before behind (FunctionDefinition local x) state reader seen mid is tt tt
  any-given before behind (ModuleDefinition local x) state reader seen mid asked is made then-met exported-mid apart-mid = unit-given flat means implied files outsides source units declares k accepted before behind (ModuleDefinition local x) state reader seen mid is tt tt
  any-given before behind (Instance local x) state reader seen mid asked is made then-met exported-mid apart-mid = unit-given flat means implied files outsides source units declares k accepted before behind (Instance local x) state reader seen mid is tt tt
  any-given before behind (Variables vs) state reader seen mid asked is made then-met exported-mid apart-mid =
      unit-placed flat means implied files outsides source units declares k accepted ones apart before behind (Variables vs) state reader mid asked is.seen_so.at is.leads.0 exported-mid made
  any-given before behind (Constants declarations) state reader seen mid asked is made then-met exported-mid apart-mid =
      unit-placed flat means implied files outsides source units declares k accepted ones apart before behind (Constants declarations) state reader mid asked is.seen_so.at is.leads.0 exported-mid made
  any-given before behind (Assumption word name x) state reader seen mid asked is made then-met exported-mid apart-mid = tt
  any-given before behind (Theorem word name x) state reader seen mid asked is made then-met exported-mid apart-mid = tt
  any-given before behind (Line dashes) state reader seen mid asked is made then-met exported-mid apart-mid = tt

  units-given : (before behind : List UnitTree) (state : KindState) (reader : Reader) (seen : List Meaning) (next : Reader) (asked : List Question) (made : AreUnitsMade flat text means implied files outsides words state reader behind next asked) → next.round ≡ []
      → IsExportedAt flat text means implied files outsides words (read_all text outsides words state behind) next → IsComingAt text flat means implied files outsides words declares [] (read_all text outsides words state behind) next
      → AreUnitsBringing flat text means implied files outsides words state reader seen behind next asked made → Met before behind state reader seen → AreUnitsGiven flat text means implied files outsides words state reader seen behind next asked made
  units-given before [] state reader seen next asked made none exported-end coming-end bringing is = tt
  units-given before (unit ∷ behind) state reader seen next asked made none exported-end coming-end bringing is =
      let at = is.seen_so.at in
      let at-then = at-next outsides source units before unit behind state at in
      let then-met = met-next flat means implied files outsides source units k.foreign declares k.declared k.names before behind unit state reader seen made.0 next made.1 made.2 is made.3 made.4 none in
      let exported-mid = exported-ahead flat text means implied files outsides words behind (after text outsides words state unit) made.0 next made.2 made.4 exported-end in
      let apart-here = apart-ahead flat means implied files outsides source units declares k accepted ones apart before (unit ∷ behind) state reader next asked at made coming-end none in
      let apart-mid = apart-ahead flat means implied files outsides source units declares k accepted ones apart (before ++ unit ∷ []) behind (after text outsides words state unit) made.0 next made.2 at-then made.4 coming-end none in (
        (bringing.0, end-given flat means implied files outsides source units declares k accepted ones apart before behind unit state reader made.0 made.1 at apart-here made.3),
        any-given before behind unit state reader seen made.0 made.1 is made.3 then-met exported-mid apart-mid,
        units-given (before ++ unit ∷ []) behind (after text outsides words state unit) made.0 (seen_behind text outsides words state unit made.0 seen) next made.2 made.4 none exported-end coming-end bringing.1 then-met,
      )

  -- a module with nested ones is given
  pub nested-given : (symbols : List Meaning) → symbols ≡ symbols_of (outside outsides source units) → (final : Reader) (asked : List Question) (made : IsModuleMade flat means implied files outsides source units symbols final asked) → final.round ≡ [] → (last outsides source units).read.place.round ≡ []
      → IsModuleBringing flat means implied files outsides source units symbols final asked made → IsModuleGiven flat means implied files outsides source units symbols final asked made
  nested-given symbols same final asked made none place bringing =
      let frame : final.setting.frame ≡ symbols_of (outside outsides source units) =
      subst (λ (round : List Setting). outermost_frame final.setting.frame round ≡ symbols) none (outermost-ahead flat text means implied files outsides words units.units (first outsides source units) _ final asked made.2) ∙ same in
      record {
        extended = extended-given flat means implied files outsides source units declares k accepted behinds sound symbols same;
        given = units-given [] units.units (first outsides source units) _ _ final asked made.2 none (last-exported outsides source units final place none frame)
            (last-coming flat means implied files outsides source units declares k accepted ones apart final place none frame) bringing
            (met-first flat means implied files outsides source units k.foreign declares k.declared k.names symbols made.0 same made.1);
        ends = none;
      }
