-- A module brings its names for what their declarations yield, if files do.
use Rattle.std.proofs.Common.{◌≡◌, ℕ, Bool, true, false, cond, List, [], ◌∷◌, ◌++◌, ◌⊎◌, inl, inr, Option, Some, None, is_some, refl, sym, ap, subst, ◌∙◌, map}
use Rattle.std.specs.Prelude.{◌||◌}
use Rattle.std.specs.List.{AllByRecursion}
use Rattle.std.specs.Str.{bytes_eq}
use Rattle.std.proofs.lemmas.Bool.{false≢true, or_left}
use Rattle.std.proofs.lemmas.List.{append-nil}
use Rattle.list_laws.proofs.Lists.{all-left, all-right, all-weaker}
use Rattle.list_laws.proofs.Texts.{text-itself}
use Rattle.tla_symbols.specs.declared.lexeme.Lexeme.{Lexeme}
use Rattle.tla_tree.specs.declared.form.Form.TheVariants as Form
use Rattle.tla_tree.specs.Syntax.{Tree, Node, Nil, Cons}
use Rattle.unit_grammar.specs.Units.{UnitTree, Variables, Constants, OperatorDefinition, FunctionDefinition, ModuleDefinition, Instance, Assumption, Theorem, Line, ModuleBegin, ModuleEnd, ModuleUnits}
use Rattle.tla_model.specs.declared.ids.UnitId.{UnitId}
use Rattle.tla_model.specs.declared.names.Binder.{Binder}
use Rattle.tla_model.specs.declared.names.Meaning.TheVariants.{BuiltIn, Declared}
use Rattle.tla_model.specs.Contexts.{built_in, meaning_of}
use Rattle.tla_model.specs.Entities.{Entity, Meaning, Text, all_placed, declaring, meant, name_of, variables}
use Rattle.tla_model.specs.EntityKinds.{is_meant, stands_behind}
use Rattle.tla_model.specs.Lexemes.{spelled}
use Rattle.tla_model.specs.Scopes.{definition}
use Rattle.tla_model.specs.Tables.{Named}
use Rattle.module_scope.specs.Environments.{Environment as ModuleEnvironment, Scope, begun, first as first_scope, inside, meaning as module_meaning, outermost}
use Rattle.module_model.specs.Exports.{Exports, ModuleView, entry_of, exported, exports_by, exports_of, instantiable}
use Rattle.module_model.specs.Instances.{brought_entries, through, unit_trees}
use Rattle.module_model.specs.Modules.{Reading, constants, declare_all, exports_under, joined, left, nested, text_of, unread}
use Rattle.module_model.specs.NamedModules.{module_under as view_under, unit_of, view_of}
use Rattle.module_model.specs.Resolution.{instance_brings, module_named, words_of}
use Rattle.kind_text.specs.FlatModule.{FlatModule}
use Rattle.tree_kinds.specs.Expanding.{unguarded}
use Rattle.tree_kinds.specs.Standing.{Environment, Outside, name_among, same_standing, value_in}
use Rattle.tree_kinds.proofs.Standings.{standing-equal, standing-itself, standing-means}
use Rattle.module_kinds.specs.ModuleKinds.{KindState, after, around, first, known_at, last, module_under, named, named_in, nested_outside, read_all, standing_behind, views}
use Rattle.flat_kinds.specs.Declarations.{AreNamesDeclared, AreUnitsDeclared, Declarations, IsDeclared, OfAllKnown, OfKnown, declared_names}
use Rattle.flat_kinds.specs.Readings.{is_among}
use Rattle.flat_kinds.specs.Yields.{HasExported, HasYielded, IsYielding, Yields, yielded}
use Rattle.flattened_trees.specs.Agreeing.{IsFresh, is_seen}
use Rattle.flattened_trees.specs.Leads.{FlatFace}
use Rattle.flattened_units.specs.Units.{meanings_of}
use Rattle.module_meanings.specs.Premises.{extended_meanings}
use Rattle.module_meanings.proofs.Staying.{definition-stays}
use Rattle.accepted_modules.specs.Behind.{IsForeignView}
use Rattle.accepted_modules.specs.Named.{AllNamed}
use Rattle.accepted_modules.specs.Offered.{IsOffered}
use Rattle.accepted_modules.specs.States.{kinds_behind}
use Rattle.accepted_modules.proofs.Contexts.{brings-exported, built-in-is}
use Rattle.accepted_modules.proofs.Holding.{AreOwn, HoldsPlace, OfEntry, Own, added-known}
use Rattle.accepted_modules.proofs.Symbols.{IsSymbol}
use Rattle.accepted_modules.proofs.Tables.{IsThere, table-once, there-first, there-holds, there-passed}
use Rattle.accepted_modules.proofs.Views.{AreTogether, behind-together, nested-same, state-view}
use Rattle.fresh_names.specs.Seen.{IsElsewhere, symbols_in}
use Rattle.fresh_names.proofs.Kept.{before-within, left as left-within, wider}
use Rattle.given_depths.specs.Own.{IsOfOthers, if_replaced}
use Rattle.given_modules.specs.Others.{BringsOthers, came_through, is_of}
use Rattle.given_modules.specs.Yielding.{with_own_yields}
use Rattle.given_modules.proofs.Again.{AreNamedSo, Brings, BringsSo, IsForeignDefinition, IsNamedSo, IsOwnOr, IsYielded, StandsSeen, extended-seen, extended-stays, instance-seen, instance-stays, named-so, own-never, stands-after}
use Rattle.given_modules.proofs.Ahead.{IsAt, append-one, at-first, at-next}
use Rattle.given_modules.proofs.Coming.{IsOneOf, declared-come}
use Rattle.given_modules.proofs.Elsewhere.{ComesElsewhere, elsewhere-holds}
use Rattle.given_modules.proofs.Exported.{there-passes}
use Rattle.given_modules.proofs.Fresh.{AreNewThere}
use Rattle.given_modules.proofs.NestedExtending.{ComesFrom, extends-come, joined-come}
use Rattle.given_modules.proofs.NestedSymbols.{AllHave, all-named, have-after, offered-named}
use Rattle.given_modules.proofs.Others.{IsOfThis, brought-others, others-not, through-all}
use Rattle.given_modules.proofs.OwnNames.{AreOwnAt, IsOwnOfNone, among-symbols, none-behind, none-next, none-symbol, own-next}
use Rattle.given_modules.proofs.Placed.{constants-are, symbol-plain, variables-are}
use Rattle.given_modules.proofs.Standing.{BringOne, StandsAlike, alike-after, among-there, extended-new, function-alike, instance-alike, module-alike, operator-alike}
use Rattle.given_modules.proofs.Steady.{InstancesGive}
use Rattle.given_modules.proofs.Usable.{IsOne, IsUsable, behind-ones, behind-usable, exported-usable}

-- what is so of what entries mean is so of each
mean-there : (P : Meaning → Type 0) (entries : Exports) (name : Named) (m : Meaning) → AllByRecursion P (meanings_of entries) → IsThere entries name m → P m
mean-there P [] name m all there = absurd there
mean-there P (entry ∷ rest) name m all (inl same) = subst P same.1 all.0
mean-there P (entry ∷ rest) name m all (inr there) = mean-there P rest name m all.1 there

-- what is so of each module that can be named is so of it by what follows
known-weaker : {P Q : Outside → Type 0} → ((one : Outside) → P one → Q one) → (modules : ModuleEnvironment Outside) → OfAllKnown P modules → OfAllKnown Q modules
known-weaker weaker [] all = tt
known-weaker {P} {Q} weaker (m ∷ modules) all = (by m.1 all.0, known-weaker weaker modules all.1)
  where
    by : (known : Option Outside) → OfKnown P known → OfKnown Q known
    by None one = tt
    by (Some one) is = weaker one is

rounds-weaker : {P Q : Outside → Type 0} → ((one : Outside) → P one → Q one) → (rounds : List (List ℕ × ModuleEnvironment Outside)) → AllByRecursion (λ (nested : List ℕ × ModuleEnvironment Outside). OfAllKnown P nested.1) rounds → AllByRecursion (λ (nested : List ℕ × ModuleEnvironment Outside). OfAllKnown Q nested.1) rounds
rounds-weaker weaker [] all = tt
rounds-weaker weaker (nested ∷ rounds) all = (known-weaker weaker nested.1 all.0, rounds-weaker weaker rounds all.1)

module _ (yields : Yields) (declares : Declarations) (flat : FlatModule) (means : ℕ → Option Meaning) (implied : ℕ → List Meaning) (files : List ℕ → FlatFace) (outsides : List ℕ → Outside) (source : List ℕ) (units : ModuleUnits)
    (foreign : (name : List ℕ) → IsForeignView (text_of source units).file (outsides name).view) (others : (name : List ℕ) → BringsOthers (text_of source units).file (outsides name)) (declared : (name : List ℕ) → AllNamed (IsDeclared declares) (outsides name).view) (offered : (name : List ℕ) → AllNamed IsOffered (outsides name).view) (yielding : (name : List ℕ) → IsYielding yields (outsides name))
    (ones : (name : List ℕ) → AllNamed (IsOne declares) (outsides name).view) (own_names : AreUnitsDeclared declares (text_of source units) units.units) (new : AreNewThere source units)
    (own : AreOwnAt declares (text_of source units) outsides (words_of units) units.units (first outsides source units)) (gives : InstancesGive outsides source units) where
  abbrev text : Text
  text = text_of source units

  abbrev words : List ℕ
  words = words_of units

  abbrev names : List ℕ → ModuleView
  names = views text outsides words

  -- what is known of own names at a state
  abbrev OwnHere : List UnitTree → KindState → Type 0
  OwnHere behind state = AreOwnAt declares text outsides words behind state

  -- a definition of another module
  abbrev IsOther : Meaning → Type 0
  IsOther m = IsForeignDefinition yields declares flat means implied files outsides source units others declared offered yielding m

  -- a name stands so
  abbrev SeenSo : List UnitTree → KindState → Meaning → Type 0
  SeenSo behind state m = StandsSeen yields declares flat means implied files outsides source units others declared offered yielding behind state m

  -- and so does what stands as it does, if it is a definition
  abbrev Stands : List UnitTree → KindState → Meaning → Type 0
  Stands behind state m = SeenSo behind state m × ((is_meant stands_behind m ≡ false) ⊎ StandsAlike state m)

  -- so do all that can be used in a module
  abbrev UsedStand : List UnitTree → KindState → Reading → Type 0
  UsedStand behind state reading = (n : Named) (m : Meaning) → meaning_of reading.context n ≡ Some m → Stands behind state m

  -- and in those round it
  abbrev AllStand : List UnitTree → KindState → Type 0
  AllStand behind state = UsedStand behind state state.read.place.here × AllByRecursion (UsedStand behind state) state.read.place.round

  -- a nested module brings what stands there
  abbrev BringsThere : List UnitTree → List UnitTree → KindState → Outside → Type 0
  BringsThere before behind state one = Brings yields declares flat means implied files outsides source units others declared offered yielding before behind state one

  -- so do all that can be named
  abbrev AllBring : List UnitTree → List UnitTree → KindState → Type 0
  AllBring before behind state = AllHave (BringsThere before behind state) state.modules

  -- what is known of modules that are named
  abbrev AllNamedSo : List UnitTree → KindState → Scope Outside → List Lexeme → Type 0
  AllNamedSo behind state modules ls = AreNamedSo yields declares flat means implied files outsides source units others declared offered yielding behind state modules ls

  -- what is known of modules that a unit brings names of
  abbrev Bringing : List UnitTree → KindState → UnitTree → Type 0
  Bringing behind state unit = BringsSo yields declares flat means implied files outsides source units others declared offered yielding behind state unit

  -- ---- modules that are extended

  passes-declared : (unit : UnitId) (name : Named) (m : Meaning) → IsDeclared declares name m → IsDeclared declares name (through unit m)
  passes-declared unit name BuiltIn is = is
  passes-declared unit name (Declared e callee) is = is

  declared-own : (before behind : List UnitTree) → units.units ≡ before ++ behind → AreOwn (IsDeclared declares) text before
  declared-own before behind split =
      all-weaker (λ (unit : UnitTree). AreNamesDeclared declares text (declared_names unit)) (λ (unit : UnitTree). AllByRecursion (Own (IsDeclared declares) text) (declared_names unit))
      (λ unit all. all-weaker (λ (b : Binder). IsDeclared declares (name_of text.source b.name) (meant text b)) (Own (IsDeclared declares) text) (λ b one none. one) (declared_names unit) all) before
      (all-left (λ (unit : UnitTree). AreNamesDeclared declares text (declared_names unit)) before behind (subst (AreUnitsDeclared declares text) split own_names))

  -- a module that can be named at a state, where it can be named there too that all its names are as asked
  one-so : (before behind : List UnitTree) (then : KindState) (after_before after_behind : List UnitTree) (state : KindState) (modules : Scope Outside) → IsAt outsides source units after_before after_behind then → then.modules ≡ modules → OwnHere behind state
      → OfAllKnown (BringsThere before behind state) modules.here → (l : Lexeme) → IsNamedSo yields declares flat means implied files outsides source units others declared offered yielding behind state (named_in text outsides words modules (spelled source l))
  one-so before behind then after_before after_behind state modules at same here all l =
      named-so yields declares flat means implied files outsides source units others declared offered yielding before behind state modules (spelled source l) here all
      (subst (λ (scope : Scope Outside). AllNamed (IsDeclared declares) (named_in text outsides words scope (spelled source l)).view) same
      (all-named outsides source units (IsDeclared declares) passes-declared declared after_before (declared-own after_before after_behind at.split) then at.same (spelled source l)))
      (subst (λ (scope : Scope Outside). AllNamed IsOffered (named_in text outsides words scope (spelled source l)).view) same (offered-named outsides source units offered after_before then at.same (spelled source l)))

  -- an INSTANCE without a name
  instance-so : (before behind : List UnitTree) (local : Option Lexeme) (x : Tree) (state : KindState) → IsAt outsides source units before (Instance local x ∷ behind) state → OwnHere (Instance local x ∷ behind) state → AllBring before (Instance local x ∷ behind) state
      → Bringing behind state (Instance local x)
  instance-so before behind local (Node (Form.Instance l) s parts) state at here all = by other.view.parameters refl
    where
      x : Tree
      x = Node (Form.Instance l) s parts

      other : Outside
      other = named text outsides words state (spelled source l)

      view : ModuleView
      view = view_of text (module_named text names words state.read) l

      same : other.view ≡ view
      same = state-view text outsides words state (subst AreTogether (sym at.same) (behind-together outsides source units before)) (spelled source l)

      unit : UnitId
      unit = unit_of text words l

      by : (parameters : Exports) → other.view.parameters ≡ parameters → Bringing behind state (Instance local (Node (Form.Instance l) s parts))
      by [] none =
          inr
          (record {
            other = other;
            so = one-so before (Instance local x ∷ behind) state before (Instance local x ∷ behind) state state.modules at refl here all.0 l;
            entries = ap (λ (v : ModuleView). brought_entries unit v.parameters (instantiable (exported v))) (sym same) ∙ ap (λ (ps : Exports). brought_entries unit ps (instantiable (exported other.view))) none;
            gives = λ parameters i path.
                subst
                (λ (k : KindState).
                (named text outsides words k (spelled source l)).view.parameters ≡ []
                → unguarded text (known_at text outsides words k (Instance local x)) (named text outsides words k) (around text outsides words k parameters) x path ≡ (named text outsides words k (spelled source l)).standing parameters path) (sym at.same)
                (λ parameterless. gives before behind local l s parts at.split parameterless parameters path) none i;
          })
      by (p ∷ ps) some =
          let replaced : view.parameters ≡ p ∷ ps = ap (λ (v : ModuleView). v.parameters) (sym same) ∙ some in
          inl
          (record {
            whole = ap (λ (qs : Exports). if_replaced qs (instance_brings text names words state.read x)) replaced;
            own =
                subst (λ (qs : Exports). AllByRecursion (λ (entry : Named × Meaning). IsOfThis text.file entry.1) (brought_entries unit qs (instantiable (exported view)))) (sym replaced)
                (through-all text.file unit (instantiable (exported view)) (text-itself text.file text.file refl));
          })
  instance-so before behind local (Node form s parts) state at here all = inl (record { whole = refl; own = tt })

  -- what a unit brings
  extends-so : (before behind : List UnitTree) (unit : UnitTree) (state : KindState) → IsAt outsides source units before (unit ∷ behind) state → OwnHere (unit ∷ behind) state → AllBring before (unit ∷ behind) state → Bringing behind state unit
  extends-so before behind (ModuleBegin dashes name extends) state at here all =
      each extends
    where
      unit : UnitTree
      unit = ModuleBegin dashes name extends

      each : (ls : List Lexeme) → AllNamedSo (ModuleBegin dashes name extends ∷ behind) state (begun state.modules (spelled source name)) ls
      each [] = tt
      each (l ∷ ls) = (
        one-so before (unit ∷ behind) (after text outsides words state unit) (before ++ unit ∷ []) behind state (begun state.modules (spelled source name)) (at-next outsides source units before unit behind state at) refl here
            (added-known (BringsThere before (unit ∷ behind) state) state.modules.here (spelled source name) None all.0 tt) l,
        each ls,
      )
  extends-so before behind (Instance local x) state at here all = instance-so before behind local x state at here all
  extends-so before behind (Variables vs) state at here all = tt
  extends-so before behind (Constants declarations) state at here all = tt
  extends-so before behind (OperatorDefinition local x) state at here all = tt
  extends-so before behind (FunctionDefinition local x) state at here all = tt
  extends-so before behind (ModuleDefinition local x) state at here all = tt
  extends-so before behind (Assumption word name x) state at here all = tt
  extends-so before behind (Theorem word name x) state at here all = tt
  extends-so before behind (Line dashes) state at here all = tt
  extends-so before behind (ModuleEnd closing) state at here all = tt

  -- what the module extends
  pub first-so : AllNamedSo units.units (first outsides source units) (first_scope text.file) units.extends
  first-so = each units.extends
    where
      each : (ls : List Lexeme) → AllNamedSo units.units (first outsides source units) (first_scope text.file) ls
      each [] = tt
      each (l ∷ ls) = (one-so [] units.units (first outsides source units) [] units.units (first outsides source units) (first_scope text.file) (at-first outsides source units) refl own (tt, tt) l, each ls)

  -- ---- nested modules that can be named

  new-named : (before behind : List UnitTree) (unit : UnitTree) (x : Tree) (e : Meaning) → units.units ≡ before ++ unit ∷ behind → unit_trees unit ≡ Cons x Nil → IsElsewhere text (declaring before) e → IsFresh text (e ∷ []) x
  new-named before behind unit x e split tree comes =
      new before behind unit x (e ∷ []) split tree (wider text (declaring before) (declaring before ++ symbols_in (unit ∷ behind)) (left-within text (declaring before) (symbols_in (unit ∷ behind))) e comes, tt)

  one-seen : (m e : Meaning) → same_standing m e ≡ true → is_seen (e ∷ []) m ≡ true
  one-seen m e same = ap (λ b. cond b true false) (standing-means m e same)

  -- what a nested module brings stands as before
  stays : (before behind : List UnitTree) (unit : UnitTree) (state : KindState) → IsAt outsides source units before (unit ∷ behind) state → Bringing behind state unit → (e m : Meaning) → IsElsewhere text (declaring before) e → IsOwnOfNone declares text outsides words (unit ∷ behind) state e → (IsOther m → HasYielded yields state m)
      → same_standing m e ≡ true → (parameters : Environment) → standing_behind text outsides words state unit parameters m ≡ state.standing parameters m
  stays before behind (OperatorDefinition local x) state at so e m comes none has same parameters =
      definition-stays text outsides words state (OperatorDefinition local x) x (e ∷ []) (new-named before behind (OperatorDefinition local x) x e at.split refl comes) (λ k out. out) m (inl (one-seen m e same)) parameters
  stays before behind (FunctionDefinition local x) state at so e m comes none has same parameters =
      definition-stays text outsides words state (FunctionDefinition local x) x (e ∷ []) (new-named before behind (FunctionDefinition local x) x e at.split refl comes) (λ k out. out) m (inl (one-seen m e same)) parameters
  stays before behind (ModuleDefinition local x) state at so e m comes none has same parameters =
      definition-stays text outsides words state (ModuleDefinition local x) x (e ∷ []) (new-named before behind (ModuleDefinition local x) x e at.split refl comes) (λ k out. out) m (inl (one-seen m e same)) parameters
  stays before behind (Instance local x) state at so e m comes none has same parameters = instance-stays yields declares flat means implied files outsides source units others declared offered yielding behind state local x so m (none m (standing-means m e same)) has parameters
  stays before behind (ModuleBegin dashes name extends) state at so e m comes none has same parameters =
      extended-stays yields declares flat means implied files outsides source units others declared offered yielding (ModuleBegin dashes name extends ∷ behind) state (begun state.modules (spelled source name)) parameters (state.standing parameters) extends m so has refl
  stays before behind (Variables vs) state at so e m comes none has same parameters = refl
  stays before behind (Constants declarations) state at so e m comes none has same parameters = refl
  stays before behind (Assumption word name x) state at so e m comes none has same parameters = refl
  stays before behind (Theorem word name x) state at so e m comes none has same parameters = refl
  stays before behind (Line dashes) state at so e m comes none has same parameters = refl
  stays before behind (ModuleEnd closing) state at so e m comes none has same parameters = refl

  brings-still : (before behind : List UnitTree) (unit : UnitTree) (state : KindState) → IsAt outsides source units before (unit ∷ behind) state → Bringing behind state unit → (one : Outside) → BringsThere before (unit ∷ behind) state one → BringsThere (before ++ unit ∷ []) behind (after text outsides words state unit) one
  brings-still before behind unit state at so one is name e there =
      let b = is name e there in record {
        comes = wider text (declaring before) (declaring (before ++ unit ∷ [])) (before-within text before (unit ∷ [])) e b.comes;
        none = none-next declares text outsides words unit behind state e b.none;
        same = λ m same parameters arguments path. b.same m same parameters arguments path ∙ sym (λ i. stays before behind unit state at so e m b.comes b.none (b.has m same) same parameters i arguments path);
        has = λ m same other parameters. stays before behind unit state at so e m b.comes b.none (b.has m same) same parameters ∙ b.has m same other parameters;
      }

  -- so does one that ends
  ends-bring : (before behind : List UnitTree) (closing : Lexeme) (state : KindState) → IsAt outsides source units before (ModuleEnd closing ∷ behind) state → UsedStand (ModuleEnd closing ∷ behind) state state.read.place.here → (round : List Reading)
      → BringsThere (before ++ ModuleEnd closing ∷ []) behind (after text outsides words state (ModuleEnd closing)) (nested_outside state round)
  ends-bring before behind closing state at used [] name e there = absurd there
  ends-bring before behind closing state at used (outer ∷ round) name e there =
      let entries : Exports = exports_of state.read.place.here.exports in
      let passed = there-passed (λ (entry : Named × Meaning). is_meant stands_behind entry.1) entries name e there in
      let holds = subst (λ (s : KindState). HoldsPlace (IsOne declares) s.read.place) (sym at.same) (behind-ones declares outsides source units ones own_names before (ModuleEnd closing ∷ behind) at.split) in
      let usable_here = subst (λ (s : KindState). IsUsable declares s.read.place.here) (sym at.same) (behind-usable declares outsides source units ones own_names before (ModuleEnd closing ∷ behind) at.split).0 in
      let elsewhere = subst (λ (s : KindState). AllByRecursion (OfEntry (ComesElsewhere text (declaring before))) (exports_of s.read.place.here.exports)) (sym at.same) (elsewhere-holds outsides source units foreign before).0.exports in
      let found : entry_of entries name ≡ Some e = there-first entries name e (table-once state.read.place.here.exports holds.0.once) passed.0 in
      let stands = used name e (exported-usable declares outsides source units ones own_names state.read.place.here usable_here name e found) in
      record {
        comes = wider text (declaring before) (declaring (before ++ ModuleEnd closing ∷ [])) (before-within text before (ModuleEnd closing ∷ [])) e (there-holds (OfEntry (ComesElsewhere text (declaring before))) entries name e elsewhere passed.0);
        none = none-next declares text outsides words (ModuleEnd closing) behind state e stands.0.0;
        same = λ m same parameters arguments path. (λ i. value_in (state.standing parameters) (found i) arguments path) ∙ sym (λ i. alike passed.1 stands.1 m same parameters i arguments path);
        has = λ m same other. by m same other stands.0.1;
      }
    where
      alike : is_meant stands_behind e ≡ true → (is_meant stands_behind e ≡ false) ⊎ StandsAlike state e → StandsAlike state e
      alike behind_it (inl plain) = absurd (false≢true (sym plain ∙ behind_it))
      alike behind_it (inr is) = is

      by : (m : Meaning) → same_standing m e ≡ true → IsOther m → IsOwnOr yields declares flat means implied files outsides source units others declared offered yielding e ⊎ IsYielded yields declares flat means implied files outsides source units others declared offered yielding state e → HasYielded yields state m
      by m same other (inl is_own) = absurd (own-never yields declares flat means implied files outsides source units others declared offered yielding m e other is_own (standing-means m e same))
      by m same other (inr is) = is.1 m same

  bring-after : (before behind : List UnitTree) (unit : UnitTree) (state : KindState) → IsAt outsides source units before (unit ∷ behind) state → Bringing behind state unit → UsedStand (unit ∷ behind) state state.read.place.here → AllBring before (unit ∷ behind) state
      → AllBring (before ++ unit ∷ []) behind (after text outsides words state unit)
  bring-after before behind unit state at so used all =
      have-after (BringsThere (before ++ unit ∷ []) behind (after text outsides words state unit)) text outsides words state unit ends (
        known-weaker (brings-still before behind unit state at so) state.modules.here all.0,
        rounds-weaker (brings-still before behind unit state at so) state.modules.round all.1,
      )
    where
      ends : (closing : Lexeme) → unit ≡ ModuleEnd closing → BringsThere (before ++ unit ∷ []) behind (after text outsides words state unit) (nested_outside state state.read.place.round)
      ends closing e =
          subst (λ (u : UnitTree). BringsThere (before ++ u ∷ []) behind (after text outsides words state u) (nested_outside state state.read.place.round)) (sym e)
          (ends-bring before behind closing state (subst (λ (u : UnitTree). IsAt outsides source units before (u ∷ behind) state) e at) (subst (λ (u : UnitTree). UsedStand (u ∷ behind) state state.read.place.here) e used) state.read.place.round)

  -- ---- names that can be used

  own-name : (binders : List Binder) (m : Meaning) → IsOneOf text binders m → IsOwnOr yields declares flat means implied files outsides source units others declared offered yielding m
  own-name [] m one = absurd one
  own-name (b ∷ bs) m (inl is) = subst (IsOwnOr yields declares flat means implied files outsides source units others declared offered yielding) is (inl (or_left (bytes_eq text.file text.file) (came_through text.file []) (text-itself text.file text.file refl)))
  own-name (b ∷ bs) m (inr one) = own-name bs m one

  own-among : (binders : List Binder) (m : Meaning) → IsOneOf text binders m → is_among (map (meant text) binders) m ≡ true
  own-among [] m one = absurd one
  own-among (b ∷ bs) m (inl is) = ap (λ t. t || is_among (map (meant text) bs) m) (standing-equal m (meant text b) (sym is))
  own-among (b ∷ bs) m (inr one) = by (same_standing m (meant text b)) (own-among bs m one)
    where
      by : (t : Bool) → is_among (map (meant text) bs) m ≡ true → (t || is_among (map (meant text) bs) m) ≡ true
      by true later = refl
      by false later = later

  own-plain : (binders : List Binder) (m : Meaning) → AllByRecursion (λ (b : Binder). IsSymbol (meant text b)) binders → IsOneOf text binders m → is_meant stands_behind m ≡ false
  own-plain [] m all one = absurd one
  own-plain (b ∷ bs) m all (inl is) = ap (is_meant stands_behind) (sym is) ∙ symbol-plain (meant text b) all.0
  own-plain (b ∷ bs) m all (inr one) = own-plain bs m all.1 one

  -- names that come from modules that are extended
  from-seen : (behind : List UnitTree) (state : KindState) (modules : Scope Outside) (env : ModuleEnvironment ModuleView) (same : (t : List ℕ) → exported (view_under names (module_meaning env t) t) ≡ exported (named_in text outsides words modules t).view) (ls : List Lexeme) (n : Named) (m : Meaning)
      → AllByRecursion (SeenSo behind state) (extended_meanings text outsides words modules ls) → ComesFrom text names env ls n m → SeenSo behind state m
  from-seen behind state modules env same [] n m all comes = absurd comes
  from-seen behind state modules env same (l ∷ ls) n m all (inl there) =
      let entries : Exports = exported (named_in text outsides words modules (spelled source l)).view in
      mean-there (SeenSo behind state) entries n m (all-left (SeenSo behind state) (meanings_of entries) (extended_meanings text outsides words modules ls) all) (subst (λ (es : Exports). IsThere es n m) (same (spelled source l)) there)
  from-seen behind state modules env same (l ∷ ls) n m all (inr comes) =
      let entries : Exports = exported (named_in text outsides words modules (spelled source l)).view in
      from-seen behind state modules env same ls n m (all-right (SeenSo behind state) (meanings_of entries) (extended_meanings text outsides words modules ls) all) comes

  -- they are symbols, or are brought
  from-brought : (behind : List UnitTree) (old : KindState) (modules : Scope Outside) (env : ModuleEnvironment ModuleView) (same : (t : List ℕ) → exported (view_under names (module_meaning env t) t) ≡ exported (named_in text outsides words modules t).view) (ls : List Lexeme) (n : Named) (m : Meaning)
      → AllNamedSo behind old modules ls → ComesFrom text names env ls n m → (is_meant stands_behind m ≡ false) ⊎ BringOne text outsides words modules ls m
  from-brought behind old modules env same [] n m so comes = absurd comes
  from-brought behind old modules env same (l ∷ ls) n m so (inl there) =
      one (named_in text outsides words modules (spelled source l)) so.0 (subst (λ (es : Exports). IsThere es n m) (same (spelled source l)) there)
    where
      one : (other : Outside) → IsNamedSo yields declares flat means implied files outsides source units others declared offered yielding behind old other → IsThere (exported other.view) n m → (is_meant stands_behind m ≡ false) ⊎ (((name : Named) × (name_among (instantiable (exported other.view)) m ≡ Some name)) ⊎ BringOne text outsides words modules ls m)
      one other is inside_it = by (there-holds (OfEntry IsOffered) (exported other.view) n m is.offered_names.entries inside_it)
        where
          by : IsOffered n m → (is_meant stands_behind m ≡ false) ⊎ (((name : Named) × (name_among (instantiable (exported other.view)) m ≡ Some name)) ⊎ BringOne text outsides words modules ls m)
          by (inl symbol) = inl (symbol-plain m symbol)
          by (inr behind_it) =
              let entries : Exports = instantiable (exported other.view) in
              inr (inl (among-there entries n m (there-passes (λ (e : Named × Meaning). is_meant stands_behind e.1) (exported other.view) n m inside_it behind_it) (name_among entries m) refl))
  from-brought behind old modules env same (l ∷ ls) n m so (inr comes) = by (from-brought behind old modules env same ls n m so.1 comes)
    where
      by : (is_meant stands_behind m ≡ false) ⊎ BringOne text outsides words modules ls m → (is_meant stands_behind m ≡ false) ⊎ BringOne text outsides words modules (l ∷ ls) m
      by (inl plain) = inl plain
      by (inr one) = inr (inr one)

  module _ (behind : List UnitTree) (state : KindState) (unit : UnitTree) (so : Bringing behind state unit) where
    abbrev then : KindState
    then = after text outsides words state unit

    moved : (m : Meaning) → Stands (unit ∷ behind) state m → Stands behind then m
    moved m is = (stands-after yields declares flat means implied files outsides source units others declared offered yielding behind state unit so m is.0, by is.1)
      where
        by : (is_meant stands_behind m ≡ false) ⊎ StandsAlike state m → (is_meant stands_behind m ≡ false) ⊎ StandsAlike (after text outsides words state unit) m
        by (inl plain) = inl plain
        by (inr alike) = inr (alike-after text outsides words state unit m alike)

    round-moved : AllByRecursion (UsedStand (unit ∷ behind) state) state.read.place.round → AllByRecursion (UsedStand behind then) state.read.place.round
    round-moved all = all-weaker (UsedStand (unit ∷ behind) state) (UsedStand behind then) (λ reading is n m at. moved m (is n m at)) state.read.place.round all

    -- names that a unit declares: none is own behind it, and definitions stand alike
    declared-stand : (local : Bool) (binders : List Binder) → ((m : Meaning) → is_among (map (meant text) binders) m ≡ true → IsOwnOfNone declares text outsides words behind then m) → ((m : Meaning) → IsOneOf text binders m → (is_meant stands_behind m ≡ false) ⊎ StandsAlike then m)
        → UsedStand (unit ∷ behind) state state.read.place.here → UsedStand behind then (declare_all text local state.read.place.here binders)
    declared-stand local binders none each is n m at = by (declared-come text local state.read.place.here binders n m at)
      where
        by : (meaning_of state.read.place.here.context n ≡ Some m) ⊎ IsOneOf text binders m → Stands behind (after text outsides words state unit) m
        by (inl before) = moved m (is n m before)
        by (inr one) = ((none m (own-among binders m one), inl (own-name binders m one)), each m one)

    -- names that an INSTANCE without a name brings
    joined-stand : (local : Bool) (entries : Exports) → ((name : Named) (m : Meaning) → IsThere entries name m → SeenSo behind then m) → ((name : Named) (m : Meaning) → name_among entries m ≡ Some name → StandsAlike then m) → UsedStand (unit ∷ behind) state state.read.place.here
        → UsedStand behind then (joined local state.read.place.here entries)
    joined-stand local entries seen alike is n m at = by (joined-come local state.read.place.here entries n m at)
      where
        by : (meaning_of state.read.place.here.context n ≡ Some m) ⊎ IsThere entries n m → Stands behind (after text outsides words state unit) m
        by (inl before) = moved m (is n m before)
        by (inr there) = let found = among-there entries n m there (name_among entries m) refl in (seen n m there, inr (alike found.0 m found.1))

  nested-view : (before behind : List UnitTree) (state : KindState) → IsAt outsides source units before behind state → (title t : List ℕ) → exported (view_under names (module_meaning (inside state.read.place.here.modules title) t) t) ≡ exported (named_in text outsides words (begun state.modules title) t).view
  nested-view before behind state at title t =
      sym (brings-exported names (module_meaning (inside state.read.place.here.modules title) t) t)
      ∙ subst (λ (s : KindState). exports_under (exports_by names) (module_meaning (inside s.read.place.here.modules title) t) t ≡ exported (named_in text outsides words (begun s.modules title) t).view) (sym at.same) (nested-same outsides source units before title t)

  begun-stand : (before behind : List UnitTree) (dashes name : Lexeme) (extends : List Lexeme) (state : KindState) → IsAt outsides source units before (ModuleBegin dashes name extends ∷ behind) state → OwnHere (ModuleBegin dashes name extends ∷ behind) state → Bringing behind state (ModuleBegin dashes name extends)
      → UsedStand (ModuleBegin dashes name extends ∷ behind) state state.read.place.here → UsedStand behind (after text outsides words state (ModuleBegin dashes name extends)) (after text outsides words state (ModuleBegin dashes name extends)).read.place.here
  begun-stand before behind dashes name extends state at here so is n m used =
      by (extends-come text names (inside state.read.place.here.modules (spelled source name)) (nested text state.read.place.here name) extends n m refl used)
    where
      unit : UnitTree
      unit = ModuleBegin dashes name extends

      then : KindState
      then = after text outsides words state (ModuleBegin dashes name extends)

      modules : Scope Outside
      modules = begun state.modules (spelled source name)

      alike : (is_meant stands_behind m ≡ false) ⊎ BringOne text outsides words (begun state.modules (spelled source name)) extends m → (is_meant stands_behind m ≡ false) ⊎ StandsAlike (after text outsides words state (ModuleBegin dashes name extends)) m
      alike (inl plain) = inl plain
      alike (inr one) = inr (λ k same parameters. extended-new text outsides words (begun state.modules (spelled source name)) parameters (state.standing parameters) extends k m same one)

      by : (meaning_of state.read.place.here.context n ≡ Some m) ⊎ ComesFrom text names (inside state.read.place.here.modules (spelled source name)) extends n m → Stands behind (after text outsides words state (ModuleBegin dashes name extends)) m
      by (inl earlier) = moved behind state unit so m (is n m earlier)
      by (inr comes) =
          let view = nested-view before (unit ∷ behind) state at (spelled source name) in (
            from-seen behind then modules (inside state.read.place.here.modules (spelled source name)) view extends n m
                (extended-seen yields declares flat means implied files outsides source units others declared offered yielding (unit ∷ behind) behind state then modules extends extends (own-next declares text outsides words unit behind state here)
                (none-next declares text outsides words unit behind state) so (λ k other holds parameters. holds parameters (state.standing parameters)) (λ k nothing. nothing) so) comes,
            alike (from-brought (unit ∷ behind) state modules (inside state.read.place.here.modules (spelled source name)) view extends n m so comes),
          )

  unit-declared : (before behind : List UnitTree) (unit : UnitTree) → units.units ≡ before ++ unit ∷ behind → AreNamesDeclared declares text (declared_names unit)
  unit-declared before behind unit split = (all-right (λ (u : UnitTree). AreNamesDeclared declares text (declared_names u)) before (unit ∷ behind) (subst (AreUnitsDeclared declares text) split own_names)).0

  after-stand : (before behind : List UnitTree) (state : KindState) (unit : UnitTree) → IsAt outsides source units before (unit ∷ behind) state → OwnHere (unit ∷ behind) state → Bringing behind state unit → AllStand (unit ∷ behind) state → AllStand behind (after text outsides words state unit)
  after-stand before behind state (Variables vs) at here so is = (
    declared-stand behind state (Variables vs) so false (variables vs)
        (λ m among. none-symbol declares text outsides words behind (after text outsides words state (Variables vs)) m (own-next declares text outsides words (Variables vs) behind state here) (among-symbols declares text (variables vs) m (unit-declared before behind (Variables vs) at.split) (variables-are text vs) among))
        (λ m one. inl (own-plain (variables vs) m (variables-are text vs) one)) is.0,
    round-moved behind state (Variables vs) so is.1,
  )
  after-stand before behind state (Constants declarations) at here so is = (
    declared-stand behind state (Constants declarations) so false (constants declarations)
        (λ m among. none-symbol declares text outsides words behind (after text outsides words state (Constants declarations)) m (own-next declares text outsides words (Constants declarations) behind state here) (among-symbols declares text (constants declarations) m (unit-declared before behind (Constants declarations) at.split) (constants-are text (all_placed declarations)) among))
        (λ m one. inl (own-plain (constants declarations) m (constants-are text (all_placed declarations)) one)) is.0,
    round-moved behind state (Constants declarations) so is.1,
  )
  after-stand before behind state (OperatorDefinition local x) at here so is = (
    declared-stand behind state (OperatorDefinition local x) so (is_some local) (definition x) (λ m among. none-behind declares text outsides words (OperatorDefinition local x) behind state m here among)
        (λ m one. inr (operator-alike text outsides words state local x m (own-among (definition x) m one))) is.0,
    round-moved behind state (OperatorDefinition local x) so is.1,
  )
  after-stand before behind state (FunctionDefinition local x) at here so is = (
    declared-stand behind state (FunctionDefinition local x) so (is_some local) (definition x) (λ m among. none-behind declares text outsides words (FunctionDefinition local x) behind state m here among)
        (λ m one. inr (function-alike text outsides words state local x m (own-among (definition x) m one))) is.0,
    round-moved behind state (FunctionDefinition local x) so is.1,
  )
  after-stand before behind state (ModuleDefinition local x) at here so is = (
    declared-stand behind state (ModuleDefinition local x) so (is_some local) (definition x) (λ m among. none-behind declares text outsides words (ModuleDefinition local x) behind state m here among)
        (λ m one. inr (module-alike text outsides words state local x m (own-among (definition x) m one))) is.0,
    round-moved behind state (ModuleDefinition local x) so is.1,
  )
  after-stand before behind state (Instance local x) at here so is = (
    joined-stand behind state (Instance local x) so (is_some local) (instance_brings text names words state.read x) (instance-seen yields declares flat means implied files outsides source units others declared offered yielding behind state local x here so)
        (λ name m found. instance-alike text outsides words state local x m name found) is.0,
    round-moved behind state (Instance local x) so is.1,
  )
  after-stand before behind state (Assumption word name x) at here so is = ((λ n m used. moved behind state (Assumption word name x) so m (is.0 n m used)), round-moved behind state (Assumption word name x) so is.1)
  after-stand before behind state (Theorem word name x) at here so is = ((λ n m used. moved behind state (Theorem word name x) so m (is.0 n m used)), round-moved behind state (Theorem word name x) so is.1)
  after-stand before behind state (Line dashes) at here so is = ((λ n m used. moved behind state (Line dashes) so m (is.0 n m used)), round-moved behind state (Line dashes) so is.1)
  after-stand before behind state (ModuleBegin dashes name extends) at here so is = (
    begun-stand before behind dashes name extends state at here so is.0,
    ((λ n m used. moved behind state (ModuleBegin dashes name extends) so m (is.0 n m used)), round-moved behind state (ModuleBegin dashes name extends) so is.1),
  )
  after-stand before behind state (ModuleEnd closing) at here so is = by state.read.place.round (round-moved behind state (ModuleEnd closing) so is.1)
    where
      by : (round : List Reading) → AllByRecursion (UsedStand behind (after text outsides words state (ModuleEnd closing))) round
          → UsedStand behind (after text outsides words state (ModuleEnd closing)) (left state.read.known state.read.place.here round).here × AllByRecursion (UsedStand behind (after text outsides words state (ModuleEnd closing))) (left state.read.known state.read.place.here round).round
      by [] all = ((λ n m used. moved behind state (ModuleEnd closing) so m (is.0 n m used)), tt)
      by (outer ∷ round) all = (all.0, all.1)

  all-stand : (before mid behind : List UnitTree) (state : KindState) → IsAt outsides source units before (mid ++ behind) state → OwnHere (mid ++ behind) state → AllStand (mid ++ behind) state → AllBring before (mid ++ behind) state
      → AllStand behind (read_all text outsides words state mid) × AllBring (before ++ mid) behind (read_all text outsides words state mid) × OwnHere behind (read_all text outsides words state mid)
  all-stand before [] behind state at here is all = (is, subst (λ (us : List UnitTree). AllBring us behind state) (sym (append-nil before)) all, here)
  all-stand before (unit ∷ mid) behind state at here is all =
      let so = extends-so before (mid ++ behind) unit state at here all in
      let next : KindState = after text outsides words state unit in
      subst (λ (us : List UnitTree). AllStand behind (read_all text outsides words next mid) × AllBring us behind (read_all text outsides words next mid) × OwnHere behind (read_all text outsides words next mid)) (sym (append-one outsides source units before unit mid))
      (all-stand (before ++ unit ∷ []) mid behind next (at-next outsides source units before unit (mid ++ behind) state at) (own-next declares text outsides words unit (mid ++ behind) state here) (after-stand before (mid ++ behind) state unit at here so is)
      (bring-after before (mid ++ behind) unit state at so is.0 all))

  first-stand : AllStand units.units (first outsides source units)
  first-stand = (used, tt)
    where
      same : (b : Bool) (t : List ℕ) → exported (view_under names (cond b (Some None) None) t) ≡ exported (module_under outsides (cond b (Some None) None) t).view
      same true t = refl
      same false t = refl

      alike : (m : Meaning) → (is_meant stands_behind m ≡ false) ⊎ BringOne text outsides words (first_scope text.file) units.extends m → (is_meant stands_behind m ≡ false) ⊎ StandsAlike (first outsides source units) m
      alike m (inl plain) = inl plain
      alike m (inr one) = inr (λ k alike_k parameters. extended-new text outsides words (first_scope text.file) parameters parameters units.extends k m alike_k one)

      by : (n : Named) (m : Meaning) → (meaning_of built_in n ≡ Some m) ⊎ ComesFrom text names (outermost text.file) units.extends n m → Stands units.units (first outsides source units) m
      by n m (inl earlier) = subst (Stands units.units (first outsides source units)) (sym (built-in-is n m earlier)) ((none-symbol declares text outsides words units.units (first outsides source units) BuiltIn own tt, inl tt), inl refl)
      by n m (inr comes) = (
        from-seen units.units (first outsides source units) (first_scope text.file) (outermost text.file) (λ t. same (bytes_eq t text.file) t) units.extends n m
            (extended-seen yields declares flat means implied files outsides source units others declared offered yielding units.units units.units (first outsides source units) (first outsides source units) (first_scope text.file) units.extends units.extends own (λ s none. none) first-so
            (λ k other holds parameters. holds parameters parameters) (λ k nothing. nothing) first-so) comes,
        alike m (from-brought units.units (first outsides source units) (first_scope text.file) (outermost text.file) (λ t. same (bytes_eq t text.file) t) units.extends n m first-so comes),
      )

      used : UsedStand units.units (first outsides source units) (first outsides source units).read.place.here
      used n m at = by n m (extends-come text names (outermost text.file) (unread text) units.extends n m refl at)

  stand-behind : (before behind : List UnitTree) → units.units ≡ before ++ behind → AllStand behind (kinds_behind outsides source units before) × AllBring before behind (kinds_behind outsides source units before) × OwnHere behind (kinds_behind outsides source units before)
  stand-behind before behind split =
      all-stand [] before behind (first outsides source units) (record { split = split; same = refl }) (subst (λ (us : List UnitTree). OwnHere us (first outsides source units)) split own)
      (subst (λ (us : List UnitTree). AllStand us (first outsides source units)) split first-stand) ((tt, tt), tt)

  -- what is known of what a unit brings
  pub brings-at : (before behind : List UnitTree) (unit : UnitTree) (state : KindState) → IsAt outsides source units before (unit ∷ behind) state → Bringing behind state unit
  brings-at before behind unit state at =
      let all = stand-behind before (unit ∷ behind) at.split in
      extends-so before behind unit state at (subst (λ (k : KindState). OwnHere (unit ∷ behind) k) (sym at.same) all.2) (subst (λ (k : KindState). AllBring before (unit ∷ behind) k) (sym at.same) all.1)

  -- a definition has in the end what its declaration yields
  name-yields : (n : Named) (m : Meaning) → IsOne declares n m → is_meant stands_behind m ≡ true → IsOwnOr yields declares flat means implied files outsides source units others declared offered yielding m ⊎ IsYielded yields declares flat means implied files outsides source units others declared offered yielding (last outsides source units) m → (parameters : Environment) → (last outsides source units).standing parameters m ≡ yielded (with_own_yields declares text.file (last outsides source units) yields) m parameters
  name-yields n BuiltIn one behind_it stands parameters = absurd (cc behind_it)
  name-yields n (Declared e callee) one behind_it stands parameters = by_title (is_of text.file callee.decl callee.via) refl stands
    where
      by_title : (b : Bool) → is_of text.file callee.decl callee.via ≡ b → IsOwnOr yields declares flat means implied files outsides source units others declared offered yielding (Declared e callee) ⊎ IsYielded yields declares flat means implied files outsides source units others declared offered yielding (last outsides source units) (Declared e callee)
          → (last outsides source units).standing parameters (Declared e callee)
          ≡ cond b ((last outsides source units).standing parameters (Declared (declares callee.decl).1 (record { instance = 0; decl = callee.decl; via = callee.via }))) (yields callee.decl callee.via parameters)
      by_title true is stands = ap (λ k. (last outsides source units).standing parameters k) (λ i. Declared (ap (λ (p : Named × Entity). p.1) (sym one.0) i) (record { instance = one.1 i; decl = callee.decl; via = callee.via }))
      by_title false is (inl (inl here)) = absurd (false≢true (sym is ∙ here))
      by_title false is (inl (inr no_definition)) = absurd (false≢true (sym no_definition ∙ (ap (λ (p : Named × Entity). stands_behind p.1) one.0 ∙ behind_it)))
      by_title false is (inr stands) = stands.1 (Declared e callee) (standing-itself (Declared e callee)) parameters

  -- what the module exports has in the end what its declarations yield
  pub last-exported : ((n : Named) (m : Meaning) → entry_of (exports_of (last outsides source units).read.place.here.exports) n ≡ Some m → IsOne declares n m × (meaning_of (last outsides source units).read.place.here.context n ≡ Some m))
      → HasExported (with_own_yields declares text.file (last outsides source units) yields) (last outsides source units)
  last-exported usable n m at behind_it parameters =
      let one = usable n m at in
      let stands = (stand-behind units.units [] (sym (append-nil units.units))).0.0 n m one.1 in
      name-yields n m one.0 behind_it stands.0.1 parameters

-- a file without names of a module brings its names so with what that yields
pub file-still : (yields : Yields) (declares : Declarations) (title : List ℕ) (state : KindState) (named : Outside) → BringsOthers title named → IsYielding yields named → IsYielding (with_own_yields declares title state yields) named
file-still yields declares title state named others yielding m name at parameters arguments path = by m (brought-others title named.view m name others at) (yielding m name at parameters arguments path)
  where
    by : (m : Meaning) → IsOfOthers title m → named.standing parameters (record { name = name; arguments = arguments } ∷ path) ≡ yielded yields m parameters arguments path
        → named.standing parameters (record { name = name; arguments = arguments } ∷ path) ≡ yielded (with_own_yields declares title state yields) m parameters arguments path
    by BuiltIn apart is = is
    by (Declared g a) apart is = is ∙ sym (ap (λ t. cond t (state.standing parameters (Declared (declares a.decl).1 (record { instance = 0; decl = a.decl; via = a.via }))) (yields a.decl a.via parameters) arguments path) (others-not title g a apart))
