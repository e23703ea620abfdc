-- What a module without faults gives depends on what stands for names alone that are no definitions, and so do modules nested in it.
use Rattle.std.proofs.Common.{◌≡◌, ℕ, Bool, true, false, cond, List, [], ◌∷◌, ◌++◌, ◌⊎◌, inl, inr, Option, Some, None, is_some, refl, sym, ap, subst, ◌∙◌, map}
use Rattle.std.specs.List.{AllByRecursion}
use Rattle.std.specs.Str.{bytes_eq}
use Rattle.std.proofs.lemmas.List.{append-nil}
use Rattle.list_laws.proofs.Lists.{all-left, all-right, all-weaker}
use Rattle.tla_symbols.specs.declared.lexeme.Lexeme.{Lexeme}
use Rattle.tla_symbols.specs.declared.lexeme.Span.{Span}
use Rattle.tla_tree.specs.declared.form.Form.TheVariants as Form
use Rattle.tla_tree.specs.Syntax.{Tree, Trees, Node, Nil, Cons}
use Rattle.unit_grammar.specs.Units.{UnitTree, Variables, Constants, OperatorDefinition, FunctionDefinition, ModuleDefinition, Instance, Assumption, Theorem, Line, ModuleBegin, ModuleEnd, ModuleUnits}
use Rattle.tla_model.specs.declared.ids.UnitId.{UnitId}
use Rattle.tla_model.specs.declared.names.Binder.{Binder}
use Rattle.tla_model.specs.declared.names.Meaning.TheVariants.{BuiltIn, Declared}
use Rattle.tla_model.specs.Contexts.{built_in, meaning_of}
use Rattle.tla_model.specs.Entities.{Meaning, Text, all_placed, meant, name_of, variables}
use Rattle.tla_model.specs.EntityKinds.{is_meant, stands_behind, stands_for_parameter}
use Rattle.tla_model.specs.Lexemes.{spelled}
use Rattle.tla_model.specs.Scopes.{definition}
use Rattle.tla_model.specs.Tables.{Named}
use Rattle.module_scope.specs.Environments.{Environment as ModuleEnvironment, Scope, begun, first as first_scope, inside, meaning as module_meaning, outermost}
use Rattle.module_model.specs.Exports.{Exports, ModuleView, entry_of, exported, exports_by, exports_of, instantiable}
use Rattle.module_model.specs.Instances.{through, unit_trees}
use Rattle.module_model.specs.Modules.{Reading, constants, declare_all, exports_under, joined, left, nested, text_of, unread}
use Rattle.module_model.specs.NamedModules.{module_under as view_under}
use Rattle.module_model.specs.Resolution.{instance_brings, words_of}
use Rattle.kind_text.specs.ExpandedKind.{Expanded, Operands}
use Rattle.tree_kinds.specs.Expanding.{defined_value, put_into, replaced_by, replacements, right_sides, unguarded, written_for}
use Rattle.tree_kinds.specs.Standing.{Environment, Outside, Steps, coming, name_among, value_in, with_entries}
use Rattle.module_kinds.specs.ModuleKinds.{KindState, after, around, extended, first, known_at, last, module_under, named, named_in, nested_outside, outside, read_all, views}
use Rattle.flat_kinds.specs.Declarations.{AreNamesDeclared, AreUnitsDeclared, Declarations, IsDeclared, declared_names, OfAllKnown, OfKnown}
use Rattle.flat_kinds.proofs.Declarations.{keeps-all, keeps-first}
use Rattle.flat_kinds.proofs.Leaving.{extended-left, meaning-left}
use Rattle.module_meanings.proofs.Staying.{leaf-brought_none, leaf-left}
use Rattle.accepted_modules.specs.Named.{AllNamed}
use Rattle.accepted_modules.specs.Offered.{IsOffered}
use Rattle.accepted_modules.specs.States.{kinds_behind}
use Rattle.accepted_modules.proofs.Contexts.{brings-exported, built-in-is}
use Rattle.accepted_modules.proofs.Holding.{AreOwn, OfEntry, Own, added-known, found-known}
use Rattle.accepted_modules.proofs.Tables.{IsThere, there-holds}
use Rattle.accepted_modules.proofs.Views.{nested-same}
use Rattle.steady_kinds.specs.Steady.{AgreeOn, AreAlike, BindsAll, IsOpen, IsSteady}
use Rattle.steady_kinds.proofs.Trees.{IsOneOf as IsNewOf, defined-same, put-same, replacements-same, rights-same, values-new, values-same}
use Rattle.given_modules.proofs.Ahead.{IsAt, at-first, at-next}
use Rattle.given_modules.proofs.Coming.{IsOneOf, declared-come}
use Rattle.given_modules.proofs.Exported.{there-passes}
use Rattle.given_modules.proofs.NestedExtending.{ComesFrom, extends-come, joined-come}
use Rattle.given_modules.proofs.NestedSymbols.{AllHave, all-named, have-after, offered-named}
use Rattle.given_modules.proofs.Placed.{constants-are, symbol-plain, variables-are}
use Rattle.given_modules.proofs.Standing.{BringOne, among-there}
use Rattle.given_modules.proofs.Usable.{IsOne, IsUsable, behind-usable, exported-usable}

-- ---- entries

entries-both : (a b : Environment) (entries : Exports) (from others : Steps → Expanded) (m : Meaning) → from ≡ others → a m ≡ b m → with_entries a entries from m ≡ with_entries b entries others m
entries-both a b entries from others m e same = λ i. coming (e i) (same i) (name_among entries m)

entries-new : (a b : Environment) (entries : Exports) (from others : Steps → Expanded) (m : Meaning) (name : Named) → from ≡ others → name_among entries m ≡ Some name → with_entries a entries from m ≡ with_entries b entries others m
entries-new a b entries from others m name e is =
    ap (λ found. coming from (a m) found) is ∙ (λ i arguments path. e i (record { name = name; arguments = arguments } ∷ path)) ∙ sym (ap (λ found. coming others (b m) found) is)

-- INSTANCEs without a name of modules without parameters give what these do
abbrev pub InstancesGive : (List ℕ → Outside) → List ℕ → ModuleUnits → Type 0
InstancesGive outsides source units =
    let text : Text = text_of source units in
    let words : List ℕ = words_of units in
    (before behind : List UnitTree) (local : Option Lexeme) (l : Lexeme) (at : Span) (parts : Trees) → units.units ≡ before ++ Instance local (Node (Form.Instance l) at parts) ∷ behind
    → (named text outsides words (kinds_behind outsides source units before) (spelled source l)).view.parameters ≡ [] → (parameters : Environment) (path : Steps)
    → unguarded text (known_at text outsides words (kinds_behind outsides source units before) (Instance local (Node (Form.Instance l) at parts))) (named text outsides words (kinds_behind outsides source units before)) (around text outsides words (kinds_behind outsides source units before) parameters)
    (Node (Form.Instance l) at parts) path
    ≡ (named text outsides words (kinds_behind outsides source units before) (spelled source l)).standing parameters path

new-of : (text : Text) (bs : List Binder) (m : Meaning) → IsOneOf text bs m → IsNewOf text bs m
new-of text [] m one = one
new-of text (b ∷ bs) m (inl is) = inl (sym is)
new-of text (b ∷ bs) m (inr one) = inr (new-of text bs m one)

module _ (declares : Declarations) (outsides : List ℕ → Outside) (source : List ℕ) (units : ModuleUnits) (declared : (name : List ℕ) → AllNamed (IsDeclared declares) (outsides name).view) (offered : (name : List ℕ) → AllNamed IsOffered (outsides name).view)
    (ones : (name : List ℕ) → AllNamed (IsOne declares) (outsides name).view) (own_names : AreUnitsDeclared declares (text_of source units) units.units) (steady : (name : List ℕ) → IsSteady (IsOpen declares) (outsides name))
    (binds : (before behind : List UnitTree) (unit : UnitTree) (x : Tree) → units.units ≡ before ++ unit ∷ behind → unit_trees unit ≡ Cons x Nil → BindsAll (IsOpen declares) (text_of source units) x) where
  abbrev text : Text
  text = text_of source units

  abbrev words : List ℕ
  words = words_of units

  abbrev names : List ℕ → ModuleView
  names = views text outsides words

  abbrev Open : Meaning → Type 0
  Open = IsOpen declares

  -- what stands for a name depends on such names alone
  abbrev pub SteadyAt : KindState → Meaning → Type 0
  SteadyAt state m = (a b : Environment) → AgreeOn Open a b → state.standing a m ≡ state.standing b m

  -- so it is with all that can be used
  abbrev pub UsedSteady : KindState → Reading → Type 0
  UsedSteady state reading = (n : Named) (m : Meaning) → meaning_of reading.context n ≡ Some m → SteadyAt state m

  -- and with those of the modules round, and with modules that can be named
  pub record AllSteady (state : KindState) : Type 0 where
    pub here : UsedSteady state state.read.place.here
    pub round : AllByRecursion (UsedSteady state) state.read.place.round
    pub modules : AllHave (IsSteady Open) state.modules
    pub passes : (m : Meaning) → Open m → (parameters : Environment) → state.standing parameters m ≡ parameters m

  passes-declared : (unit : UnitId) (name : Named) (m : Meaning) → IsDeclared declares name m → IsDeclared declares name (through unit m)
  passes-declared unit name BuiltIn is = is
  passes-declared unit name (Declared e callee) is = is

  declared-own : (before behind : List UnitTree) → units.units ≡ before ++ behind → AreOwn (IsDeclared declares) text before
  declared-own before behind split =
      all-weaker (λ (unit : UnitTree). AreNamesDeclared declares text (declared_names unit)) (λ (unit : UnitTree). AllByRecursion (Own (IsDeclared declares) text) (declared_names unit))
      (λ unit all. all-weaker (λ (b : Binder). IsDeclared declares (name_of text.source b.name) (meant text b)) (Own (IsDeclared declares) text) (λ b one none. one) (declared_names unit) all) before
      (all-left (λ (unit : UnitTree). AreNamesDeclared declares text (declared_names unit)) before behind (subst (AreUnitsDeclared declares text) split own_names))

  -- ---- modules that are extended

  named-steady : (scope : Scope Outside) → OfAllKnown (IsSteady Open) scope.here → (title : List ℕ) → IsSteady Open (named_in text outsides words scope title)
  named-steady scope all title = found-known (IsSteady Open) scope.here title (λ (o : Option (Option Outside)). IsSteady Open (module_under outsides o title)) (steady title) some all
    where
      some : (found : Option Outside) → OfKnown (IsSteady Open) found → IsSteady Open (module_under outsides (Some found) title)
      some None one = λ a b same path. refl
      some (Some other) one = one

  extended-same : (scope : Scope Outside) (all : OfAllKnown (IsSteady Open) scope.here) (a b : Environment) → AgreeOn Open a b → (before other : Environment) (ls : List Lexeme) (m : Meaning) → before m ≡ other m → extended text outsides words scope a before ls m ≡ extended text outsides words scope b other ls m
  extended-same scope all a b agree before other [] m same = same
  extended-same scope all a b agree before other (l ∷ ls) m same =
      let one : Outside = named_in text outsides words scope (spelled source l) in
      extended-same scope all a b agree (with_entries before (instantiable (exported one.view)) (one.standing a)) (with_entries other (instantiable (exported one.view)) (one.standing b)) ls m
      (entries-both before other (instantiable (exported one.view)) (one.standing a) (one.standing b) m (λ i path. named-steady scope all (spelled source l) a b agree path i) same)

  extended-new : (scope : Scope Outside) (all : OfAllKnown (IsSteady Open) scope.here) (a b : Environment) → AgreeOn Open a b → (before other : Environment) (ls : List Lexeme) (m : Meaning) → BringOne text outsides words scope ls m → extended text outsides words scope a before ls m ≡ extended text outsides words scope b other ls m
  extended-new scope all a b agree before other [] m one = absurd one
  extended-new scope all a b agree before other (l ∷ ls) m (inl found) =
      let one : Outside = named_in text outsides words scope (spelled source l) in
      extended-same scope all a b agree (with_entries before (instantiable (exported one.view)) (one.standing a)) (with_entries other (instantiable (exported one.view)) (one.standing b)) ls m
      (entries-new before other (instantiable (exported one.view)) (one.standing a) (one.standing b) m found.0 (λ i path. named-steady scope all (spelled source l) a b agree path i) found.1)
  extended-new scope all a b agree before other (l ∷ ls) m (inr later) =
      let one : Outside = named_in text outsides words scope (spelled source l) in
      extended-new scope all a b agree (with_entries before (instantiable (exported one.view)) (one.standing a)) (with_entries other (instantiable (exported one.view)) (one.standing b)) ls m later

  symbol-open : (n : Named) (m : Meaning) → IsDeclared declares n m → is_meant stands_for_parameter m ≡ true → Open m
  symbol-open n BuiltIn is symbol = inl tt
  symbol-open n (Declared e callee) is symbol = inl (ap (λ p. stands_behind p.1) is ∙ symbol-plain (Declared e callee) symbol)

  -- what is extended is brought, or such a name
  from-brought : (scope : Scope Outside) → ((t : List ℕ) → AllNamed (IsDeclared declares) (named_in text outsides words scope t).view) → ((t : List ℕ) → AllNamed IsOffered (named_in text outsides words scope t).view) → (env : ModuleEnvironment ModuleView)
      (same : (t : List ℕ) → exported (view_under names (module_meaning env t) t) ≡ exported (named_in text outsides words scope t).view) (ls : List Lexeme) (n : Named) (m : Meaning) → ComesFrom text names env ls n m → Open m ⊎ BringOne text outsides words scope ls m
  from-brought scope is_declared is_offered env same [] n m comes = absurd comes
  from-brought scope is_declared is_offered env same (l ∷ ls) n m (inl there) =
      one (named_in text outsides words scope (spelled source l)) (is_declared (spelled source l)) (is_offered (spelled source l)) (subst (λ (es : Exports). IsThere es n m) (same (spelled source l)) there)
    where
      one : (other : Outside) → AllNamed (IsDeclared declares) other.view → AllNamed IsOffered other.view → IsThere (exported other.view) n m → Open m ⊎ (((name : Named) × (name_among (instantiable (exported other.view)) m ≡ Some name)) ⊎ BringOne text outsides words scope ls m)
      one other d o inside_it = by (there-holds (OfEntry IsOffered) (exported other.view) n m o.entries inside_it)
        where
          by : IsOffered n m → Open m ⊎ (((name : Named) × (name_among (instantiable (exported other.view)) m ≡ Some name)) ⊎ BringOne text outsides words scope ls m)
          by (inl symbol) = inl (symbol-open n m (there-holds (OfEntry (IsDeclared declares)) (exported other.view) n m d.entries inside_it) symbol)
          by (inr behind_it) = inr (inl (among-there (instantiable (exported other.view)) n m (there-passes (λ (e : Named × Meaning). is_meant stands_behind e.1) (exported other.view) n m inside_it behind_it) (name_among (instantiable (exported other.view)) m) refl))
  from-brought scope is_declared is_offered env same (l ∷ ls) n m (inr comes) = by (from-brought scope is_declared is_offered env same ls n m comes)
    where
      by : Open m ⊎ BringOne text outsides words scope ls m → Open m ⊎ BringOne text outsides words scope (l ∷ ls) m
      by (inl such) = inl such
      by (inr one) = inr (inr one)

  -- ---- units

  passed : (state : KindState) → AllSteady state → (a b : Environment) → AgreeOn Open a b → AgreeOn Open (state.standing a) (state.standing b)
  passed state is a b agree m such = is.passes m such a ∙ agree m such ∙ sym (is.passes m such b)

  alike-at : (state : KindState) → AllSteady state → (a b : Environment) → AgreeOn Open a b → AreAlike Open state.read.place.here.context (state.standing a) (state.standing b)
  alike-at state is a b agree = record { agree = passed state is a b agree; used = λ n m e. is.here n m e a b agree }

  -- what a definition gives
  given-same : (before behind : List UnitTree) (unit : UnitTree) (x : Tree) (state : KindState) → units.units ≡ before ++ unit ∷ behind → unit_trees unit ≡ Cons x Nil → AllSteady state → (a b : Environment) → AgreeOn Open a b
      → defined_value text (known_at text outsides words state unit) (named text outsides words state) (around text outsides words state a) x ≡ defined_value text (known_at text outsides words state unit) (named text outsides words state) (around text outsides words state b) x
  given-same before behind unit x state split tree is a b agree =
      defined-same text (known_at text outsides words state unit) (named text outsides words state) Open (named-steady state.modules is.modules.0) state.read.place.here.context (state.standing a) (state.standing b) Operands.Nil Operands.Nil refl
      (alike-at state is a b agree) x (binds before behind unit x split tree)

  -- what an INSTANCE without a name gives
  instance-same : (before behind : List UnitTree) (local : Option Lexeme) (x : Tree) (state : KindState) → units.units ≡ before ++ Instance local x ∷ behind → AllSteady state → (a b : Environment) → AgreeOn Open a b
      → unguarded text (known_at text outsides words state (Instance local x)) (named text outsides words state) (around text outsides words state a) x ≡ unguarded text (known_at text outsides words state (Instance local x)) (named text outsides words state) (around text outsides words state b) x
  instance-same before behind local (Node (Form.Instance l) s parts) state split is a b agree =
      let known = known_at text outsides words state (Instance local (Node (Form.Instance l) s parts)) in
      let modules = named text outsides words state in
      let steady_here = named-steady state.modules is.modules.0 in
      let c = state.read.place.here.context in
      let alike = alike-at state is a b agree in
      let all = binds before behind (Instance local (Node (Form.Instance l) s parts)) (Node (Form.Instance l) s parts) split refl in
      λ i path.
      (ap (λ rs. put_into text known modules (around text outsides words state a) l rs path)
      (replacements-same text known modules Open steady_here c (state.standing a) (state.standing b) Operands.Nil Operands.Nil refl alike l (right_sides text known modules (around text outsides words state a) parts) (right_sides text known modules (around text outsides words state b) parts)
      (rights-same text known modules Open steady_here c (state.standing a) (state.standing b) Operands.Nil Operands.Nil refl alike parts all.1))
      ∙ put-same text known modules Open steady_here c (state.standing a) (state.standing b) Operands.Nil Operands.Nil refl alike l (replacements text known modules (around text outsides words state b) l (right_sides text known modules (around text outsides words state b) parts)) path) i
  instance-same before behind local (Node form s parts) state split is a b agree = refl

  -- a name that is steady stays so
  moved : (before behind : List UnitTree) (unit : UnitTree) (state : KindState) → units.units ≡ before ++ unit ∷ behind → AllSteady state → (m : Meaning) → SteadyAt state m → SteadyAt (after text outsides words state unit) m
  moved before behind (OperatorDefinition local x) state split is m so a b agree =
      values-same (state.standing a) (state.standing b) (map (meant text) (definition x)) _ _ m (given-same before behind (OperatorDefinition local x) x state split refl is a b agree) (so a b agree)
  moved before behind (FunctionDefinition local x) state split is m so a b agree =
      values-same (state.standing a) (state.standing b) (map (meant text) (definition x)) _ _ m (given-same before behind (FunctionDefinition local x) x state split refl is a b agree) (so a b agree)
  moved before behind (ModuleDefinition local x) state split is m so a b agree =
      values-same (state.standing a) (state.standing b) (map (meant text) (definition x)) _ _ m (given-same before behind (ModuleDefinition local x) x state split refl is a b agree) (so a b agree)
  moved before behind (Instance local x) state split is m so a b agree =
      entries-both (state.standing a) (state.standing b) (instance_brings text names words state.read x) _ _ m (instance-same before behind local x state split is a b agree) (so a b agree)
  moved before behind (ModuleBegin dashes name extends) state split is m so a b agree =
      extended-same (begun state.modules (spelled source name)) (added-known (IsSteady Open) state.modules.here (spelled source name) None is.modules.0 tt) a b agree (state.standing a) (state.standing b) extends m (so a b agree)
  moved before behind (Variables vs) state split is m so a b agree = so a b agree
  moved before behind (Constants declarations) state split is m so a b agree = so a b agree
  moved before behind (Assumption word name x) state split is m so a b agree = so a b agree
  moved before behind (Theorem word name x) state split is m so a b agree = so a b agree
  moved before behind (Line dashes) state split is m so a b agree = so a b agree
  moved before behind (ModuleEnd closing) state split is m so a b agree = so a b agree

  module _ (before behind : List UnitTree) (unit : UnitTree) (state : KindState) (split : units.units ≡ before ++ unit ∷ behind) (is : AllSteady state) where
    abbrev then : KindState
    then = after text outsides words state unit

    used-moved : (reading : Reading) → UsedSteady state reading → UsedSteady then reading
    used-moved reading used n m at = moved before behind unit state split is m (used n m at)

    round-moved : AllByRecursion (UsedSteady then) state.read.place.round
    round-moved = all-weaker (UsedSteady state) (UsedSteady then) used-moved state.read.place.round is.round

    declared-steady : (local : Bool) (binders : List Binder) → ((m : Meaning) → IsOneOf text binders m → SteadyAt then m) → UsedSteady then (declare_all text local state.read.place.here binders)
    declared-steady local binders each n m at = by (declared-come text local state.read.place.here binders n m at)
      where
        by : (meaning_of state.read.place.here.context n ≡ Some m) ⊎ IsOneOf text binders m → SteadyAt then m
        by (inl earlier) = moved before behind unit state split is m (is.here n m earlier)
        by (inr one) = each m one

    joined-steady : (local : Bool) (entries : Exports) → ((n : Named) (m : Meaning) → IsThere entries n m → SteadyAt then m) → UsedSteady then (joined local state.read.place.here entries)
    joined-steady local entries each n m at = by (joined-come local state.read.place.here entries n m at)
      where
        by : (meaning_of state.read.place.here.context n ≡ Some m) ⊎ IsThere entries n m → SteadyAt then m
        by (inl earlier) = moved before behind unit state split is m (is.here n m earlier)
        by (inr one) = each n m one

  -- symbols that a unit declares are open
  own-open : (state : KindState) (binders : List Binder) (m : Meaning) → ((k : Meaning) → Open k → (parameters : Environment) → state.standing parameters k ≡ parameters k) → AllByRecursion (λ (b : Binder). IsDeclared declares (name_of source b.name) (meant text b) × (is_meant stands_for_parameter (meant text b) ≡ true)) binders → IsOneOf text binders m → SteadyAt state m
  own-open state [] m passes all one a other agree = absurd one
  own-open state (b ∷ bs) m passes all (inl same) a other agree =
      let such : Open m = subst Open same (symbol-open (name_of source b.name) (meant text b) all.0.0 all.0.1) in
      passes m such a ∙ agree m such ∙ sym (passes m such other)
  own-open state (b ∷ bs) m passes all (inr one) a other agree = own-open state bs m passes all.1 one a other agree

  -- ---- modules that end

  ended-steady : (state : KindState) (used : UsedSteady state state.read.place.here) → IsUsable declares state.read.place.here → (round : List Reading) → IsSteady Open (nested_outside state round)
  ended-steady state used usable_here [] a b agree path = refl
  ended-steady state used usable_here (outer ∷ round) a b agree [] = refl
  ended-steady state used usable_here (outer ∷ round) a b agree (step ∷ path) = by (entry_of (exports_of state.read.place.here.exports) step.name) refl
    where
      by : (found : Option Meaning) → entry_of (exports_of state.read.place.here.exports) step.name ≡ found → value_in (state.standing a) found step.arguments path ≡ value_in (state.standing b) found step.arguments path
      by None at = refl
      by (Some m) at = λ i. used step.name m (exported-usable declares outsides source units ones own_names state.read.place.here usable_here step.name m at) a b agree i step.arguments path

  usable-here : (before behind : List UnitTree) (state : KindState) → IsAt outsides source units before behind state → IsUsable declares state.read.place.here
  usable-here before behind state at = subst (λ (s : KindState). IsUsable declares s.read.place.here) (sym at.same) (behind-usable declares outsides source units ones own_names before behind at.split).0

  modules-after : (before behind : List UnitTree) (unit : UnitTree) (state : KindState) → IsAt outsides source units before (unit ∷ behind) state → AllSteady state → AllHave (IsSteady Open) (after text outsides words state unit).modules
  modules-after before behind unit state at is = have-after (IsSteady Open) text outsides words state unit (λ closing e. ended-steady state is.here (usable-here before (unit ∷ behind) state at) state.read.place.round) is.modules

  passes-after : (unit : UnitTree) (state : KindState) (before behind : List UnitTree) → IsAt outsides source units before (unit ∷ behind) state → AllSteady state → (m : Meaning) → Open m → (parameters : Environment) → (after text outsides words state unit).standing parameters m ≡ parameters m
  passes-after unit state before behind at is m (inr bound) parameters = meaning-left text outsides words state unit m (leaf-left text outsides words state unit m (inr bound)) parameters ∙ is.passes m (inr bound) parameters
  passes-after unit state before behind at is m (inl none) parameters =
      let at-then = at-next outsides source units before unit behind state at in
      let keeps = keeps-all declares text outsides words (λ name. (declared name).entries) (first outsides source units) (before ++ unit ∷ [])
      (all-left (λ (u : UnitTree). AreNamesDeclared declares text (declared_names u)) (before ++ unit ∷ []) behind (subst (AreUnitsDeclared declares text) at-then.split own_names)) (keeps-first declares outsides source units (λ name. (declared name).entries)) in
      subst (λ (s : KindState). s.standing parameters m ≡ parameters m) (sym at-then.same) (keeps.passes m none parameters)

  -- ---- along units

  binders-both : (binders : List Binder) → AllByRecursion (λ (b : Binder). IsDeclared declares (name_of source b.name) (meant text b)) binders → AllByRecursion (λ (b : Binder). is_meant stands_for_parameter (meant text b) ≡ true) binders
      → AllByRecursion (λ (b : Binder). IsDeclared declares (name_of source b.name) (meant text b) × (is_meant stands_for_parameter (meant text b) ≡ true)) binders
  binders-both [] one two = tt
  binders-both (b ∷ bs) one two = ((one.0, two.0), binders-both bs one.1 two.1)

  unit-declared : (before behind : List UnitTree) (unit : UnitTree) → units.units ≡ before ++ unit ∷ behind → AreNamesDeclared declares text (declared_names unit)
  unit-declared before behind unit split = (all-right (λ (u : UnitTree). AreNamesDeclared declares text (declared_names u)) before (unit ∷ behind) (subst (AreUnitsDeclared declares text) split own_names)).0

  nested-view : (before behind : List UnitTree) (state : KindState) → IsAt outsides source units before behind state → (title t : List ℕ) → exported (view_under names (module_meaning (inside state.read.place.here.modules title) t) t) ≡ exported (named_in text outsides words (begun state.modules title) t).view
  nested-view before behind state at title t =
      sym (brings-exported names (module_meaning (inside state.read.place.here.modules title) t) t)
      ∙ subst (λ (s : KindState). exports_under (exports_by names) (module_meaning (inside s.read.place.here.modules title) t) t ≡ exported (named_in text outsides words (begun s.modules title) t).view) (sym at.same) (nested-same outsides source units before title t)

  view-declared : (before behind : List UnitTree) (state : KindState) → IsAt outsides source units before behind state → (t : List ℕ) → AllNamed (IsDeclared declares) (named_in text outsides words state.modules t).view
  view-declared before behind state at t = all-named outsides source units (IsDeclared declares) passes-declared declared before (declared-own before behind at.split) state at.same t

  begun-steady : (before behind : List UnitTree) (dashes name : Lexeme) (extends : List Lexeme) (state : KindState) → IsAt outsides source units before (ModuleBegin dashes name extends ∷ behind) state → AllSteady state
      → UsedSteady (after text outsides words state (ModuleBegin dashes name extends)) (after text outsides words state (ModuleBegin dashes name extends)).read.place.here
  begun-steady before behind dashes name extends state at is n m used =
      by (extends-come text names (inside state.read.place.here.modules (spelled source name)) (nested text state.read.place.here name) extends n m refl used)
    where
      unit : UnitTree
      unit = ModuleBegin dashes name extends

      at-then : IsAt outsides source units (before ++ ModuleBegin dashes name extends ∷ []) behind (after text outsides words state (ModuleBegin dashes name extends))
      at-then = at-next outsides source units before (ModuleBegin dashes name extends) behind state at

      one : Open m ⊎ BringOne text outsides words (begun state.modules (spelled source name)) extends m → SteadyAt (after text outsides words state (ModuleBegin dashes name extends)) m
      one (inl such) a b agree = passes-after unit state before behind at is m such a ∙ agree m such ∙ sym (passes-after unit state before behind at is m such b)
      one (inr brought) a b agree = extended-new (begun state.modules (spelled source name)) (added-known (IsSteady Open) state.modules.here (spelled source name) None is.modules.0 tt) a b agree (state.standing a) (state.standing b) extends m brought

      by : (meaning_of state.read.place.here.context n ≡ Some m) ⊎ ComesFrom text names (inside state.read.place.here.modules (spelled source name)) extends n m → SteadyAt (after text outsides words state (ModuleBegin dashes name extends)) m
      by (inl earlier) = moved before behind unit state at.split is m (is.here n m earlier)
      by (inr comes) =
          one (from-brought (begun state.modules (spelled source name)) (view-declared (before ++ unit ∷ []) behind (after text outsides words state unit) at-then)
          (offered-named outsides source units offered (before ++ unit ∷ []) (after text outsides words state unit) at-then.same) (inside state.read.place.here.modules (spelled source name)) (nested-view before (unit ∷ behind) state at (spelled source name)) extends n m comes)

  after-steady : (before behind : List UnitTree) (unit : UnitTree) (state : KindState) → IsAt outsides source units before (unit ∷ behind) state → AllSteady state → AllSteady (after text outsides words state unit)
  after-steady before behind (Variables vs) state at is = record {
    here = declared-steady before behind (Variables vs) state at.split is false (variables vs)
        (λ m one. own-open (after text outsides words state (Variables vs)) (variables vs) m (passes-after (Variables vs) state before behind at is) (binders-both (variables vs) (unit-declared before behind (Variables vs) at.split) (variables-are text vs)) one);
    round = round-moved before behind (Variables vs) state at.split is;
    modules = modules-after before behind (Variables vs) state at is;
    passes = passes-after (Variables vs) state before behind at is;
  }
  after-steady before behind (Constants declarations) state at is = record {
    here = declared-steady before behind (Constants declarations) state at.split is false (constants declarations)
        (λ m one. own-open (after text outsides words state (Constants declarations)) (constants declarations) m (passes-after (Constants declarations) state before behind at is) (binders-both (constants declarations) (unit-declared before behind (Constants declarations) at.split) (constants-are text (all_placed declarations))) one);
    round = round-moved before behind (Constants declarations) state at.split is;
    modules = modules-after before behind (Constants declarations) state at is;
    passes = passes-after (Constants declarations) state before behind at is;
  }
  after-steady before behind (OperatorDefinition local x) state at is = record {
    here = declared-steady before behind (OperatorDefinition local x) state at.split is (is_some local) (definition x)
        (λ m one a b agree. values-new text (state.standing a) (state.standing b) (definition x) _ _ m (given-same before behind (OperatorDefinition local x) x state at.split refl is a b agree) (new-of text (definition x) m one));
    round = round-moved before behind (OperatorDefinition local x) state at.split is;
    modules = modules-after before behind (OperatorDefinition local x) state at is;
    passes = passes-after (OperatorDefinition local x) state before behind at is;
  }
  after-steady before behind (FunctionDefinition local x) state at is = record {
    here = declared-steady before behind (FunctionDefinition local x) state at.split is (is_some local) (definition x)
        (λ m one a b agree. values-new text (state.standing a) (state.standing b) (definition x) _ _ m (given-same before behind (FunctionDefinition local x) x state at.split refl is a b agree) (new-of text (definition x) m one));
    round = round-moved before behind (FunctionDefinition local x) state at.split is;
    modules = modules-after before behind (FunctionDefinition local x) state at is;
    passes = passes-after (FunctionDefinition local x) state before behind at is;
  }
  after-steady before behind (ModuleDefinition local x) state at is = record {
    here = declared-steady before behind (ModuleDefinition local x) state at.split is (is_some local) (definition x)
        (λ m one a b agree. values-new text (state.standing a) (state.standing b) (definition x) _ _ m (given-same before behind (ModuleDefinition local x) x state at.split refl is a b agree) (new-of text (definition x) m one));
    round = round-moved before behind (ModuleDefinition local x) state at.split is;
    modules = modules-after before behind (ModuleDefinition local x) state at is;
    passes = passes-after (ModuleDefinition local x) state before behind at is;
  }
  after-steady before behind (Instance local x) state at is = record {
    here = joined-steady before behind (Instance local x) state at.split is (is_some local) (instance_brings text names words state.read x)
        (λ n m there a b agree.
        let found = among-there (instance_brings text names words state.read x) n m there (name_among (instance_brings text names words state.read x) m) refl in
        entries-new (state.standing a) (state.standing b) (instance_brings text names words state.read x) _ _ m found.0 (instance-same before behind local x state at.split is a b agree) found.1);
    round = round-moved before behind (Instance local x) state at.split is;
    modules = modules-after before behind (Instance local x) state at is;
    passes = passes-after (Instance local x) state before behind at is;
  }
  after-steady before behind (ModuleBegin dashes name extends) state at is = record {
    here = begun-steady before behind dashes name extends state at is;
    round = (used-moved before behind (ModuleBegin dashes name extends) state at.split is state.read.place.here is.here, round-moved before behind (ModuleBegin dashes name extends) state at.split is);
    modules = modules-after before behind (ModuleBegin dashes name extends) state at is;
    passes = passes-after (ModuleBegin dashes name extends) state before behind at is;
  }
  after-steady before behind (ModuleEnd closing) state at is =
      let both = by state.read.place.round is.round in
      record { here = both.0; round = both.1; modules = modules-after before behind (ModuleEnd closing) state at is; passes = is.passes }
    where
      by : (round : List Reading) → AllByRecursion (UsedSteady state) round → UsedSteady state (left state.read.known state.read.place.here round).here × AllByRecursion (UsedSteady state) (left state.read.known state.read.place.here round).round
      by [] all = (is.here, tt)
      by (outer ∷ round) all = (all.0, all.1)
  after-steady before behind (Assumption word name x) state at is = record { here = is.here; round = is.round; modules = is.modules; passes = is.passes }
  after-steady before behind (Theorem word name x) state at is = record { here = is.here; round = is.round; modules = is.modules; passes = is.passes }
  after-steady before behind (Line dashes) state at is = record { here = is.here; round = is.round; modules = is.modules; passes = is.passes }

  all-steady : (before mid behind : List UnitTree) (state : KindState) → IsAt outsides source units before (mid ++ behind) state → AllSteady state → AllSteady (read_all text outsides words state mid)
  all-steady before [] behind state at is = is
  all-steady before (unit ∷ mid) behind state at is =
      all-steady (before ++ unit ∷ []) mid behind (after text outsides words state unit) (at-next outsides source units before unit (mid ++ behind) state at) (after-steady before (mid ++ behind) unit state at is)

  first-steady : AllSteady (first outsides source units)
  first-steady = record { here = used; round = tt; modules = ((tt, tt), tt); passes = passes }
    where
      passes : (m : Meaning) → Open m → (parameters : Environment) → (first outsides source units).standing parameters m ≡ parameters m
      passes m (inl none) parameters = (keeps-first declares outsides source units (λ name. (declared name).entries)).passes m none parameters
      passes m (inr bound) parameters = extended-left text outsides words (first_scope text.file) parameters parameters units.extends m (leaf-brought_none text outsides words (first_scope text.file) units.extends m (inr bound))

      same : (b : Bool) (t : List ℕ) → exported (view_under names (cond b (Some None) None) t) ≡ exported (module_under outsides (cond b (Some None) None) t).view
      same true t = refl
      same false t = refl

      one : (m : Meaning) → Open m ⊎ BringOne text outsides words (first_scope text.file) units.extends m → SteadyAt (first outsides source units) m
      one m (inl such) a b agree = passes m such a ∙ agree m such ∙ sym (passes m such b)
      one m (inr brought) a b agree = extended-new (first_scope text.file) (tt, tt) a b agree a b units.extends m brought

      by : (n : Named) (m : Meaning) → (meaning_of built_in n ≡ Some m) ⊎ ComesFrom text names (outermost text.file) units.extends n m → SteadyAt (first outsides source units) m
      by n m (inl earlier) = subst (SteadyAt (first outsides source units)) (sym (built-in-is n m earlier)) (one BuiltIn (inl (inl tt)))
      by n m (inr comes) =
          one m
          (from-brought (first_scope text.file) (view-declared [] units.units (first outsides source units) (at-first outsides source units)) (offered-named outsides source units offered [] (first outsides source units) refl) (outermost text.file)
          (λ t. same (bytes_eq t text.file) t) units.extends n m comes)

      used : UsedSteady (first outsides source units) (first outsides source units).read.place.here
      used n m at = by n m (extends-come text names (outermost text.file) (unread text) units.extends n m refl at)

  -- wherever a unit is read
  pub steady-behind : (before behind : List UnitTree) → units.units ≡ before ++ behind → AllSteady (kinds_behind outsides source units before)
  steady-behind before behind split = all-steady [] before behind (first outsides source units) (record { split = split; same = refl }) first-steady

  -- an INSTANCE without a name of a module without parameters gives what the module does over the symbols here
  pub instance-gives : InstancesGive outsides source units
  instance-gives before behind local l at parts split none parameters path =
      let state : KindState = kinds_behind outsides source units before in
      let is = steady-behind before (Instance local (Node (Form.Instance l) at parts) ∷ behind) split in
      let known = known_at text outsides words state (Instance local (Node (Form.Instance l) at parts)) in
      let modules = named text outsides words state in
      let rights = right_sides text known modules (around text outsides words state parameters) parts in
      (λ i. put_into text known modules (around text outsides words state parameters) l (map (λ (p : Named × Meaning). replaced_by (around text outsides words state parameters) l p (written_for rights p.0)) (none i)) path)
      ∙ named-steady state.modules is.modules.0 (spelled source l) (state.standing parameters) parameters (λ m such. is.passes m such parameters) path

  -- so is the module
  pub module-steady : IsSteady Open (outside outsides source units)
  module-steady a b agree [] = refl
  module-steady a b agree (step ∷ path) = by (entry_of (exports_of (last outsides source units).read.place.here.exports) step.name) refl
    where
      at-end : IsAt outsides source units units.units [] (last outsides source units)
      at-end = record { split = sym (append-nil units.units); same = refl }

      by : (found : Option Meaning) → entry_of (exports_of (last outsides source units).read.place.here.exports) step.name ≡ found → value_in ((last outsides source units).standing a) found step.arguments path ≡ value_in ((last outsides source units).standing b) found step.arguments path
      by None at = refl
      by (Some m) at = λ i.
          (steady-behind units.units [] (sym (append-nil units.units))).here step.name m
          (exported-usable declares outsides source units ones own_names (last outsides source units).read.place.here (usable-here units.units [] (last outsides source units) at-end) step.name m at) a b agree i step.arguments path
