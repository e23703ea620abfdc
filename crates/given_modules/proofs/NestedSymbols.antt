-- What nested modules are to those that extend them: their symbols are among what they export, and all that they export is offered.
use Rattle.std.proofs.Common.{◌≡◌, ℕ, List, [], ◌∷◌, Option, Some, None, refl, sym, subst}
use Rattle.std.specs.List.{AllByRecursion}
use Rattle.tla_symbols.specs.declared.lexeme.Lexeme.{Lexeme}
use Rattle.unit_grammar.specs.Units.{UnitTree, Variables, Constants, OperatorDefinition, FunctionDefinition, ModuleDefinition, Instance, Assumption, Theorem, Line, ModuleBegin, ModuleEnd, ModuleUnits}
use Rattle.tla_model.specs.declared.ids.UnitId.{UnitId}
use Rattle.tla_model.specs.declared.names.Meaning.TheVariants.{BuiltIn, Declared}
use Rattle.tla_model.specs.Entities.{Meaning, Text}
use Rattle.tla_model.specs.Lexemes.{spelled}
use Rattle.tla_model.specs.Tables.{Named}
use Rattle.module_scope.specs.Environments.{Environment, Scope, ended}
use Rattle.module_model.specs.Exports.{ModuleView, exported, exports_of, is_meant, parameters_in, stands_for_parameter}
use Rattle.module_model.specs.Instances.{own_parameters, through}
use Rattle.module_model.specs.Modules.{Reading, text_of}
use Rattle.module_model.specs.Resolution.{first as first_read, words_of}
use Rattle.tree_kinds.specs.Standing.{Outside}
use Rattle.module_kinds.specs.ModuleKinds.{KindState, after, first, module_under, named_in, nested_outside, read_all, views}
use Rattle.flat_kinds.specs.Declarations.{OfAllKnown, OfKnown}
use Rattle.accepted_modules.specs.Named.{AllNamed}
use Rattle.accepted_modules.specs.Offered.{IsOffered}
use Rattle.accepted_modules.specs.States.{kinds_behind}
use Rattle.accepted_modules.proofs.Holding.{AreOwn, HoldsPlace, added-known, all-hold, first-holds, found-known, module-says, nothing-holds}
use Rattle.accepted_modules.proofs.Symbols.{IsSymbol, units-offered}
use Rattle.accepted_modules.proofs.Tables.{IsThere, there-passed}
use Rattle.accepted_modules.proofs.Views.{AreTogether, behind-together, own-read, state-view}
use Rattle.given_modules.proofs.NestedGiven.{all-there, own-there}

-- ---- symbols

-- the symbols of a module are among what it exports
abbrev pub HasOwn : Outside → Type 0
HasOwn one = AllByRecursion (λ (entry : Named × Meaning). IsThere (exported one.view) entry.0 entry.1 × IsSymbol entry.1) one.view.parameters

-- of a module of a file
pub all-own : (one : Outside) → one.view.parameters ≡ parameters_in (exported one.view) → HasOwn one
all-own one same =
    subst (AllByRecursion (λ (entry : Named × Meaning). IsThere (exported one.view) entry.0 entry.1 × IsSymbol entry.1)) (sym same)
    (all-there (λ entry. IsThere (exported one.view) entry.0 entry.1 × IsSymbol entry.1) (parameters_in (exported one.view))
    (λ name m there. there-passed (λ (entry : Named × Meaning). is_meant stands_for_parameter entry.1) (exported one.view) name m there))

-- of a nested one
nested-own : (state : KindState) (round : List Reading) → HasOwn (nested_outside state round)
nested-own state [] = tt
nested-own state (outer ∷ round) =
    all-there (λ entry. IsThere (exports_of state.read.place.here.exports) entry.0 entry.1 × IsSymbol entry.1) (own_parameters outer.context (exports_of state.read.place.here.exports))
    (λ name m there. let own = own-there outer.context (exports_of state.read.place.here.exports) name m there in (own.0, own.1))

-- ---- modules that can be named

-- this is so of each that can be named, and of those that can be named round a nested module
abbrev pub AllHave : (Outside → Type 0) → Scope Outside → Type 0
AllHave says scope = OfAllKnown says scope.here × AllByRecursion (λ (nested : List ℕ × Environment Outside). OfAllKnown says nested.1) scope.round

module _ (says : Outside → Type 0) where
  ended-have : (known : Outside) (here : Environment Outside) (round : List (List ℕ × Environment Outside)) → says known → OfAllKnown says here → AllByRecursion (λ (nested : List ℕ × Environment Outside). OfAllKnown says nested.1) round → AllHave says (ended known here round)
  ended-have known here [] one all rest = (all, tt)
  ended-have known here (nested ∷ round) one all rest = (added-known says nested.1 nested.0 (Some known) rest.0 one, rest.1)

  module _ (text : Text) (outsides : List ℕ → Outside) (words : List ℕ) where
    -- behind a unit, where it is so of a nested module that ends
    pub have-after : (state : KindState) (unit : UnitTree) → ((closing : Lexeme) → unit ≡ ModuleEnd closing → says (nested_outside state state.read.place.round)) → AllHave says state.modules → AllHave says (after text outsides words state unit).modules
    have-after state (ModuleBegin dashes name extends) one all = (added-known says state.modules.here (spelled text.source name) None all.0 tt, (all.0, all.1))
    have-after state (ModuleEnd closing) one all = ended-have (nested_outside state state.read.place.round) state.modules.here state.modules.round (one closing refl) all.0 all.1
    have-after state (Variables names) one all = all
    have-after state (Constants declarations) one all = all
    have-after state (OperatorDefinition local x) one all = all
    have-after state (FunctionDefinition local x) one all = all
    have-after state (ModuleDefinition local x) one all = all
    have-after state (Instance local x) one all = all
    have-after state (Assumption word name x) one all = all
    have-after state (Theorem word name x) one all = all
    have-after state (Line dashes) one all = all

own-all : (text : Text) (outsides : List ℕ → Outside) (words : List ℕ) (state : KindState) (units : List UnitTree) → AllHave HasOwn state.modules → AllHave HasOwn (read_all text outsides words state units).modules
own-all text outsides words state [] all = all
own-all text outsides words state (unit ∷ units) all =
    own-all text outsides words (after text outsides words state unit) units (have-after HasOwn text outsides words state unit (λ closing e. nested-own state state.read.place.round) all)

module _ (outsides : List ℕ → Outside) (source : List ℕ) (units : ModuleUnits) where
  abbrev text : Text
  text = text_of source units

  abbrev words : List ℕ
  words = words_of units

  abbrev names : List ℕ → ModuleView
  names = views text outsides words

  -- wherever a unit is read
  pub own-behind : (before : List UnitTree) → AllHave HasOwn (kinds_behind outsides source units before).modules
  own-behind before = own-all text outsides words (first outsides source units) before ((tt, tt), tt)

  -- the module of a name
  pub own-named : ((name : List ℕ) → (outsides name).view.parameters ≡ parameters_in (exported (outsides name).view)) → (scope : Scope Outside) → AllHave HasOwn scope → (title : List ℕ) → HasOwn (named_in text outsides words scope title)
  own-named files scope all title =
      found-known HasOwn scope.here title (λ (o : Option (Option Outside)). HasOwn (module_under outsides o title)) (all-own (outsides title) (files title)) some all.0
    where
      some : (found : Option Outside) → OfKnown HasOwn found → HasOwn (module_under outsides (Some found) title)
      some None one = tt
      some (Some nested) one = one

  -- ---- what is offered

  passes-offered : (unit : UnitId) (name : Named) (m : Meaning) → IsOffered name m → IsOffered name (through unit m)
  passes-offered unit name BuiltIn is = is
  passes-offered unit name (Declared e callee) is = is

  -- what holds of all names of modules holds of those of a module that can be named
  pub all-named : (P : Named → Meaning → Type 0) → ((unit : UnitId) (name : Named) (m : Meaning) → P name m → P name (through unit m)) → ((name : List ℕ) → AllNamed P (outsides name).view) → (before : List UnitTree) → AreOwn P text before
      → (state : KindState) → state ≡ kinds_behind outsides source units before → (title : List ℕ) → AllNamed P (named_in text outsides words state.modules title).view
  all-named P passes given before own state same title =
      let together : AreTogether state = subst AreTogether (sym same) (behind-together outsides source units before) in
      let behind : HoldsPlace P (kinds_behind outsides source units before).read.place = subst (HoldsPlace P) (λ i. (sym (own-read outsides source units before) i).place)
      (all-hold P text names words passes given (first_read names source units) before own (first-holds P names source units passes given)) in
      let holds : HoldsPlace P state.read.place = subst (λ (s : KindState). HoldsPlace P s.read.place) (sym same) behind in
      subst (AllNamed P) (sym (state-view text outsides words state together title))
      (module-says (AllNamed P) names state.read.place.here.modules title (nothing-holds P) given holds.0.modules)

  -- all that modules export is offered that can be named
  pub offered-named : ((name : List ℕ) → AllNamed IsOffered (outsides name).view) → (before : List UnitTree) (state : KindState) → state ≡ kinds_behind outsides source units before → (title : List ℕ) → AllNamed IsOffered (named_in text outsides words state.modules title).view
  offered-named given before state same title = all-named IsOffered passes-offered given before (units-offered text before) state same title
