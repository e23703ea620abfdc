-- What modules bring comes from them, wherever a unit is read.
use Rattle.std.proofs.Common.{◌≡◌, ℕ, List, [], ◌∷◌, Option, false, sym, subst}
use Rattle.std.specs.List.{AllByRecursion}
use Rattle.std.specs.Str.{bytes_eq}
use Rattle.tla_symbols.specs.declared.lexeme.Lexeme.{Lexeme}
use Rattle.tla_symbols.specs.declared.lexeme.Span.{Span}
use Rattle.tla_tree.specs.declared.form.Form.TheVariants as Form
use Rattle.tla_tree.specs.Syntax.{Tree, Trees, Node}
use Rattle.unit_grammar.specs.Units.{UnitTree, Instance, ModuleBegin, ModuleUnits}
use Rattle.tla_model.specs.declared.ids.UnitId.{UnitId}
use Rattle.tla_model.specs.declared.names.Binder.{Binder}
use Rattle.tla_model.specs.declared.names.Meaning.TheVariants.{BuiltIn, Declared}
use Rattle.tla_model.specs.Tables.{Named}
use Rattle.tla_model.specs.Entities.{Meaning, Text}
use Rattle.tla_model.specs.Lexemes.{spelled}
use Rattle.module_scope.specs.Environments.{begun, first as first_scope}
use Rattle.module_model.specs.Exports.{Exports, Known, ModuleView, exported, instantiable}
use Rattle.module_model.specs.Instances.{through}
use Rattle.module_model.specs.Modules.{text_of}
use Rattle.module_model.specs.NamedModules.{unit_of}
use Rattle.module_model.specs.Resolution.{ReadState, after, first, instance_brings, last, module_named, outside_in, read_all, words_of}
use Rattle.model_laws.specs.Settled.{IsSettled}
use Rattle.model_laws.proofs.Settling.{settled-after, settled-first}
use Rattle.tree_kinds.specs.Standing.{Outside}
use Rattle.module_kinds.specs.ModuleKinds as k
use Rattle.module_kinds.specs.ModuleKinds.{KindState, views}
use Rattle.flat_kinds.specs.Declarations.{AreNamesDeclared, AreUnitsDeclared, Declarations, IsDeclared, declared_names}
use Rattle.flat_kinds.specs.Readings.{extended_entries}
use Rattle.module_meanings.specs.Premises.{AllCome}
use Rattle.readable_laws.specs.Steady.{state_behind}
use Rattle.accepted_modules.specs.Behind.{Behinds, IsForeign, IsForeignView, IsGivenView, IsViewBehind, with_own}
use Rattle.accepted_modules.specs.Named.{AllNamed}
use Rattle.accepted_modules.specs.States.{kinds_behind}
use Rattle.accepted_modules.proofs.Behind.{IsRight, after-right, first-right, right-all, table-behind, view-behind, view-foreign}
use Rattle.accepted_modules.proofs.Coming.{Comes, all-come, brought-comes, kept-comes}
use Rattle.accepted_modules.proofs.Holding.{AreOwn, HoldsPlace, Own, after-holds, first-holds, module-says, nothing-holds, outside-holds}
use Rattle.accepted_modules.proofs.Telling.{AreAllTold, IsWithin, after-told, after-within, first-told, within-on}
use Rattle.accepted_modules.proofs.Views.{AreTogether, after-together, behind-together, first-together, own-read, state-view}

module _ (declares : Declarations) (behinds : Behinds) where
  -- a name is what its declaration is
  abbrev P : Named → Meaning → Type 0
  P = IsDeclared declares

  passes : (unit : UnitId) (name : Named) (m : Meaning) → P name m → P name (through unit m)
  passes unit name BuiltIn is = tt
  passes unit name (Declared e callee) is = is

  names-own : (text : Text) (binders : List Binder) → AreNamesDeclared declares text binders → AllByRecursion (Own P text) binders
  names-own text [] all = tt
  names-own text (binder ∷ rest) all = ((λ none. all.0), names-own text rest all.1)

  units-own : (text : Text) (units : List UnitTree) → AreUnitsDeclared declares text units → AreOwn P text units
  units-own text [] all = tt
  units-own text (unit ∷ rest) all = (names-own text (declared_names unit) all.0, units-own text rest all.1)

  -- what is so wherever a unit is read
  record IsSound (text : Text) (state : ReadState) : Type 0 where
    holds : HoldsPlace P state.place
    told : AreAllTold state
    settled : IsSettled state
    right : (final : Known) → IsWithin state.known final → IsRight text final behinds state

  module _ (text : Text) (files : List ℕ → ModuleView) (words : List ℕ) (given : (name : List ℕ) → IsGivenView declares behinds (files name)) (foreign : (name : List ℕ) → IsForeignView text.file (files name)) where
    hold : (name : List ℕ) → AllNamed P (files name)
    hold name = (given name).names

    files-behind : (final : Known) (name : List ℕ) → IsViewBehind (with_own text.file final behinds) (files name)
    files-behind final name = view-foreign text.file final behinds (files name) (given name).behind (foreign name)

    after-sound : (state : ReadState) (unit : UnitTree) → AreNamesDeclared declares text (declared_names unit) → IsSound text state → IsSound text (after text files words state unit)
    after-sound state unit names is = record {
      holds = after-holds P text files words passes hold state unit (names-own text (declared_names unit) names) is.holds;
      told = after-told text files words state unit is.told;
      settled = settled-after text files words state unit is.settled;
      right = λ final within.
          after-right text final behinds files words (files-behind final) P state unit is.settled is.holds within
          (is.right final (within-on state.known (after text files words state unit).known final (after-within text files words state unit) within));
    }

    all-sound : (state : ReadState) (units : List UnitTree) → AreUnitsDeclared declares text units → IsSound text state → IsSound text (read_all text files words state units)
    all-sound state [] names is = is
    all-sound state (unit ∷ units) names is = all-sound (after text files words state unit) units names.1 (after-sound state unit names.0 is)

    -- names come from a module that could be named before a unit, or behind it
    module-come : (before state : ReadState) (name : List ℕ) (entries : Exports) → IsSound text before → IsSound text state → IsWithin before.known state.known → AllByRecursion (Comes (module_named text files words before name)) entries
        → AllCome state.known state.place.here.context (module_named text files words before name) entries
    module-come before state name entries was is within comes =
        let final : Known = state.known in
        let right : IsRight text final behinds state = is.right final (λ decl held at. at) in
        let view : AllNamed P (module_named text files words before name) = module-says (AllNamed P) files before.place.here.modules name (nothing-holds P) hold was.holds.0.modules in
        all-come declares (with_own text.file final behinds) final state.place.here.context is.holds.0.context is.told.here (right-all text.file final behinds final right.known (λ decl held at. at))
        (module_named text files words before name) entries view.entries (view-behind text final behinds files words (files-behind final) before.place.here name (was.right final within).here) view.once comes

    instance-come : (state : ReadState) (local : Option Lexeme) (x : Tree) (l : Lexeme) (at : Span) (rights : Trees) → IsSound text state → x ≡ Node (Form.Instance l) at rights
        → AllCome (after text files words state (Instance local x)).known (after text files words state (Instance local x)).place.here.context (module_named text files words state (spelled text.source l)) (instance_brings text files words state x)
    instance-come state local x l at rights is same =
        let next : ReadState = after text files words state (Instance local x) in
        module-come state next (spelled text.source l) (instance_brings text files words state x) is (after-sound state (Instance local x) tt is) (after-within text files words state (Instance local x))
        (subst (λ tree. AllByRecursion (Comes (module_named text files words state (spelled text.source l))) (instance_brings text files words state tree)) (sym same) (brought-comes (module_named text files words state (spelled text.source l)) (unit_of text words l)))

    extends-come : (state : ReadState) (l : Lexeme) → IsSound text state
        → AllCome state.known state.place.here.context (module_named text files words state (spelled text.source l)) (instantiable (exported (module_named text files words state (spelled text.source l))))
    extends-come state l is =
        let view : ModuleView = module_named text files words state (spelled text.source l) in
        module-come state state (spelled text.source l) (instantiable (exported view)) is is (λ decl held at. at) (kept-comes view)

  module _ (files : List ℕ → ModuleView) (source : List ℕ) (units : ModuleUnits) (given : (name : List ℕ) → IsGivenView declares behinds (files name)) (foreign : (name : List ℕ) → IsForeignView (text_of source units).file (files name)) where
    first-sound : IsSound (text_of source units) (first files source units)
    first-sound = record {
      holds = first-holds P files source units passes (hold (text_of source units) files (words_of units) given foreign);
      told = first-told files source units;
      settled = settled-first files source units;
      right = λ final within. first-right files source units final behinds (files-behind (text_of source units) files (words_of units) given foreign final);
    }

    behind-sound : (before : List UnitTree) → AreUnitsDeclared declares (text_of source units) before → IsSound (text_of source units) (state_behind files source units before)
    behind-sound before names = all-sound (text_of source units) files (words_of units) given foreign (first files source units) before names first-sound

    view-given : AreUnitsDeclared declares (text_of source units) units.units → IsGivenView declares (with_own (text_of source units).file (last files source units).known behinds) (outside_in files source units)
    view-given names =
        let text : Text = text_of source units in
        let state : ReadState = last files source units in
        let is : IsSound text state = behind-sound units.units names in
        let view : AllNamed P (outside_in files source units) = outside-holds P files source units passes (hold text files (words_of units) given foreign) (units-own text units.units names) in
        record {
          names = view;
          behind = table-behind text.file state.known behinds state.known state.place.here (is.right state.known (λ decl held at. at)).known (λ decl held at. at) is.settled.here is.holds.0.once;
        }

  -- ---- by what stands for names

  module _ (outsides : List ℕ → Outside) (source : List ℕ) (units : ModuleUnits) (given : (name : List ℕ) → IsGivenView declares behinds (outsides name).view) (foreign : (name : List ℕ) → IsForeignView (text_of source units).file (outsides name).view)
      (names : AreUnitsDeclared declares (text_of source units) units.units) where
    abbrev here : Text
    here = text_of source units

    abbrev own_views : List ℕ → ModuleView
    own_views = views (text_of source units) outsides (words_of units)

    -- what comes behind modules that are extended at a state
    extended-come : (state : KindState) (l : Lexeme) → AreTogether state → IsSound here state.read
        → AllCome state.read.known state.read.place.here.context (k.named here outsides (words_of units) state (spelled here.source l)).view (instantiable (exported (k.named here outsides (words_of units) state (spelled here.source l)).view))
    extended-come state l together is =
        subst (λ view. AllCome state.read.known state.read.place.here.context view (instantiable (exported view))) (sym (state-view here outsides (words_of units) state together (spelled here.source l)))
        (extends-come here own_views (words_of units) given foreign state.read l is)

    each-extended : (state : KindState) (ls : List Lexeme) → AreTogether state → IsSound here state.read
        → AllByRecursion (λ l. AllCome state.read.known state.read.place.here.context (k.named here outsides (words_of units) state (spelled here.source l)).view (instantiable (exported (k.named here outsides (words_of units) state (spelled here.source l)).view))) ls
    each-extended state [] together is = tt
    each-extended state (l ∷ rest) together is = (extended-come state l together is, each-extended state rest together is)

    pub first-come : AllByRecursion (λ l. AllCome (k.first outsides source units).read.known (k.first outsides source units).read.place.here.context (k.named_in here outsides (words_of units) (first_scope here.file) (spelled here.source l)).view (extended_entries here outsides (words_of units) (first_scope here.file) l)) units.extends
    first-come = each-extended (k.first outsides source units) units.extends (first-together outsides source units) (first-sound own_views source units given foreign)

    kinds-sound : (before : List UnitTree) → AreUnitsDeclared declares here before → IsSound here (kinds_behind outsides source units before).read
    kinds-sound before own_names = subst (IsSound here) (sym (own-read outsides source units before)) (behind-sound own_views source units given foreign before own_names)

    pub nested-come : (before : List UnitTree) (dashes name : Lexeme) (extends : List Lexeme) → AreUnitsDeclared declares here before
        → AllByRecursion
        (λ l.
        AllCome (k.after here outsides (words_of units) (kinds_behind outsides source units before) (ModuleBegin dashes name extends)).read.known
        (k.after here outsides (words_of units) (kinds_behind outsides source units before) (ModuleBegin dashes name extends)).read.place.here.context
        (k.named_in here outsides (words_of units) (begun (kinds_behind outsides source units before).modules (spelled here.source name)) (spelled here.source l)).view
        (extended_entries here outsides (words_of units) (begun (kinds_behind outsides source units before).modules (spelled here.source name)) l)) extends
    nested-come before dashes name extends own_names =
        let state : KindState = kinds_behind outsides source units before in
        each-extended (k.after here outsides (words_of units) state (ModuleBegin dashes name extends)) extends
        (after-together here outsides (words_of units) state (ModuleBegin dashes name extends) (behind-together outsides source units before))
        (after-sound here own_views (words_of units) given foreign state.read (ModuleBegin dashes name extends) tt (kinds-sound before own_names))

    pub unit-come : (before : List UnitTree) (local : Option Lexeme) (x : Tree) (l : Lexeme) (at : Span) (rights : Trees) → AreUnitsDeclared declares here before → x ≡ Node (Form.Instance l) at rights
        → AllCome (k.after here outsides (words_of units) (kinds_behind outsides source units before) (Instance local x)).read.known
        (k.after here outsides (words_of units) (kinds_behind outsides source units before) (Instance local x)).read.place.here.context
        (k.named here outsides (words_of units) (kinds_behind outsides source units before) (spelled here.source l)).view
        (instance_brings here (views here outsides (words_of units)) (words_of units) (kinds_behind outsides source units before).read x)
    unit-come before local x l at rights own_names same =
        let state : KindState = kinds_behind outsides source units before in
        let next : KindState = k.after here outsides (words_of units) state (Instance local x) in
        subst (λ view. AllCome next.read.known next.read.place.here.context view (instance_brings here own_views (words_of units) state.read x)) (sym (state-view here outsides (words_of units) state (behind-together outsides source units before) (spelled here.source l)))
        (instance-come here own_views (words_of units) given foreign state.read local x l at rights (kinds-sound before own_names) same)

    pub outside-given : IsGivenView declares (with_own here.file (k.last outsides source units).read.known behinds) (k.outside outsides source units).view
    outside-given =
        subst (λ state. IsGivenView declares (with_own here.file state.known behinds) (outside_in own_views source units)) (sym (own-read outsides source units units.units))
        (view-given own_views source units given foreign names)

-- what the module exports is declared in it, or in a module that it names
pub outside-foreign : (outsides : List ℕ → Outside) (source : List ℕ) (units : ModuleUnits) (title : List ℕ) → ((name : List ℕ) → IsForeignView title (outsides name).view)
    → bytes_eq (text_of source units).file title ≡ false → IsForeignView title (k.outside outsides source units).view
outside-foreign outsides source units title foreign other =
    outside-holds (IsForeign title) (views (text_of source units) outsides (words_of units)) source units foreign-passes foreign (units-other (text_of source units) units.units other)
  where
    foreign-passes : (unit : UnitId) (name : Named) (m : Meaning) → IsForeign title name m → IsForeign title name (through unit m)
    foreign-passes unit name BuiltIn is = tt
    foreign-passes unit name (Declared e callee) is = is

    names-other : (text : Text) (binders : List Binder) → bytes_eq text.file title ≡ false → AllByRecursion (Own (IsForeign title) text) binders
    names-other text [] other = tt
    names-other text (binder ∷ rest) other = ((λ none. other), names-other text rest other)

    units-other : (text : Text) (units : List UnitTree) → bytes_eq text.file title ≡ false → AreOwn (IsForeign title) text units
    units-other text [] other = tt
    units-other text (unit ∷ rest) other = (names-other text (declared_names unit) other, units-other text rest other)
