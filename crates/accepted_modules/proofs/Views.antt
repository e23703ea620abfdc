-- Modules that can be named have the same views where names are resolved and where it is told what they stand for.
use Rattle.std.proofs.Common.{◌≡◌, ℕ, Bool, true, false, cond, List, [], ◌∷◌, ◌++◌, Option, Some, None, is_some, refl, sym, ap, subst, ◌∙◌, map}
use Rattle.std.specs.Str.{bytes_eq}
use Rattle.std.proofs.lemmas.List.{map-append}
use Rattle.tla_symbols.specs.declared.lexeme.Lexeme.{Lexeme}
use Rattle.unit_grammar.specs.Units.{UnitTree, Variables, Constants, OperatorDefinition, FunctionDefinition, ModuleDefinition, Instance, Assumption, Theorem, Line, ModuleBegin, ModuleEnd, ModuleUnits}
use Rattle.tla_model.specs.declared.names.Binder.{Binder}
use Rattle.tla_model.specs.Tables.{added, has}
use Rattle.tla_model.specs.Entities.{Text, name_of, variables}
use Rattle.tla_model.specs.Lexemes.{spelled}
use Rattle.tla_model.specs.Scopes.{definition}
use Rattle.module_scope.specs.Environments.{Environment, Scope, begun, ended, inside, meaning}
use Rattle.module_model.specs.Exports.{Exports, ModuleView, exported, exports_by, exports_of}
use Rattle.module_model.specs.Instances.{nested_view}
use Rattle.module_model.specs.Modules as m
use Rattle.module_model.specs.Modules.{Place, Reading, clashes, exports_under, text_of, with_entry}
use Rattle.module_model.specs.NamedModules.{module_under}
use Rattle.module_model.specs.Resolution as r
use Rattle.module_model.specs.Resolution.{module_named, outside_in, words_of}
use Rattle.tree_kinds.specs.Standing.{Outside}
use Rattle.module_kinds.specs.ModuleKinds as k
use Rattle.module_kinds.specs.ModuleKinds.{KindState, views}
use Rattle.readable_laws.specs.Steady.{state_behind}
use Rattle.accepted_modules.specs.States.{HaveViews, kinds_behind}

-- ---- environments

-- the names of a module, if it can be named
abbrev pub view_in : Option Outside → Option ModuleView
view_in None = None
view_in (Some outside) = Some outside.view

-- modules by their names alone
abbrev pub views_in : Environment Outside → Environment ModuleView
views_in modules = map (λ entry. (entry.0, view_in entry.1)) modules

-- what a name means, by names alone
abbrev meant_view : Option (Option Outside) → Option (Option ModuleView)
meant_view None = None
meant_view (Some module_) = Some (view_in module_)

meaning-views : (modules : Environment Outside) (name : List ℕ) → meaning (views_in modules) name ≡ meant_view (meaning modules name)
meaning-views [] name = refl
meaning-views (entry ∷ modules) name = by (bytes_eq name entry.0) (meaning-views modules name)
  where
    by : (b : Bool) → meaning (views_in modules) name ≡ meant_view (meaning modules name) → cond b (Some (view_in entry.1)) (meaning (views_in modules) name) ≡ meant_view (cond b (Some entry.1) (meaning modules name))
    by true rest = refl
    by false rest = rest

added-views : (modules : Environment Outside) (name : List ℕ) (known : Option Outside) → views_in (added bytes_eq modules name known) ≡ added bytes_eq (views_in modules) name (view_in known)
added-views modules name known = by (meaning modules name) (meaning-views modules name)
  where
    by : (o : Option (Option Outside)) → meaning (views_in modules) name ≡ meant_view o → views_in (cond (is_some o) modules (modules ++ (name, known) ∷ [])) ≡ added bytes_eq (views_in modules) name (view_in known)
    by (Some there) same = rw same refl
    by None same = rw same (map-append (λ (entry : List ℕ × Option Outside). (entry.0, view_in entry.1)) modules ((name, known) ∷ []))

-- ---- what a step leaves of a module: its name, and the modules that can be named there

pub record Keeps (old new : Reading) : Type 0 where
  pub name : new.name ≡ old.name
  pub modules : new.modules ≡ old.modules

keeps : (reading : Reading) → Keeps reading reading
keeps reading = record { name = refl; modules = refl }

keeps-on : (a b c : Reading) → Keeps a b → Keeps b c → Keeps a c
keeps-on a b c one two = record { name = two.name ∙ one.name; modules = two.modules ∙ one.modules }

keeps-either : (b : Bool) (reading other : Reading) → Keeps reading other → Keeps reading (cond b reading other)
keeps-either true reading other one = keeps reading
keeps-either false reading other one = one

pub joined-keeps : (local : Bool) (reading : Reading) (entries : Exports) → Keeps reading (m.joined local reading entries)
joined-keeps local reading [] = keeps reading
joined-keeps local reading (entry ∷ rest) =
    let other : Reading = with_entry local reading entry.0 entry.1 in
    let next : Reading = cond (clashes reading.context entry) reading other in
    keeps-on reading next (m.joined local next rest) (keeps-either (clashes reading.context entry) reading other (record { name = refl; modules = refl })) (joined-keeps local next rest)

pub extends-keep : (text : Text) (files : List ℕ → Exports) (reading : Reading) (names : List Lexeme) → Keeps reading (m.extends_all text files reading names)
extends-keep text files reading [] = keeps reading
extends-keep text files reading (l ∷ rest) =
    let next : Reading = m.extended reading (m.brings text files reading l) in
    keeps-on reading next (m.extends_all text files next rest) (joined-keeps false reading (m.brings text files reading l)) (extends-keep text files next rest)

pub declares-keep : (text : Text) (local : Bool) (reading : Reading) (binders : List Binder) → Keeps reading (m.declare_all text local reading binders)
declares-keep text local reading [] = keeps reading
declares-keep text local reading (binder ∷ rest) =
    let next : Reading = m.declare text local reading binder in
    keeps-on reading next (m.declare_all text local next rest) (keeps-either (has reading.context (name_of text.source binder.name)) reading _ (record { name = refl; modules = refl })) (declares-keep text local next rest)

-- ---- states

-- nested modules round a place, the innermost of this name, are those whose units are read
abbrev pub AreRound : List ℕ → List (List ℕ × Environment Outside) → List Reading → Type 0
AreRound name [] [] = Unit {0}
AreRound name (nested ∷ scopes) (outer ∷ round) = (nested.0 ≡ name) × (views_in nested.1 ≡ outer.modules) × AreRound outer.name scopes round
AreRound name _ _ = ⊥

-- the same modules can be named in both
pub record GoTogether (scope : Scope Outside) (place : Place) : Type 0 where
  pub here : views_in scope.here ≡ place.here.modules
  pub round : AreRound place.here.name scope.round place.round

-- at a state
abbrev pub AreTogether : KindState → Type 0
AreTogether state = GoTogether state.modules state.read.place

-- a unit that changes no modules that can be named
still : (scope : Scope Outside) (here next : Reading) (round : List Reading) → GoTogether scope (record { here = here; round = round }) → Keeps here next → GoTogether scope (record { here = next; round = round })
still scope here next round is kept = record {
  here = is.here ∙ sym kept.modules;
  round = subst (λ name. AreRound name scope.round round) (sym kept.name) is.round;
}

-- behind a nested module
left : (state : KindState) (scopes : List (List ℕ × Environment Outside)) (round : List Reading) → views_in state.modules.here ≡ state.read.place.here.modules → AreRound state.read.place.here.name scopes round
    → GoTogether (ended (k.nested_outside state round) state.modules.here scopes) (m.left state.read.known state.read.place.here round)
left state [] [] here round = record { here = here; round = tt }
left state [] (outer ∷ rest) here round = absurd round
left state (nested ∷ scopes) [] here round = absurd round
left state (nested ∷ scopes) (outer ∷ rest) here round = record {
  here =
      added-views nested.1 nested.0 (Some (k.nested_outside state (outer ∷ rest)))
      ∙ (λ i. added bytes_eq (round.1 i) (round.0 i) (Some (nested_view state.read.known outer.context (exports_of state.read.place.here.exports))));
  round = round.2;
}

module _ (text : Text) (files : List ℕ → Outside) (words : List ℕ) where
  pub after-together : (state : KindState) (unit : UnitTree) → AreTogether state → AreTogether (k.after text files words state unit)
  after-together state (Variables names) is = still state.modules state.read.place.here _ state.read.place.round is (declares-keep text false state.read.place.here (variables names))
  after-together state (Constants declarations) is = still state.modules state.read.place.here _ state.read.place.round is (declares-keep text false state.read.place.here (m.constants declarations))
  after-together state (OperatorDefinition local x) is = still state.modules state.read.place.here _ state.read.place.round is (declares-keep text (is_some local) state.read.place.here (definition x))
  after-together state (FunctionDefinition local x) is = still state.modules state.read.place.here _ state.read.place.round is (declares-keep text (is_some local) state.read.place.here (definition x))
  after-together state (ModuleDefinition local x) is = still state.modules state.read.place.here _ state.read.place.round is (declares-keep text (is_some local) state.read.place.here (definition x))
  after-together state (Instance local x) is =
      still state.modules state.read.place.here _ state.read.place.round is (joined-keeps (is_some local) state.read.place.here (r.instance_brings text (views text files words) words state.read x))
  after-together state (Assumption word name x) is = is
  after-together state (Theorem word name x) is = is
  after-together state (Line dashes) is = is
  after-together state (ModuleBegin dashes name extends) is =
      let title : List ℕ = spelled text.source name in
      let nested : Reading = m.nested text state.read.place.here name in
      let kept : Keeps nested (m.extends_all text (exports_by (views text files words)) nested extends) = extends-keep text (exports_by (views text files words)) nested extends in
      record {
        here = added-views state.modules.here title None ∙ (ap (λ modules. inside modules title) is.here ∙ sym kept.modules);
        round = (sym kept.name, is.here, is.round);
      }
  after-together state (ModuleEnd closing) is = left state state.modules.round state.read.place.round is.here is.round

  all-together : (state : KindState) (units : List UnitTree) → AreTogether state → AreTogether (k.read_all text files words state units)
  all-together state [] is = is
  all-together state (unit ∷ units) is = all-together (k.after text files words state unit) units (after-together state unit is)

  -- what is read of names is read so without what these stand for
  pub read-same : (state : KindState) (units : List UnitTree) → (k.read_all text files words state units).read ≡ r.read_all text (views text files words) words state.read units
  read-same state [] = refl
  read-same state (unit ∷ units) = read-same (k.after text files words state unit) units

  -- the module of a name has the view of that name
  named-view : (modules : Environment Outside) (name : List ℕ) → (k.module_under files (meaning modules name) name).view ≡ module_under (views text files words) (meaning (views_in modules) name) name
  named-view modules name = by (meaning modules name) (meaning-views modules name)
    where
      by : (o : Option (Option Outside)) → meaning (views_in modules) name ≡ meant_view o → (k.module_under files o name).view ≡ module_under (views text files words) (meaning (views_in modules) name) name
      by None same = rw same refl
      by (Some None) same = rw same refl
      by (Some (Some outside)) same = rw same refl

  -- so has what it brings to those that extend it
  brought-view : (modules : Environment Outside) (name : List ℕ) → exports_under (exports_by (views text files words)) (meaning (views_in modules) name) name ≡ exported (k.module_under files (meaning modules name) name).view
  brought-view modules name = by (meaning modules name) (meaning-views modules name)
    where
      by : (o : Option (Option Outside)) → meaning (views_in modules) name ≡ meant_view o → exports_under (exports_by (views text files words)) (meaning (views_in modules) name) name ≡ exported (k.module_under files o name).view
      by None same = rw same refl
      by (Some None) same = rw same refl
      by (Some (Some outside)) same = rw same refl

  -- so at a state
  pub state-view : (state : KindState) → AreTogether state → (name : List ℕ) → (k.named text files words state name).view ≡ module_named text (views text files words) words state.read name
  state-view state is name = named-view state.modules.here name ∙ ap (λ modules. module_under (views text files words) (meaning modules name) name) is.here

-- ---- modules

module _ (outsides : List ℕ → Outside) (source : List ℕ) (units : ModuleUnits) where
  pub first-together : AreTogether (k.first outsides source units)
  first-together =
      let text : Text = text_of source units in
      let files : List ℕ → Exports = exports_by (views text outsides (words_of units)) in
      record { here = sym (extends-keep text files (m.unread text) units.extends).modules; round = tt }

  pub behind-together : (before : List UnitTree) → AreTogether (kinds_behind outsides source units before)
  behind-together before = all-together (text_of source units) outsides (words_of units) (k.first outsides source units) before first-together

  pub own-read : (before : List UnitTree) → (kinds_behind outsides source units before).read ≡ state_behind (views (text_of source units) outsides (words_of units)) source units before
  own-read before = read-same (text_of source units) outsides (words_of units) (k.first outsides source units) before

  own-named : (before : List UnitTree) (name : List ℕ)
      → (k.named (text_of source units) outsides (words_of units) (kinds_behind outsides source units before) name).view
      ≡ module_named (text_of source units) (views (text_of source units) outsides (words_of units)) (words_of units) (kinds_behind outsides source units before).read name
  own-named before name = state-view (text_of source units) outsides (words_of units) (kinds_behind outsides source units before) (behind-together before) name

  pub nested-same : (before : List UnitTree) (title name : List ℕ)
      → exports_under (exports_by (views (text_of source units) outsides (words_of units))) (meaning (inside (kinds_behind outsides source units before).read.place.here.modules title) name) name
      ≡ exported (k.named_in (text_of source units) outsides (words_of units) (begun (kinds_behind outsides source units before).modules title) name).view
  nested-same before title name =
      let state : KindState = kinds_behind outsides source units before in
      let modules : Environment Outside = inside state.modules.here title in
      ap (λ modules. exports_under (exports_by (views (text_of source units) outsides (words_of units))) (meaning modules name) name)
      (ap (λ modules. inside modules title) (sym (behind-together before).here) ∙ sym (added-views state.modules.here title None))
      ∙ brought-view (text_of source units) outsides (words_of units) modules name

module _ (outsides : List ℕ → Outside) (files : List ℕ → ModuleView) (source : List ℕ) (units : ModuleUnits) (same : HaveViews outsides files) where
  pub all-same : views (text_of source units) outsides (words_of units) ≡ files
  all-same = λ i name. same name i

  pub states-same : (before : List UnitTree) → (kinds_behind outsides source units before).read ≡ state_behind files source units before
  states-same before = own-read outsides source units before ∙ ap (λ read. state_behind read source units before) all-same

  pub named-same : (before : List UnitTree) (name : List ℕ)
      → (k.named (text_of source units) outsides (words_of units) (kinds_behind outsides source units before) name).view
      ≡ module_named (text_of source units) files (words_of units) (state_behind files source units before) name
  named-same before name =
      own-named outsides source units before name
      ∙ (λ i. module_named (text_of source units) (all-same i) (words_of units) (states-same before i) name)

  pub outside-same : (k.outside outsides source units).view ≡ outside_in files source units
  outside-same = ap (λ read. outside_in read source units) all-same
