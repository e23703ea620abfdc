-- Something is known behind each instance that can be used, and what is known stays.
use Rattle.std.proofs.Common.{◌≡◌, ℕ, Bool, false, List, [], ◌∷◌, Some, is_some, sym, ap, subst}
use Rattle.std.specs.Option.{option_or}
use Rattle.std.specs.List.{AllByRecursion}
use Rattle.list_laws.proofs.Lists.{all-weaker}
use Rattle.tla_symbols.specs.declared.lexeme.Lexeme.{Lexeme}
use Rattle.unit_grammar.specs.Units.{UnitTree, Variables, Constants, OperatorDefinition, FunctionDefinition, ModuleDefinition, Instance, Assumption, Theorem, Line, ModuleBegin, ModuleEnd, ModuleUnits}
use Rattle.tla_model.specs.declared.ids.DeclId.{DeclId}
use Rattle.tla_model.specs.declared.names.Binder.{Binder}
use Rattle.tla_model.specs.Tables.{Named}
use Rattle.tla_model.specs.Entities.{Meaning, Text, all_placed, variables}
use Rattle.tla_model.specs.Contexts.{Context, built_in}
use Rattle.tla_model.specs.Lexemes.{spelled}
use Rattle.tla_model.specs.Scopes.{definition}
use Rattle.module_scope.specs.Environments.{Environment}
use Rattle.module_model.specs.Exports.{Behind, Exports, Known, ModuleView, and_known, exported, exports_by, none_known}
use Rattle.module_model.specs.Instances.{all_named_instances, unit_trees}
use Rattle.module_model.specs.Modules.{Reading, constants, declare_all, extends_all, left, nested, text_of, unread}
use Rattle.module_model.specs.NamedModules.{known_from_all, known_named, module_at}
use Rattle.module_model.specs.Resolution.{ReadState, after, first, inside_nested, instance_brings, known_brought, known_in, module_named, read_all, read_on, words_of}
use Rattle.model_laws.proofs.Settling.{Binds, Brought, IsTold, all-told-beside, told-constants, told-defined, told-from-all, told-instance, told-more, told-variables}
use Rattle.accepted_modules.proofs.Contexts.{HoldsOf, built-in-is, declared-holds, extends-hold, joined-holds}
use Rattle.accepted_modules.proofs.Views.{extends-keep}

-- ---- what is known stays

-- what the first knows the second does too
abbrev pub IsWithin : Known → Known → Type 0
IsWithin less more = (decl : DeclId) (held : Behind) → less decl ≡ Some held → more decl ≡ Some held

pub within-and : (known more : Known) → IsWithin known (and_known known more)
within-and known more decl held at = ap (λ o. option_or o (more decl)) at

pub within-on : (a b c : Known) → IsWithin a b → IsWithin b c → IsWithin a c
within-on a b c one two decl held at = two decl held (one decl held at)

module _ (text : Text) (files : List ℕ → ModuleView) (words : List ℕ) where
  pub unit-within : (state : ReadState) (unit : UnitTree) → IsWithin state.known (known_in text files words state unit)
  unit-within state unit = within-and state.known (known_named text (module_named text files words state) (all_named_instances (unit_trees unit)))

  pub after-within : (state : ReadState) (unit : UnitTree) → IsWithin state.known (after text files words state unit).known
  after-within state (Instance local x) =
      within-on state.known (known_in text files words state (Instance local x)) (and_known (known_in text files words state (Instance local x)) (known_brought text files words state x))
      (unit-within state (Instance local x)) (within-and (known_in text files words state (Instance local x)) (known_brought text files words state x))
  after-within state (ModuleBegin dashes name extends) = within-and state.known (known_from_all text (module_named text files words (inside_nested text files words state name extends)) extends)
  after-within state (ModuleEnd closing) = λ decl held at. at
  after-within state (Variables names) = unit-within state (Variables names)
  after-within state (Constants declarations) = unit-within state (Constants declarations)
  after-within state (OperatorDefinition local x) = unit-within state (OperatorDefinition local x)
  after-within state (FunctionDefinition local x) = unit-within state (FunctionDefinition local x)
  after-within state (ModuleDefinition local x) = unit-within state (ModuleDefinition local x)
  after-within state (Assumption word name x) = unit-within state (Assumption word name x)
  after-within state (Theorem word name x) = unit-within state (Theorem word name x)
  after-within state (Line dashes) = unit-within state (Line dashes)

  pub all-within : (state : ReadState) (units : List UnitTree) → IsWithin state.known (read_all text files words state units).known
  all-within state [] = λ decl held at. at
  all-within state (unit ∷ units) =
      within-on state.known (after text files words state unit).known (read_all text files words (after text files words state unit) units).known (after-within state unit) (all-within (after text files words state unit) units)

-- ---- what is told of names that can be used

-- something is known behind what a name means
abbrev pub Told : Known → Named → Meaning → Type 0
Told known name m = IsTold known m

-- behind all that can be used in a module, and in those round it
pub record AreAllTold (state : ReadState) : Type 0 where
  pub here : HoldsOf (Told state.known) state.place.here.context
  pub round : AllByRecursion (λ (reading : Reading). HoldsOf (Told state.known) reading.context) state.place.round

context-more : (known more : Known) (context : Context) → HoldsOf (Told known) context → HoldsOf (Told (and_known known more)) context
context-more known more context told name m at = told-more known more m (told name m at)

round-more : (known more : Known) (round : List Reading) → AllByRecursion (λ (reading : Reading). HoldsOf (Told known) reading.context) round → AllByRecursion (λ (reading : Reading). HoldsOf (Told (and_known known more)) reading.context) round
round-more known more round all =
    all-weaker (λ (reading : Reading). HoldsOf (Told known) reading.context) (λ (reading : Reading). HoldsOf (Told (and_known known more)) reading.context) (λ reading one. context-more known more reading.context one) round all

module _ (text : Text) (files : List ℕ → ModuleView) (words : List ℕ) where
  -- behind what a module extends, with what is known of that
  extended-told : (known : Known) (reading : Reading) (names : List Lexeme) → HoldsOf (Told known) reading.context
      → HoldsOf (Told (and_known known (known_from_all text (module_at files (extends_all text (exports_by files) reading names).modules) names))) (extends_all text (exports_by files) reading names).context
  extended-told known reading names told =
      let modules : Environment ModuleView = (extends_all text (exports_by files) reading names).modules in
      let more : Known = known_from_all text (module_at files modules) names in
      extends-hold (Told (and_known known more)) text files modules reading names (sym (extends-keep text (exports_by files) reading names).modules) (context-more known more reading.context told)
      (all-weaker (Brought text files words more modules) (Brought text files words (and_known known more) modules)
      (λ l one. all-told-beside known more (exported (module_at files modules (spelled text.source l))) one) names (told-from-all text files words modules names))

  declared-told : (state : ReadState) (unit : UnitTree) (local : Bool) (binders : List Binder) → AreAllTold state → AllByRecursion (Binds text (known_in text files words state unit)) binders → AreAllTold (read_on text files words state unit (declare_all text local state.place.here binders))
  declared-told state unit local binders is all =
      let more : Known = known_named text (module_named text files words state) (all_named_instances (unit_trees unit)) in
      record {
        here = declared-holds (Told (and_known state.known more)) text local state.place.here binders (context-more state.known more state.place.here.context is.here) all;
        round = round-more state.known more state.place.round is.round;
      }

  still-told : (state : ReadState) (unit : UnitTree) → AreAllTold state → AreAllTold (read_on text files words state unit state.place.here)
  still-told state unit is =
      let more : Known = known_named text (module_named text files words state) (all_named_instances (unit_trees unit)) in
      record { here = context-more state.known more state.place.here.context is.here; round = round-more state.known more state.place.round is.round }

  left-told : (known : Known) (inner : Reading) (round : List Reading) → HoldsOf (Told known) inner.context → AllByRecursion (λ (reading : Reading). HoldsOf (Told known) reading.context) round → AreAllTold (record { place = left known inner round; known = known })
  left-told known inner [] here all = record { here = here; round = tt }
  left-told known inner (outer ∷ round) here all = record { here = all.0; round = all.1 }

  pub after-told : (state : ReadState) (unit : UnitTree) → AreAllTold state → AreAllTold (after text files words state unit)
  after-told state (Variables names) is = declared-told state (Variables names) false (variables names) is (told-variables text (known_in text files words state (Variables names)) names)
  after-told state (Constants declarations) is = declared-told state (Constants declarations) false (constants declarations) is (told-constants text (known_in text files words state (Constants declarations)) (all_placed declarations))
  after-told state (OperatorDefinition local x) is = declared-told state (OperatorDefinition local x) (is_some local) (definition x) is (told-defined text state.known (module_named text files words state) x)
  after-told state (FunctionDefinition local x) is = declared-told state (FunctionDefinition local x) (is_some local) (definition x) is (told-defined text state.known (module_named text files words state) x)
  after-told state (ModuleDefinition local x) is = declared-told state (ModuleDefinition local x) (is_some local) (definition x) is (told-defined text state.known (module_named text files words state) x)
  after-told state (Instance local x) is =
      let known : Known = known_in text files words state (Instance local x) in
      let brought : Known = known_brought text files words state x in
      let entries : Exports = instance_brings text files words state x in
      let still : AreAllTold (read_on text files words state (Instance local x) state.place.here) = still-told state (Instance local x) is in
      record {
        here = joined-holds (Told (and_known known brought)) (is_some local) state.place.here entries (context-more known brought state.place.here.context still.here) (all-told-beside known brought entries (told-instance text files words state x));
        round = round-more known brought state.place.round still.round;
      }
  after-told state (Assumption word name x) is = still-told state (Assumption word name x) is
  after-told state (Theorem word name x) is = still-told state (Theorem word name x) is
  after-told state (Line dashes) is = still-told state (Line dashes) is
  after-told state (ModuleBegin dashes name extends) is =
      let begun : Reading = nested text state.place.here name in
      let more : Known = known_from_all text (module_at files (extends_all text (exports_by files) begun extends).modules) extends in
      record {
        here = extended-told state.known begun extends is.here;
        round = (context-more state.known more state.place.here.context is.here, round-more state.known more state.place.round is.round);
      }
  after-told state (ModuleEnd closing) is = left-told state.known state.place.here state.place.round is.here is.round

  pub all-told : (state : ReadState) (units : List UnitTree) → AreAllTold state → AreAllTold (read_all text files words state units)
  all-told state [] is = is
  all-told state (unit ∷ units) is = all-told (after text files words state unit) units (after-told state unit is)

built-in-told : (known : Known) → HoldsOf (Told known) built_in
built-in-told known name m at = subst (IsTold known) (sym (built-in-is name m at)) tt

pub first-told : (files : List ℕ → ModuleView) (source : List ℕ) (units : ModuleUnits) → AreAllTold (first files source units)
first-told files source units =
    let text : Text = text_of source units in
    record { here = extended-told text files (words_of units) none_known (unread text) units.extends (built-in-told none_known); round = tt }
