-- A module brings no names of a module that it is not, and that has none in files.
use Rattle.std.proofs.Common.{◌≡◌, ℕ, false, List, [], ◌∷◌, inl, Some, None, is_some, sym, subst}
use Rattle.std.specs.List.{AllByRecursion}
use Rattle.std.specs.Str.{bytes_eq}
use Rattle.list_laws.proofs.Lists.{all-both}
use Rattle.tla_symbols.specs.declared.lexeme.Lexeme.{Lexeme}
use Rattle.tla_tree.specs.declared.form.Form.TheVariants as Form
use Rattle.tla_tree.specs.Syntax.{Tree, Node}
use Rattle.unit_grammar.specs.Units.{UnitTree, Variables, Constants, OperatorDefinition, FunctionDefinition, ModuleDefinition, Instance, Assumption, Theorem, Line, ModuleBegin, ModuleEnd, ModuleUnits}
use Rattle.tla_model.specs.declared.ids.UnitId.{UnitId}
use Rattle.tla_model.specs.declared.names.Binder.{Binder}
use Rattle.tla_model.specs.declared.names.Meaning.TheVariants.{BuiltIn, Declared}
use Rattle.tla_model.specs.Entities.{Meaning, Text, variables}
use Rattle.tla_model.specs.EntityKinds.{is_meant, stands_behind, stands_for_parameter}
use Rattle.tla_model.specs.Lexemes.{spelled}
use Rattle.tla_model.specs.Scopes.{definition}
use Rattle.tla_model.specs.Tables.{Named}
use Rattle.module_scope.specs.Environments.{meaning}
use Rattle.module_model.specs.Exports.{Exports, Known, ModuleView, exported, exports_by, exports_of, instantiable}
use Rattle.module_model.specs.Instances.{brought_entries, nested_view, through}
use Rattle.module_model.specs.Modules.{Reading, begun_in, brings, constants, extended, extends_all, left, nested, text_of, unread}
use Rattle.module_model.specs.NamedModules.{module_at, unit_of, view_of}
use Rattle.module_model.specs.Resolution.{ReadState, after, first, instance_brings, last, module_named, outside_in, read_all, words_of}
use Rattle.given_modules.specs.Passed.{AllNamed}
use Rattle.given_modules.proofs.Passed.{brings-exported}
use Rattle.given_modules.proofs.Passed.{HoldsPlace, HoldsReading, HoldsView, OfEntry, Own, added-known, declared-more, joined-more, module-says, nested-holds, nothing-holds, passed-hold}
use Rattle.given_modules.proofs.Passed.{all-passing, table-once}
use Rattle.given_modules.specs.Others.{IsNamedOf}

module _ (title : List ℕ) where
  module _ (text : Text) (files : List ℕ → ModuleView) (words : List ℕ) (apart : bytes_eq text.file title ≡ false) (given : (name : List ℕ) → AllNamed (IsNamedOf title) (files name)) where
    -- what comes through an INSTANCE of the module is no more of that one
    through-others : (l : Lexeme) (name : Named) (m : Meaning) → IsNamedOf title name m → IsNamedOf title name (through (unit_of text words l) m)
    through-others l name BuiltIn is = tt
    through-others l name (Declared e callee) is = (is.0, all-both (λ (unit : UnitId). bytes_eq unit.«module» title ≡ false) callee.via (unit_of text words l ∷ []) is.1 (apart, tt))

    extends-others : (reading : Reading) (names : List Lexeme) → HoldsReading (IsNamedOf title) reading → HoldsReading (IsNamedOf title) (extends_all text (exports_by files) reading names)
    extends-others reading [] is = is
    extends-others reading (l ∷ rest) is =
        let other : List ℕ = spelled text.source l in
        let view : HoldsView (IsNamedOf title) (module_at files reading.modules other) = module-says (HoldsView (IsNamedOf title)) files reading.modules other (nothing-holds (IsNamedOf title)) given is.modules in
        let entries = subst (AllByRecursion (OfEntry (IsNamedOf title))) (sym (brings-exported files (meaning reading.modules other) other)) view.entries in
        extends-others (extended reading (brings text (exports_by files) reading l)) rest (joined-more (IsNamedOf title) false reading (brings text (exports_by files) reading l) is entries)

    instance-others : (state : ReadState) (x : Tree) → HoldsReading (IsNamedOf title) state.place.here → AllByRecursion (OfEntry (IsNamedOf title)) (instance_brings text files words state x)
    instance-others state (Node (Form.Instance l) s parts) is = by (view_of text (module_named text files words state) l).parameters
      where
        view : HoldsView (IsNamedOf title) (module_at files state.place.here.modules (spelled text.source l))
        view = module-says (HoldsView (IsNamedOf title)) files state.place.here.modules (spelled text.source l) (nothing-holds (IsNamedOf title)) given is.modules

        entries : Exports
        entries = instantiable (exported (view_of text (module_named text files words state) l))

        kept : AllByRecursion (OfEntry (IsNamedOf title)) entries
        kept = all-passing (OfEntry (IsNamedOf title)) (λ (entry : Named × Meaning). is_meant stands_behind entry.1) (exported (view_of text (module_named text files words state) l)) view.entries

        by : (parameters : Exports) → AllByRecursion (OfEntry (IsNamedOf title)) (brought_entries (unit_of text words l) parameters entries)
        by [] = kept
        by (parameter ∷ rest) = passed-hold (IsNamedOf title) (unit_of text words l) entries (through-others l) kept
    instance-others state (Node Form.Let s parts) is = tt
    instance-others state (Node _ s parts) is = tt

    nested-others : (reading : Reading) (other : List ℕ) → HoldsReading (IsNamedOf title) reading → HoldsReading (IsNamedOf title) (begun_in reading other)
    nested-others reading other is = record { grown = is.grown; context = is.context; exports = tt; once = (tt, tt); modules = added-known (HoldsView (IsNamedOf title)) reading.modules other None is.modules tt }

    left-others : (known : Known) (inner : Reading) (round : List Reading) → HoldsReading (IsNamedOf title) inner → AllByRecursion (HoldsReading (IsNamedOf title)) round → HoldsPlace (IsNamedOf title) (left known inner round)
    left-others known inner [] here all = (here, tt)
    left-others known inner (outer ∷ round) here all = (
      record {
        grown = all.0.grown;
        context = all.0.context;
        exports = all.0.exports;
        once = all.0.once;
        modules = added-known (HoldsView (IsNamedOf title)) outer.modules inner.name (Some (nested_view known outer.context (exports_of inner.exports))) all.0.modules (nested-holds (IsNamedOf title) known outer.context inner here);
      },
      all.1,
    )

    own-others : (binders : List Binder) → AllByRecursion (Own (IsNamedOf title) text) binders
    own-others [] = tt
    own-others (b ∷ rest) = ((λ new. (apart, tt)), own-others rest)

    after-others : (state : ReadState) (unit : UnitTree) → HoldsPlace (IsNamedOf title) state.place → HoldsPlace (IsNamedOf title) (after text files words state unit).place
    after-others state (Variables names) is = (declared-more (IsNamedOf title) text false state.place.here (variables names) is.0 (own-others (variables names)), is.1)
    after-others state (Constants declarations) is = (declared-more (IsNamedOf title) text false state.place.here (constants declarations) is.0 (own-others (constants declarations)), is.1)
    after-others state (OperatorDefinition local x) is = (declared-more (IsNamedOf title) text (is_some local) state.place.here (definition x) is.0 (own-others (definition x)), is.1)
    after-others state (FunctionDefinition local x) is = (declared-more (IsNamedOf title) text (is_some local) state.place.here (definition x) is.0 (own-others (definition x)), is.1)
    after-others state (ModuleDefinition local x) is = (declared-more (IsNamedOf title) text (is_some local) state.place.here (definition x) is.0 (own-others (definition x)), is.1)
    after-others state (Instance local x) is = (joined-more (IsNamedOf title) (is_some local) state.place.here (instance_brings text files words state x) is.0 (instance-others state x is.0), is.1)
    after-others state (Assumption word name x) is = is
    after-others state (Theorem word name x) is = is
    after-others state (Line dashes) is = is
    after-others state (ModuleBegin dashes name extends) is =
        (extends-others (nested text state.place.here name) extends (nested-others state.place.here (spelled text.source name) is.0), (is.0, is.1))
    after-others state (ModuleEnd closing) is = left-others state.known state.place.here state.place.round is.0 is.1

    all-others : (state : ReadState) (units : List UnitTree) → HoldsPlace (IsNamedOf title) state.place → HoldsPlace (IsNamedOf title) (read_all text files words state units).place
    all-others state [] is = is
    all-others state (unit ∷ units) is = all-others (after text files words state unit) units (after-others state unit is)

  -- a module over files that have no names of that one has none itself
  pub outside-others : (files : List ℕ → ModuleView) (source : List ℕ) (units : ModuleUnits) → bytes_eq (text_of source units).file title ≡ false → ((name : List ℕ) → AllNamed (IsNamedOf title) (files name)) → AllNamed (IsNamedOf title) (outside_in files source units)
  outside-others files source units apart given =
      let text = text_of source units in
      let state : ReadState = last files source units in
      let start : HoldsReading (IsNamedOf title) (unread text) = record { grown = λ name there at. at; context = λ name m at. inl at; exports = tt; once = (tt, tt); modules = (tt, tt) } in
      let begun : HoldsPlace (IsNamedOf title) (first files source units).place = (extends-others text files (words_of units) apart given (unread text) units.extends start, tt) in
      let is : HoldsReading (IsNamedOf title) state.place.here = (all-others text files (words_of units) apart given (first files source units) units.units begun).0 in
      record {
        entries = is.exports;
        parameters = all-passing (OfEntry (IsNamedOf title)) (λ (entry : Named × Meaning). is_meant stands_for_parameter entry.1) (exports_of state.place.here.exports) is.exports;
        once = table-once state.place.here.exports is.once;
      }
