-- What holds of all names that modules export, and of those that can be used while one is read.
use Rattle.std.proofs.Common.{◌≡◌, ℕ, Bool, true, false, cond, List, [], ◌∷◌, ◌++◌, ◌⊎◌, inl, inr, Option, Some, None, is_some, refl, sym, subst, ◌∙◌, map}
use Rattle.std.specs.Prelude.{not}
use Rattle.std.specs.List.{AllByRecursion}
use Rattle.std.specs.Str.{bytes_eq}
use Rattle.list_laws.proofs.Lists.{all-both, all-left, all-right}
use Rattle.tla_symbols.specs.declared.lexeme.Lexeme.{Lexeme}
use Rattle.tla_symbols.specs.declared.op.Op.{Op}
use Rattle.tla_tree.specs.declared.form.Form.TheVariants as Form
use Rattle.tla_tree.specs.Syntax.{Tree, Node}
use Rattle.unit_grammar.specs.Units.{UnitTree, Variables, Constants, OperatorDefinition, FunctionDefinition, ModuleDefinition, Instance, Assumption, Theorem, Line, ModuleBegin, ModuleEnd, ModuleUnits}
use Rattle.tla_model.specs.declared.ids.UnitId.{UnitId}
use Rattle.tla_model.specs.declared.names.Binder.{Binder}
use Rattle.tla_model.specs.Tables.{Table, Named, Symbol, Word, added, find, has, lookup, put, same_symbol}
use Rattle.tla_model.specs.Entities.{Meaning, Text, meant, name_of, variables}
use Rattle.tla_model.specs.Contexts.{Context, built_in, meaning_of}
use Rattle.tla_model.specs.Lexemes.{spelled}
use Rattle.tla_model.specs.Scopes.{definition}
use Rattle.module_scope.specs.Environments.{Environment, meaning}
use Rattle.module_model.specs.Exports.{Exports, Known, ModuleView, exported, exports_by, exports_of, instantiable, is_meant, nothing, of_symbols, of_words, parameters_in, stands_behind, stands_for_parameter}
use Rattle.module_model.specs.Instances.{brought_by, brought_entries, nested_view, through}
use Rattle.module_model.specs.Modules.{Place, Reading, begun_in, brings, clashes, constants, declare_all, extended, extends_all, joined, left, nested, text_of, unread, with_entry}
use Rattle.module_model.specs.NamedModules.{module_at, module_under, unit_of, view_of}
use Rattle.module_model.specs.Resolution.{ReadState, after, first, instance_brings, last, module_named, outside_in, read_all, words_of}
use Rattle.flat_kinds.specs.Declarations.{IsOnce, OfAllKnown, OfKnown, declared_names}
use Rattle.accepted_modules.specs.Named.{AllNamed}
use Rattle.accepted_modules.proofs.Contexts.{HoldsOf, brings-exported, put-holds}
use Rattle.accepted_modules.proofs.Tables.{all-passing, put-keeps, put-once, table-once}

-- ---- modules that can be named

module _ {Known : Type 0} (says : Known → Type 0) where
  pub found-known : (modules : Environment Known) (name : List ℕ) (P : Option (Option Known) → Type 0) → P None → ((found : Option Known) → OfKnown says found → P (Some found)) → OfAllKnown says modules → P (meaning modules name)
  found-known [] name P nothing some all = nothing
  found-known (entry ∷ rest) name P nothing some all = by (bytes_eq name entry.0) (found-known rest name P nothing some all.1)
    where
      by : (b : Bool) → P (lookup bytes_eq rest name) → P (cond b (Some entry.1) (lookup bytes_eq rest name))
      by true others = some entry.1 all.0
      by false others = others

  pub added-known : (modules : Environment Known) (name : List ℕ) (known : Option Known) → OfAllKnown says modules → OfKnown says known → OfAllKnown says (added bytes_eq modules name known)
  added-known modules name known all one = by (is_some (lookup bytes_eq modules name))
    where
      by : (b : Bool) → OfAllKnown says (cond b modules (modules ++ (name, known) ∷ []))
      by true = all
      by false = all-both (λ (entry : List ℕ × Option Known). OfKnown says entry.1) modules ((name, known) ∷ []) all (one, tt)

-- what holds of nothing, of files and of nested modules holds of the module of a name
pub module-says : (says : ModuleView → Type 0) (files : List ℕ → ModuleView) (modules : Environment ModuleView) (name : List ℕ) → says nothing → ((name : List ℕ) → says (files name)) → OfAllKnown says modules → says (module_at files modules name)
module-says says files modules name none each all = found-known says modules name (λ o. says (module_under files o name)) (each name) some all
  where
    some : (found : Option ModuleView) → OfKnown says found → says (module_under files (Some found) name)
    some None one = none
    some (Some view) one = one

module _ (P : Named → Meaning → Type 0) where
  -- it holds of an entry
  abbrev pub OfEntry : Named × Meaning → Type 0
  OfEntry entry = P entry.0 entry.1

  -- of all names of a module
  abbrev pub HoldsView : ModuleView → Type 0
  HoldsView view = AllNamed P view

  -- of what can be used, unless it is built in
  abbrev pub OrBuiltIn : Named → Meaning → Type 0
  OrBuiltIn name m = (meaning_of built_in name ≡ Some m) ⊎ P name m

  -- of a module that is read
  pub record HoldsReading (reading : Reading) : Type 0 where
    pub grown : (name : Named) (there : Option Meaning) → find built_in name ≡ Some there → find reading.context name ≡ Some there
    pub context : HoldsOf OrBuiltIn reading.context
    pub exports : AllByRecursion OfEntry (exports_of reading.exports)
    pub once : IsOnce reading.exports
    pub modules : OfAllKnown HoldsView reading.modules

  -- of it and of those round it
  abbrev pub HoldsPlace : Place → Type 0
  HoldsPlace place = HoldsReading place.here × AllByRecursion HoldsReading place.round

  -- of a name that is declared, unless it is built in
  abbrev pub Own : Text → Binder → Type 0
  Own text binder = find built_in (name_of text.source binder.name) ≡ None → P (name_of text.source binder.name) (meant text binder)

  -- of those that units declare
  abbrev pub AreOwn : Text → List UnitTree → Type 0
  AreOwn text units = AllByRecursion (λ unit. AllByRecursion (Own text) (declared_names unit)) units

  -- ---- tables

  words-more : (words : List (List ℕ × Meaning)) (bytes : List ℕ) (m : Meaning) → AllByRecursion OfEntry (of_words words) → P (Word bytes) m → AllByRecursion OfEntry (of_words (words ++ (bytes, m) ∷ []))
  words-more [] bytes m all one = (one, tt)
  words-more (word ∷ words) bytes m all one = (all.0, words-more words bytes m all.1 one)

  symbols-more : (symbols : List (Op × Meaning)) (op : Op) (m : Meaning) → AllByRecursion OfEntry (of_symbols symbols) → P (Symbol op) m → AllByRecursion OfEntry (of_symbols (symbols ++ (op, m) ∷ []))
  symbols-more [] op m all one = (one, tt)
  symbols-more (symbol ∷ symbols) op m all one = (all.0, symbols-more symbols op m all.1 one)

  table-more : (table : Table Meaning) (name : Named) (m : Meaning) → AllByRecursion OfEntry (exports_of table) → P name m → AllByRecursion OfEntry (exports_of (put table name m))
  table-more table (Word bytes) m all one = by (is_some (lookup bytes_eq table.words bytes))
    where
      words : AllByRecursion OfEntry (of_words table.words)
      words = all-left OfEntry (of_words table.words) (of_symbols table.symbols) all

      by : (b : Bool) → AllByRecursion OfEntry (of_words (cond b table.words (table.words ++ (bytes, m) ∷ [])) ++ of_symbols table.symbols)
      by true = all
      by false = all-both OfEntry (of_words (table.words ++ (bytes, m) ∷ [])) (of_symbols table.symbols) (words-more table.words bytes m words one) (all-right OfEntry (of_words table.words) (of_symbols table.symbols) all)
  table-more table (Symbol op) m all one = by (is_some (lookup same_symbol table.symbols op))
    where
      symbols : AllByRecursion OfEntry (of_symbols table.symbols)
      symbols = all-right OfEntry (of_words table.words) (of_symbols table.symbols) all

      by : (b : Bool) → AllByRecursion OfEntry (of_words table.words ++ of_symbols (cond b table.symbols (table.symbols ++ (op, m) ∷ [])))
      by true = all
      by false = all-both OfEntry (of_words table.words) (of_symbols (table.symbols ++ (op, m) ∷ [])) (all-left OfEntry (of_words table.words) (of_symbols table.symbols) all) (symbols-more table.symbols op m symbols one)

  -- ---- readings

  entry-more : (local : Bool) (reading : Reading) (name : Named) (m : Meaning) → HoldsReading reading → P name m → HoldsReading (with_entry local reading name m)
  entry-more local reading name m is one = by local
    where
      grown : (other : Named) (there : Option Meaning) → find built_in other ≡ Some there → find (put reading.context name (Some m)) other ≡ Some there
      grown other there at = put-keeps reading.context name (Some m) other there (is.grown other there at)

      used : HoldsOf OrBuiltIn (put reading.context name (Some m))
      used = put-holds OrBuiltIn reading.context name (Some m) is.context (λ other same. subst (OrBuiltIn name) (cc) (inr one))

      by : (local : Bool) → HoldsReading (with_entry local reading name m)
      by true = record { grown = grown; context = used; exports = is.exports; once = is.once; modules = is.modules }
      by false = record { grown = grown; context = used; exports = table-more reading.exports name m is.exports one; once = put-once reading.exports name m is.once; modules = is.modules }

  either-more : (b : Bool) (one two : Reading) → HoldsReading one → HoldsReading two → HoldsReading (cond b one two)
  either-more true one two is also = is
  either-more false one two is also = also

  pub joined-more : (local : Bool) (reading : Reading) (entries : Exports) → HoldsReading reading → AllByRecursion OfEntry entries → HoldsReading (joined local reading entries)
  joined-more local reading [] is all = is
  joined-more local reading (entry ∷ rest) is all =
      let other : Reading = with_entry local reading entry.0 entry.1 in
      joined-more local (cond (clashes reading.context entry) reading other) rest (either-more (clashes reading.context entry) reading other is (entry-more local reading entry.0 entry.1 is all.0)) all.1

  one-more : (text : Text) (local : Bool) (reading : Reading) (binder : Binder) → HoldsReading reading → Own text binder
      → HoldsReading (cond (has reading.context (name_of text.source binder.name)) reading (with_entry local reading (name_of text.source binder.name) (meant text binder)))
  one-more text local reading binder is own = by (find reading.context name) refl
    where
      name : Named
      name = name_of text.source binder.name

      new : (o : Option (Option Meaning)) → find reading.context name ≡ None → find built_in name ≡ o → find built_in name ≡ None
      new None none there = there
      new (Some x) none there = absurd (cc (sym none ∙ is.grown name x there))

      by : (o : Option (Option Meaning)) → find reading.context name ≡ o → HoldsReading (cond (is_some o) reading (with_entry local reading name (meant text binder)))
      by (Some there) at = is
      by None at = entry-more local reading name (meant text binder) is (own (new (find built_in name) at refl))

  pub declared-more : (text : Text) (local : Bool) (reading : Reading) (binders : List Binder) → HoldsReading reading → AllByRecursion (Own text) binders → HoldsReading (declare_all text local reading binders)
  declared-more text local reading [] is all = is
  declared-more text local reading (binder ∷ rest) is all =
      declared-more text local (cond (has reading.context (name_of text.source binder.name)) reading (with_entry local reading (name_of text.source binder.name) (meant text binder))) rest (one-more text local reading binder is all.0) all.1

  pub nothing-holds : HoldsView nothing
  nothing-holds = record { entries = tt; parameters = tt; once = tt }

  -- what an INSTANCE without a name brings
  pub passed-hold : (unit : UnitId) (entries : Exports) → ((name : Named) (m : Meaning) → P name m → P name (through unit m)) → AllByRecursion OfEntry entries → AllByRecursion OfEntry (map (λ entry. (entry.0, through unit entry.1)) entries)
  passed-hold unit [] passes all = tt
  passed-hold unit (entry ∷ rest) passes all = (passes entry.0 entry.1 all.0, passed-hold unit rest passes all.1)

  brought-hold : (unit : UnitId) (view : ModuleView) → ((name : Named) (m : Meaning) → P name m → P name (through unit m)) → HoldsView view → AllByRecursion OfEntry (brought_by unit view)
  brought-hold unit view passes is = by view.parameters
    where
      kept : AllByRecursion OfEntry (instantiable (exported view))
      kept = all-passing OfEntry (λ (entry : Named × Meaning). is_meant stands_behind entry.1) (exported view) is.entries

      by : (parameters : Exports) → AllByRecursion OfEntry (brought_entries unit parameters (instantiable (exported view)))
      by [] = kept
      by (parameter ∷ rest) = passed-hold unit (instantiable (exported view)) passes kept

  pub nested-holds : (known : Known) (context : Context) (reading : Reading) → HoldsReading reading → HoldsView (nested_view known context (exports_of reading.exports))
  nested-holds known context reading is = record {
    entries = is.exports;
    parameters =
        all-passing OfEntry (λ entry. not (has context entry.0)) (parameters_in (exports_of reading.exports))
        (all-passing OfEntry (λ (entry : Named × Meaning). is_meant stands_for_parameter entry.1) (exports_of reading.exports) is.exports);
    once = table-once reading.exports is.once;
  }

  -- ---- units

  module _ (text : Text) (files : List ℕ → ModuleView) (words : List ℕ) (passes : (unit : UnitId) (name : Named) (m : Meaning) → P name m → P name (through unit m)) (given : (name : List ℕ) → HoldsView (files name)) where
    extends-more : (reading : Reading) (names : List Lexeme) → HoldsReading reading → HoldsReading (extends_all text (exports_by files) reading names)
    extends-more reading [] is = is
    extends-more reading (l ∷ rest) is =
        let title : List ℕ = spelled text.source l in
        let view : HoldsView (module_at files reading.modules title) = module-says HoldsView files reading.modules title nothing-holds given is.modules in
        let entries = subst (AllByRecursion OfEntry) (sym (brings-exported files (meaning reading.modules title) title)) view.entries in
        extends-more (extended reading (brings text (exports_by files) reading l)) rest (joined-more false reading (brings text (exports_by files) reading l) is entries)

    pub instance-hold : (state : ReadState) (x : Tree) → HoldsReading state.place.here → AllByRecursion OfEntry (instance_brings text files words state x)
    instance-hold state (Node (Form.Instance l) s parts) is =
        brought-hold (unit_of text words l) (view_of text (module_named text files words state) l) (passes (unit_of text words l))
        (module-says HoldsView files state.place.here.modules (spelled text.source l) nothing-holds given is.modules)
    instance-hold state (Node Form.Let s parts) is = tt
    instance-hold state (Node _ s parts) is = tt

    nested-more : (reading : Reading) (title : List ℕ) → HoldsReading reading → HoldsReading (begun_in reading title)
    nested-more reading title is = record { grown = is.grown; context = is.context; exports = tt; once = (tt, tt); modules = added-known HoldsView reading.modules title None is.modules tt }

    left-more : (known : Known) (inner : Reading) (round : List Reading) → HoldsReading inner → AllByRecursion HoldsReading round → HoldsPlace (left known inner round)
    left-more known inner [] here all = (here, tt)
    left-more known inner (outer ∷ round) here all = (
      record {
        grown = all.0.grown;
        context = all.0.context;
        exports = all.0.exports;
        once = all.0.once;
        modules = added-known HoldsView outer.modules inner.name (Some (nested_view known outer.context (exports_of inner.exports))) all.0.modules (nested-holds known outer.context inner here);
      },
      all.1,
    )

    pub after-holds : (state : ReadState) (unit : UnitTree) → AllByRecursion (Own text) (declared_names unit) → HoldsPlace state.place → HoldsPlace (after text files words state unit).place
    after-holds state (Variables names) own is = (declared-more text false state.place.here (variables names) is.0 own, is.1)
    after-holds state (Constants declarations) own is = (declared-more text false state.place.here (constants declarations) is.0 own, is.1)
    after-holds state (OperatorDefinition local x) own is = (declared-more text (is_some local) state.place.here (definition x) is.0 own, is.1)
    after-holds state (FunctionDefinition local x) own is = (declared-more text (is_some local) state.place.here (definition x) is.0 own, is.1)
    after-holds state (ModuleDefinition local x) own is = (declared-more text (is_some local) state.place.here (definition x) is.0 own, is.1)
    after-holds state (Instance local x) own is = (joined-more (is_some local) state.place.here (instance_brings text files words state x) is.0 (instance-hold state x is.0), is.1)
    after-holds state (Assumption word name x) own is = is
    after-holds state (Theorem word name x) own is = is
    after-holds state (Line dashes) own is = is
    after-holds state (ModuleBegin dashes name extends) own is =
        (extends-more (nested text state.place.here name) extends (nested-more state.place.here (spelled text.source name) is.0), (is.0, is.1))
    after-holds state (ModuleEnd closing) own is = left-more state.known state.place.here state.place.round is.0 is.1

    pub all-hold : (state : ReadState) (units : List UnitTree) → AreOwn text units → HoldsPlace state.place → HoldsPlace (read_all text files words state units).place
    all-hold state [] own is = is
    all-hold state (unit ∷ units) own is = all-hold (after text files words state unit) units own.1 (after-holds state unit own.0 is)

  module _ (files : List ℕ → ModuleView) (source : List ℕ) (units : ModuleUnits) (passes : (unit : UnitId) (name : Named) (m : Meaning) → P name m → P name (through unit m)) (given : (name : List ℕ) → HoldsView (files name)) where
    pub first-holds : HoldsPlace (first files source units).place
    first-holds =
        let text = text_of source units in
        let start : HoldsReading (unread text) = record { grown = λ name there at. at; context = λ name m at. inl at; exports = tt; once = (tt, tt); modules = (tt, tt) } in
        (extends-more text files (words_of units) passes given (unread text) units.extends start, tt)

    pub outside-holds : AreOwn (text_of source units) units.units → HoldsView (outside_in files source units)
    outside-holds own =
        let state : ReadState = last files source units in
        let is : HoldsReading state.place.here = (all-hold (text_of source units) files (words_of units) passes given (first files source units) units.units own first-holds).0 in
        record {
          entries = is.exports;
          parameters = all-passing OfEntry (λ (entry : Named × Meaning). is_meant stands_for_parameter entry.1) (exports_of state.place.here.exports) is.exports;
          once = table-once state.place.here.exports is.once;
        }
