-- Names that can be used in a module, and what modules export that it can name, come from elsewhere or from units before.
use Rattle.std.proofs.Common.{◌≡◌, ℕ, Bool, true, false, cond, List, [], ◌∷◌, ◌++◌, inl, inr, None, refl, sym, subst}
use Rattle.std.specs.Prelude.{not}
use Rattle.std.specs.List.{AllByRecursion}
use Rattle.list_laws.proofs.Lists.{all-left, all-weaker}
use Rattle.tla_tree.specs.Syntax.{Tree}
use Rattle.unit_grammar.specs.Units.{UnitTree, Variables, Constants, OperatorDefinition, FunctionDefinition, ModuleDefinition, Instance, Assumption, Theorem, Line, ModuleBegin, ModuleEnd, ModuleUnits}
use Rattle.tla_model.specs.declared.ids.UnitId.{UnitId}
use Rattle.tla_model.specs.declared.names.Binder.{Binder}
use Rattle.tla_model.specs.declared.names.Binding.TheVariants as as_binding
use Rattle.tla_model.specs.declared.names.Meaning.TheVariants.{BuiltIn, Declared}
use Rattle.tla_model.specs.Tables.{Named, has}
use Rattle.tla_model.specs.Entities.{Meaning, Text, declaration, declared_by, declaring, meant, variables}
use Rattle.tla_model.specs.Scopes.{definition}
use Rattle.module_scope.specs.Environments.{begun, inside, meaning}
use Rattle.module_model.specs.Exports.{Exports, ModuleView, exported, exports_by, exports_of, is_meant, parameters_in, stands_for_parameter}
use Rattle.module_model.specs.Instances.{own_parameters, through}
use Rattle.module_model.specs.Modules.{Place, Reading, constants, exports_under, text_of}
use Rattle.module_model.specs.NamedModules.{module_at}
use Rattle.module_model.specs.Resolution.{first, module_named, outside_in, words_of}
use Rattle.tree_kinds.specs.Standing.{Outside}
use Rattle.module_kinds.specs.ModuleKinds.{named_in, nested_outside, outside, views}
use Rattle.flat_trees.specs.Instances.{symbols_of}
use Rattle.flat_kinds.specs.Declarations.{declared_names}
use Rattle.flattened_units.specs.Units.{meanings_of}
use Rattle.accepted_modules.specs.Behind.{IsForeign, IsForeignView}
use Rattle.accepted_modules.specs.Named.{AllNamed}
use Rattle.accepted_modules.specs.States.{kinds_behind}
use Rattle.accepted_modules.proofs.Contexts.{brings-exported}
use Rattle.accepted_modules.proofs.Holding.{AreOwn, HoldsPlace, OfEntry, Own, added-known, all-hold, first-holds, module-says, nothing-holds, outside-holds}
use Rattle.accepted_modules.proofs.Tables.{all-passing}
use Rattle.accepted_modules.proofs.Symbols.{IsSymbol, defined-none}
use Rattle.accepted_modules.proofs.Views.{nested-same, own-read}
use Rattle.fresh_names.specs.Seen.{IsElsewhere, symbols_in}
use Rattle.fresh_names.proofs.Brought.{through-elsewhere}
use Rattle.fresh_names.proofs.Kept.{Within, definition-within, left, placed-within, right}

-- what entries mean
pub entries-mean : (P : Meaning → Type 0) (entries : Exports) → AllByRecursion (λ (entry : Named × Meaning). P entry.1) entries → AllByRecursion P (meanings_of entries)
entries-mean P [] all = tt
entries-mean P (entry ∷ rest) all = (all.0, entries-mean P rest all.1)

module _ (text : Text) where
  -- a name comes from elsewhere, or is declared by one of these
  abbrev pub ComesElsewhere : List Binder → Named → Meaning → Type 0
  ComesElsewhere others name m = IsElsewhere text others m

  -- the same of a symbol; of other names nothing is said
  abbrev pub SymbolElsewhere : List Binder → Named → Meaning → Type 0
  SymbolElsewhere others name m = IsSymbol m → IsElsewhere text others m

  foreign-elsewhere : (others : List Binder) (name : Named) (m : Meaning) → IsForeign text.file name m → IsElsewhere text others m
  foreign-elsewhere others name BuiltIn foreign = tt
  foreign-elsewhere others name (Declared e callee) foreign = inr (inl foreign)

  -- what holds of foreign names holds of a foreign module
  foreign-holds : (P : Named → Meaning → Type 0) → ((name : Named) (m : Meaning) → IsForeign text.file name m → P name m) → (view : ModuleView) → IsForeignView text.file view → AllNamed P view
  foreign-holds P each view foreign = record {
    entries = all-weaker (OfEntry (IsForeign text.file)) (OfEntry P) (λ entry is. each entry.0 entry.1 is) (exported view) foreign.entries;
    parameters = all-weaker (OfEntry (IsForeign text.file)) (OfEntry P) (λ entry is. each entry.0 entry.1 is) view.parameters foreign.parameters;
    once = foreign.once;
  }

  -- ---- names of the text

  binders-own : (others binders : List Binder) → Within text binders others → AllByRecursion (Own (ComesElsewhere others) text) binders
  binders-own others [] among = tt
  binders-own others (binder ∷ rest) among =
      ((λ none. inr (inr (among (declaration text binder.name) (inl refl)))), binders-own others rest (λ decl declared. among decl (inr declared)))

  names-within : (unit : UnitTree) → Within text (declared_names unit) (declared_by unit)
  names-within (Variables names) decl declared = declared
  names-within (Constants declarations) decl declared = placed-within text as_binding.Constant declarations decl declared
  names-within (OperatorDefinition local x) decl declared = definition-within text x decl declared
  names-within (FunctionDefinition local x) decl declared = definition-within text x decl declared
  names-within (ModuleDefinition local x) decl declared = definition-within text x decl declared
  names-within (Instance local x) decl declared = absurd declared
  names-within (Assumption word name x) decl declared = absurd declared
  names-within (Theorem word name x) decl declared = absurd declared
  names-within (Line dashes) decl declared = absurd declared
  names-within (ModuleBegin dashes name extends) decl declared = absurd declared
  names-within (ModuleEnd closing) decl declared = absurd declared

  pub units-own : (others : List Binder) (units : List UnitTree) → Within text (declaring units) others → AreOwn (ComesElsewhere others) text units
  units-own others [] among = tt
  units-own others (unit ∷ units) among = (
    binders-own others (declared_names unit) (λ decl declared. among decl (left text (declared_by unit) (declaring units) decl (names-within unit decl declared))),
    units-own others units (λ decl declared. among decl (right text (declared_by unit) (declaring units) decl declared)),
  )

  symbols-own : (others binders : List Binder) → Within text binders others → AllByRecursion (Own (SymbolElsewhere others) text) binders
  symbols-own others [] among = tt
  symbols-own others (binder ∷ rest) among =
      ((λ none symbol. inr (inr (among (declaration text binder.name) (inl refl)))), symbols-own others rest (λ decl declared. among decl (inr declared)))

  defined-own : (others : List Binder) (x : Tree) → AllByRecursion (Own (SymbolElsewhere others) text) (definition x)
  defined-own others x =
      all-weaker (λ (binder : Binder). IsSymbol (meant text binder) → ⊥) (Own (SymbolElsewhere others) text) (λ binder never none symbol. absurd (never symbol)) (definition x) (defined-none text x)

  -- symbols that units declare
  pub symbols-come : (others : List Binder) (units : List UnitTree) → Within text (symbols_in units) others → AreOwn (SymbolElsewhere others) text units
  symbols-come others [] among = tt
  symbols-come others (Variables names ∷ units) among = (
    symbols-own others (variables names) (λ decl declared. among decl (left text (variables names) (symbols_in units) decl declared)),
    symbols-come others units (λ decl declared. among decl (right text (variables names) (symbols_in units) decl declared)),
  )
  symbols-come others (Constants declarations ∷ units) among = (
    symbols-own others (constants declarations) (λ decl declared. among decl (left text (constants declarations) (symbols_in units) decl declared)),
    symbols-come others units (λ decl declared. among decl (right text (constants declarations) (symbols_in units) decl declared)),
  )
  symbols-come others (OperatorDefinition local x ∷ units) among = (defined-own others x, symbols-come others units among)
  symbols-come others (FunctionDefinition local x ∷ units) among = (defined-own others x, symbols-come others units among)
  symbols-come others (ModuleDefinition local x ∷ units) among = (defined-own others x, symbols-come others units among)
  symbols-come others (Instance local x ∷ units) among = (tt, symbols-come others units among)
  symbols-come others (Assumption word name x ∷ units) among = (tt, symbols-come others units among)
  symbols-come others (Theorem word name x ∷ units) among = (tt, symbols-come others units among)
  symbols-come others (Line dashes ∷ units) among = (tt, symbols-come others units among)
  symbols-come others (ModuleBegin dashes name extends ∷ units) among = (tt, symbols-come others units among)
  symbols-come others (ModuleEnd closing ∷ units) among = (tt, symbols-come others units among)

-- parameters are symbols
pub parameters-are : (entries : Exports) → AllByRecursion (λ (entry : Named × Meaning). IsSymbol entry.1) (parameters_in entries)
parameters-are [] = tt
parameters-are (entry ∷ rest) = by (is_meant stands_for_parameter entry.1) refl (parameters-are rest)
  where
    by : (b : Bool) → is_meant stands_for_parameter entry.1 ≡ b → AllByRecursion (λ (other : Named × Meaning). IsSymbol other.1) (parameters_in rest) → AllByRecursion (λ (other : Named × Meaning). IsSymbol other.1) (cond b (entry ∷ parameters_in rest) (parameters_in rest))
    by true is later = (is, later)
    by false is later = later

both-hold : (P Q R : Named × Meaning → Type 0) → ((entry : Named × Meaning) → P entry → Q entry → R entry) → (entries : Exports) → AllByRecursion P entries → AllByRecursion Q entries → AllByRecursion R entries
both-hold P Q R each [] one two = tt
both-hold P Q R each (entry ∷ rest) one two = (each entry one.0 two.0, both-hold P Q R each rest one.1 two.1)

module _ (outsides : List ℕ → Outside) (source : List ℕ) (units : ModuleUnits) (foreign : (name : List ℕ) → IsForeignView (text_of source units).file (outsides name).view) where
  abbrev text : Text
  text = text_of source units

  abbrev words : List ℕ
  words = words_of units

  abbrev files : List ℕ → ModuleView
  files = views text outsides words

  -- what holds of foreign names, through instances and of the names of these units, holds where a unit is read behind them
  pub behind-holds : (P : Named → Meaning → Type 0) → ((unit : UnitId) (name : Named) (m : Meaning) → P name m → P name (through unit m)) → ((name : Named) (m : Meaning) → IsForeign text.file name m → P name m)
      → (before : List UnitTree) → AreOwn P text before → HoldsPlace P (kinds_behind outsides source units before).read.place
  behind-holds P passes each before own =
      subst (λ (place : Place). HoldsPlace P place) (λ i. (sym (own-read outsides source units before) i).place)
      (all-hold P text files words passes (λ name. foreign-holds text P each (outsides name).view (foreign name)) (first files source units) before own
      (first-holds P files source units passes (λ name. foreign-holds text P each (outsides name).view (foreign name))))

  -- what can be used and exported behind these units comes from elsewhere or from them
  pub elsewhere-holds : (before : List UnitTree) → HoldsPlace (ComesElsewhere text (declaring before)) (kinds_behind outsides source units before).read.place
  elsewhere-holds before =
      behind-holds (ComesElsewhere text (declaring before)) (λ unit name m is. through-elsewhere text (declaring before) unit m) (foreign-elsewhere text (declaring before)) before
      (units-own text (declaring before) before (λ decl declared. declared))

  passes-symbol : (others : List Binder) (unit : UnitId) (name : Named) (m : Meaning) → SymbolElsewhere text others name m → SymbolElsewhere text others name (through unit m)
  passes-symbol others unit name m is symbol = through-elsewhere text others unit m

  -- symbols that can be used behind these units, and that are exported there
  pub symbols-hold : (before behind : List UnitTree) → units.units ≡ before ++ behind → HoldsPlace (SymbolElsewhere text (symbols_in units.units)) (kinds_behind outsides source units before).read.place
  symbols-hold before behind split =
      let others : List Binder = symbols_in units.units in
      behind-holds (SymbolElsewhere text others) (passes-symbol others) (λ name m is symbol. foreign-elsewhere text others name m is) before
      (all-left (λ (unit : UnitTree). AllByRecursion (Own (SymbolElsewhere text others) text) (declared_names unit)) before behind
      (subst (λ (us : List UnitTree). AreOwn (SymbolElsewhere text others) text us) split (symbols-come text others units.units (λ decl declared. declared))))

  -- the symbols of the module itself
  pub module-symbols : AllByRecursion (IsElsewhere text (symbols_in units.units)) (symbols_of (outside outsides source units))
  module-symbols =
      let others : List Binder = symbols_in units.units in
      let holds : AllNamed (SymbolElsewhere text others) (outside_in files source units) =
      outside-holds (SymbolElsewhere text others) files source units (passes-symbol others)
      (λ name. foreign-holds text (SymbolElsewhere text others) (λ n m is symbol. foreign-elsewhere text others n m is) (outsides name).view (foreign name))
      (symbols-come text others units.units (λ decl declared. declared)) in
      entries-mean (IsElsewhere text others) (outside_in files source units).parameters
      (both-hold (OfEntry (SymbolElsewhere text others)) (λ entry. IsSymbol entry.1) (λ entry. IsElsewhere text others entry.1) (λ entry is symbol. is symbol) (outside_in files source units).parameters holds.parameters
      (parameters-are (exported (outside_in files source units))))

  -- ---- modules that can be named

  given-elsewhere : (others : List Binder) (name : List ℕ) → AllNamed (ComesElsewhere text others) (files name)
  given-elsewhere others name = foreign-holds text (ComesElsewhere text others) (foreign-elsewhere text others) (outsides name).view (foreign name)

  -- what the module of a name exports, behind these units
  pub view-elsewhere : (before : List UnitTree) (title : List ℕ) → AllByRecursion (IsElsewhere text (declaring before)) (meanings_of (exported (module_named text files words (kinds_behind outsides source units before).read title)))
  view-elsewhere before title =
      let others : List Binder = declaring before in
      let here = (elsewhere-holds before).0 in
      let view : AllNamed (ComesElsewhere text others) (module_named text files words (kinds_behind outsides source units before).read title) =
      module-says (AllNamed (ComesElsewhere text others)) files (kinds_behind outsides source units before).read.place.here.modules title (nothing-holds (ComesElsewhere text others)) (given-elsewhere others) here.modules in
      entries-mean (IsElsewhere text others) (exported (module_named text files words (kinds_behind outsides source units before).read title)) view.entries

  -- and inside of a nested module that begins there
  pub nested-elsewhere : (before : List UnitTree) (title name : List ℕ) → AllByRecursion (IsElsewhere text (declaring before)) (meanings_of (exported (named_in text outsides words (begun (kinds_behind outsides source units before).modules title) name).view))
  nested-elsewhere before title name =
      let others : List Binder = declaring before in
      let here = (elsewhere-holds before).0 in
      let reading = (kinds_behind outsides source units before).read.place.here in
      let inner = added-known (AllNamed (ComesElsewhere text others)) reading.modules title None here.modules tt in
      let view : AllNamed (ComesElsewhere text others) (module_at files (inside reading.modules title) name) =
      module-says (AllNamed (ComesElsewhere text others)) files (inside reading.modules title) name (nothing-holds (ComesElsewhere text others)) (given-elsewhere others) inner in
      let entries : AllByRecursion (OfEntry (ComesElsewhere text others)) (exports_under (exports_by files) (meaning (inside reading.modules title) name) name) =
      subst (AllByRecursion (OfEntry (ComesElsewhere text others))) (sym (brings-exported files (meaning (inside reading.modules title) name) name)) view.entries in
      entries-mean (IsElsewhere text others) (exported (named_in text outsides words (begun (kinds_behind outsides source units before).modules title) name).view)
      (subst (AllByRecursion (OfEntry (ComesElsewhere text others))) (nested-same outsides source units before title name) entries)

  -- ---- symbols of nested modules

  -- of a nested module that ends behind these units
  pub ended-symbols : (before behind : List UnitTree) → units.units ≡ before ++ behind
      → AllByRecursion (IsElsewhere text (symbols_in units.units)) (symbols_of (nested_outside (kinds_behind outsides source units before) (kinds_behind outsides source units before).read.place.round))
  ended-symbols before behind split = by (kinds_behind outsides source units before).read.place.round
    where
      by : (round : List Reading) → AllByRecursion (IsElsewhere text (symbols_in units.units)) (symbols_of (nested_outside (kinds_behind outsides source units before) round))
      by [] = tt
      by (outer ∷ round) =
          let others : List Binder = symbols_in units.units in
          let entries : Exports = exports_of (kinds_behind outsides source units before).read.place.here.exports in
          let test : Named × Meaning → Bool = λ entry. not (has outer.context entry.0) in
          entries-mean (IsElsewhere text others) (own_parameters outer.context entries)
          (both-hold (OfEntry (SymbolElsewhere text others)) (λ entry. IsSymbol entry.1) (λ entry. IsElsewhere text others entry.1) (λ entry is symbol. is symbol) (own_parameters outer.context entries)
          (all-passing (OfEntry (SymbolElsewhere text others)) test (parameters_in entries)
          (all-passing (OfEntry (SymbolElsewhere text others)) (λ (entry : Named × Meaning). is_meant stands_for_parameter entry.1) entries (symbols-hold before behind split).0.exports))
          (all-passing (λ (entry : Named × Meaning). IsSymbol entry.1) test (parameters_in entries) (parameters-are entries)))

  -- what files export
  pub files-elsewhere : (name : List ℕ) → AllByRecursion (IsElsewhere text []) (meanings_of (exported (outsides name).view))
  files-elsewhere name = entries-mean (IsElsewhere text []) (exported (outsides name).view) (given-elsewhere [] name).entries
