-- While a module is read, symbols take as many expressions as they have places, and names stand behind instances alone.
use Rattle.std.proofs.Common.{◌≡◌, ℕ, List, [], ◌∷◌, ◌++◌, ◌⊎◌, inl, inr, Bool, true, false, cond, Option, Some, None, is_some, refl, sym, subst, ◌∙◌, map, if◌then◌else◌}
use Rattle.std.specs.Prelude.{filter}
use Rattle.std.specs.Option.{option_or}
use Rattle.std.specs.List.{AllByRecursion}
use Rattle.std.specs.Str.{bytes_eq}
use Rattle.std.proofs.lemmas.Bool.{false≢true}
use Rattle.list_laws.proofs.Lists.{all-both}
use Rattle.tla_symbols.specs.declared.lexeme.LexKind.{LexKind}
use Rattle.tla_symbols.specs.declared.lexeme.Lexeme.{Lexeme}
use Rattle.tla_symbols.specs.declared.op.Op.{Op}
use Rattle.tla_tree.specs.declared.form.Form.TheVariants as Form
use Rattle.tla_tree.specs.Syntax.{Tree, Node}
use Rattle.unit_grammar.specs.Units.{UnitTree, Variables, Constants, OperatorDefinition, FunctionDefinition, ModuleDefinition, Instance, Assumption, Theorem, Line, ModuleBegin, ModuleEnd, ModuleUnits}
use Rattle.tla_model.specs.declared.entity.Entity.TheVariants as entity
use Rattle.tla_model.specs.declared.ids.DeclId.{DeclId}
use Rattle.tla_model.specs.declared.ids.UnitId.{UnitId}
use Rattle.tla_model.specs.declared.names.Binder.{Binder}
use Rattle.tla_model.specs.declared.names.Meaning.TheVariants.{BuiltIn, Declared}
use Rattle.tla_model.specs.Tables.{Table, Named, Symbol, Word, added, has, lookup, put, same_named, same_symbol}
use Rattle.tla_model.specs.Entities.{Meaning, Text, declaration, meant, name_by, name_of, same_decl, variables}
use Rattle.tla_model.specs.Contexts.{Context, meaning_of}
use Rattle.tla_model.specs.Lexemes.{spelled}
use Rattle.tla_model.specs.Scopes.{definition}
use Rattle.module_scope.specs.Environments.{Environment, behind, meaning}
use Rattle.module_model.specs.Exports.{Behind, Exports, Known, ModuleView, and_known, behind_instance, behind_meaning, entries_from, entry_of, exported, exports_by, exports_of, instantiable, is_instance, is_meant, known_among, known_as, known_by, none_known, nothing, of_symbols, of_words, onward, stands_behind}
use Rattle.module_model.specs.Instances.{all_named_instances, brought_by, brought_entries, nested_view, through, unit_trees}
use Rattle.module_model.specs.Modules.{Reading, begun_in, brings, clashes, constants, declare_all, extended, extends_all, exports_under, joined, left, nested, text_of, unread, with_entry}
use Rattle.module_model.specs.NamedModules.{behind_named, exported_known, known_from_all, known_named, module_at, module_under, unit_of, view_of}
use Rattle.module_model.specs.Resolution.{ReadState, after, begun_state, first, inside_nested, instance_brings, known_brought, known_in, last, module_named, outside_in, read_all, read_on, with_known, words_of}
use Rattle.flattened_trees.specs.Readable.{IsInstanceOf, orders_of}
use Rattle.readable_laws.specs.Accepted.{AreBehindInstances, IsBehindInstances, TakePlaces}
use Rattle.readable_laws.specs.Steady.{EntryTakes, IsSteady, IsSteadyModule, IsSteadyReading, IsSteadyView, NameTakes}
use Rattle.readable_laws.proofs.Contexts.{Fits, put-meant}
use Rattle.readable_laws.proofs.Paths.{first-leads}

-- ---- tables

-- what is added to a list is the last of it, or it stays as it is
all-added : {K V : Type 0} (P : K × V → Type 0) (same : K → K → Bool) (entries : List (K × V)) (key : K) (value : V) → AllByRecursion P entries → P (key, value) → AllByRecursion P (added same entries key value)
all-added {K} {V} P same entries key value all one = by (is_some (lookup same entries key))
  where
    by : (b : Bool) → AllByRecursion P (if b then entries else entries ++ (key, value) ∷ [])
    by true = all
    by false = all-both P entries ((key, value) ∷ []) all (one, tt)

-- what is found in a list is in it
all-found : {K V : Type 0} (P : K × V → Type 0) (same : K → K → Bool) (entries : List (K × V)) (key : K) (value : V) → AllByRecursion P entries → lookup same entries key ≡ Some value → (k : K) × P (k, value)
all-found P same [] key value all at = absurd (cc)
all-found {K} {V} P same (entry ∷ rest) key value all at = by (same key entry.0) (λ e. all-found P same rest key value all.1 e) at
  where
    by : (b : Bool) → (lookup same rest key ≡ Some value → (k : K) × P (k, value)) → (if b then Some entry.1 else lookup same rest key) ≡ Some value → (k : K) × P (k, value)
    by true later at = let is : entry.1 ≡ value = cc at in (entry.0, subst (λ v. P (entry.0, v)) is all.0)
    by false later at = later at

all-filter : {A : Type 0} (P : A → Type 0) (test : A → Bool) (xs : List A) → AllByRecursion P xs → AllByRecursion P (filter test xs)
all-filter P test [] all = tt
all-filter {A} P test (x ∷ xs) all = by (test x) (all-filter P test xs all.1)
  where
    by : (b : Bool) → AllByRecursion P (filter test xs) → AllByRecursion P (cond b (x ∷ filter test xs) (filter test xs))
    by true later = (all.0, later)
    by false later = later

-- the symbols of a table
abbrev SymbolTakes : Op × Meaning → Type 0
SymbolTakes symbol = NameTakes (Symbol symbol.0) symbol.1

words-take : (words : List (List ℕ × Meaning)) → AllByRecursion EntryTakes (of_words words)
words-take [] = tt
words-take (word ∷ rest) = (tt, words-take rest)

symbols-take : (symbols : List (Op × Meaning)) → AllByRecursion SymbolTakes symbols → AllByRecursion EntryTakes (of_symbols symbols)
symbols-take [] all = tt
symbols-take (symbol ∷ rest) all = (all.0, symbols-take rest all.1)

taken-symbols : (symbols : List (Op × Meaning)) → AllByRecursion EntryTakes (of_symbols symbols) → AllByRecursion SymbolTakes symbols
taken-symbols [] all = tt
taken-symbols (symbol ∷ rest) all = (all.0, taken-symbols rest all.1)

later-take : (words : List (List ℕ × Meaning)) (entries : Exports) → AllByRecursion EntryTakes (of_words words ++ entries) → AllByRecursion EntryTakes entries
later-take [] entries all = all
later-take (word ∷ rest) entries all = later-take rest entries all.1

table-takes : (table : Table Meaning) → AllByRecursion SymbolTakes table.symbols → AllByRecursion EntryTakes (exports_of table)
table-takes table all = all-both EntryTakes (of_words table.words) (of_symbols table.symbols) (words-take table.words) (symbols-take table.symbols all)

put-takes : (table : Table Meaning) (name : Named) (m : Meaning) → AllByRecursion EntryTakes (exports_of table) → NameTakes name m → AllByRecursion EntryTakes (exports_of (put table name m))
put-takes table (Word bytes) m all one =
    table-takes (put table (Word bytes) m) (taken-symbols table.symbols (later-take table.words (of_symbols table.symbols) all))
put-takes table (Symbol op) m all one =
    table-takes (put table (Symbol op) m) (all-added SymbolTakes same_symbol table.symbols op m (taken-symbols table.symbols (later-take table.words (of_symbols table.symbols) all)) one)

context-put : (context : Context) (name : Named) (m : Meaning) → TakePlaces context → NameTakes name m → TakePlaces (put context name (Some m))
context-put context name m old one op other at = by (put-meant context name (Some m) op other at)
  where
    by : (meaning_of context (Symbol op) ≡ Some other) ⊎ ((name ≡ Symbol op) × (Some m ≡ Some other)) → NameTakes (Symbol op) other
    by (inl before) = old op other before
    by (inr new) = let is : m ≡ other = cc new.1 in subst (NameTakes (Symbol op)) is (subst (λ n. NameTakes n m) new.0 one)

-- ---- readings

entry-keeps : (local : Bool) (reading : Reading) (name : Named) (m : Meaning) → IsSteadyReading reading → NameTakes name m → IsSteadyReading (with_entry local reading name m)
entry-keeps true reading name m steady one = record { context = context-put reading.context name m steady.context one; exports = steady.exports; modules = steady.modules }
entry-keeps false reading name m steady one = record { context = context-put reading.context name m steady.context one; exports = put-takes reading.exports name m steady.exports one; modules = steady.modules }

either-keeps : (b : Bool) (one two : Reading) → IsSteadyReading one → IsSteadyReading two → IsSteadyReading (if b then one else two)
either-keeps true one two is also = is
either-keeps false one two is also = also

joined-keeps : (local : Bool) (reading : Reading) (entries : Exports) → IsSteadyReading reading → AllByRecursion EntryTakes entries → IsSteadyReading (joined local reading entries)
joined-keeps local reading [] steady all = steady
joined-keeps local reading (entry ∷ rest) steady all =
    let other : Reading = with_entry local reading entry.0 entry.1 in
    joined-keeps local (if clashes reading.context entry then reading else other) rest (either-keeps (clashes reading.context entry) reading other steady (entry-keeps local reading entry.0 entry.1 steady all.0)) all.1

named-takes : (bytes : List ℕ) (kind : LexKind) (m : Meaning) → ((op : Op) → kind ≡ LexKind.Sym op → NameTakes (Symbol op) m) → NameTakes (name_by bytes kind) m
named-takes bytes (LexKind.Sym op) m takes = takes op refl
named-takes bytes LexKind.Name m takes = tt
named-takes bytes _ m takes = tt

module _ (text : Text) where
  binder-takes : (binder : Binder) → Fits binder → NameTakes (name_of text.source binder.name) (meant text binder)
  binder-takes binder fits = named-takes (spelled text.source binder.name) binder.name.kind (meant text binder) (λ op is. let takes = fits.fit op is in (takes.apart binder.name text, takes.takes))

  declared-keeps : (local : Bool) (reading : Reading) (binders : List Binder) → IsSteadyReading reading → AllByRecursion Fits binders → IsSteadyReading (declare_all text local reading binders)
  declared-keeps local reading [] steady all = steady
  declared-keeps local reading (binder ∷ rest) steady all =
      let name = name_of text.source binder.name in
      let other : Reading = with_entry local reading name (meant text binder) in
      declared-keeps local (if has reading.context name then reading else other) rest (either-keeps (has reading.context name) reading other steady (entry-keeps local reading name (meant text binder) steady (binder-takes binder all.0))) all.1

-- ---- what stands behind names

none-behind : IsBehindInstances (λ path. [])
none-behind path name m at = absurd (cc)

both-behind : (a b : Known) → AreBehindInstances a → AreBehindInstances b → AreBehindInstances (and_known a b)
both-behind a b is also decl held at = by (a decl) refl at
  where
    by : (o : Option Behind) → a decl ≡ o → option_or o (b decl) ≡ Some held → IsBehindInstances held
    by None e at = also decl held at
    by (Some other) e at = is decl held (e ∙ at)

none-known-behind : AreBehindInstances none_known
none-known-behind decl held at = absurd (cc)

as-behind : (instance : DeclId) (behind : Behind) → IsBehindInstances behind → AreBehindInstances (known_as instance behind)
as-behind instance behind is decl held at = by (same_decl decl instance) at
  where
    by : (b : Bool) → (if b then Some behind else None) ≡ Some held → IsBehindInstances held
    by true at = let same : behind ≡ held = cc at in subst IsBehindInstances same is
    by false at = absurd (cc at)

by-behind : (behind : Behind) (m : Meaning) → IsBehindInstances behind → AreBehindInstances (known_by behind m)
by-behind behind BuiltIn is = none-known-behind
by-behind behind (Declared e callee) is = by (is_instance e)
  where
    by : (b : Bool) → AreBehindInstances (if b then known_as callee.decl behind else none_known)
    by true = as-behind callee.decl behind is
    by false = none-known-behind

onward-behind : (held : Behind) (name : Named) → IsBehindInstances held → IsBehindInstances (onward held name)
onward-behind held name is path other m at = is (name ∷ path) other m at

among-behind : (view : ModuleView) (entries : Exports) → IsBehindInstances view.entries → AreBehindInstances (known_among view entries)
among-behind view [] is = none-known-behind
among-behind view (entry ∷ rest) is =
    both-behind (known_by (onward view.entries entry.0) entry.1) (known_among view rest) (by-behind (onward view.entries entry.0) entry.1 (onward-behind view.entries entry.0 is)) (among-behind view rest is)

-- what stands behind instances is the first that does
abbrev Kept : Option Meaning → Meaning → Type 0
Kept o m = (n : Meaning) × (o ≡ Some n) × (is_meant stands_behind n ≡ true → n ≡ m)

kept-first : (entries : Exports) (name : Named) (m : Meaning) → entry_of (instantiable entries) name ≡ Some m → Kept (entry_of entries name) m
kept-first [] name m at = absurd (cc)
kept-first (entry ∷ rest) name m at = by (is_meant stands_behind entry.1) refl (λ e. kept-first rest name m e) at
  where
    kept : (s : Bool) → (entry_of (instantiable rest) name ≡ Some m → Kept (entry_of rest name) m) → (if s then Some entry.1 else entry_of (instantiable rest) name) ≡ Some m → Kept (if s then Some entry.1 else entry_of rest name) m
    kept true later at = (entry.1, refl, λ is. cc at)
    kept false later at = later at

    passed : (s : Bool) → is_meant stands_behind entry.1 ≡ false → Kept (entry_of rest name) m → Kept (if s then Some entry.1 else entry_of rest name) m
    passed true e later = (entry.1, refl, λ is. absurd (false≢true (sym e ∙ is)))
    passed false e later = later

    by : (b : Bool) → is_meant stands_behind entry.1 ≡ b → (entry_of (instantiable rest) name ≡ Some m → Kept (entry_of rest name) m) → entry_of (cond b (entry ∷ instantiable rest) (instantiable rest)) name ≡ Some m
        → Kept (if same_named name entry.0 then Some entry.1 else entry_of rest name) m
    by true e later at = kept (same_named name entry.0) later at
    by false e later at = passed (same_named name entry.0) e (later at)

instance-stands : (m : Meaning) → IsInstanceOf m (orders_of m) → is_meant stands_behind m ≡ true
instance-stands (Declared (entity.Instance is) callee) h = refl
instance-stands _ h = absurd h

instance-behind : (view : ModuleView) → IsBehindInstances view.entries → IsBehindInstances (behind_instance view)
instance-behind view is [] name m at =
    let kept = kept-first (exported view) name m at in
    elim (is [] name kept.0 kept.1) as (λ _. IsInstanceOf m (orders_of m) ⊎ (view.entries (name ∷ []) ≡ [])) [
      | inl instance ↦ inl (subst (λ n. IsInstanceOf n (orders_of n)) (kept.2 (instance-stands kept.0 instance)) instance)
      | inr none ↦ inr none
    ]
instance-behind view is (step ∷ path) name m at = is (step ∷ path) name m at

-- what stands at paths from entries
from-behind : (known : Known) (entries : Exports) → AreBehindInstances known → IsBehindInstances (entries_from known entries)
from-behind known entries all [] name m at = subst (λ o. IsInstanceOf m (orders_of m) ⊎ (behind_meaning known o [] ≡ [])) (sym at) (by m)
  where
    by : (m : Meaning) → IsInstanceOf m (orders_of m) ⊎ (behind_meaning known (Some m) [] ≡ [])
    by BuiltIn = inr refl
    by (Declared (entity.Instance is) callee) = inl refl
    by (Declared _ callee) = inr refl
from-behind known entries all (step ∷ path) name m at = by (entry_of entries step) at
  where
    by : (o : Option Meaning) → entry_of (behind_meaning known o path) name ≡ Some m → IsInstanceOf m (orders_of m) ⊎ (behind_meaning known o (path ++ name ∷ []) ≡ [])
    by None at = absurd (cc)
    by (Some meant) at = (first-leads known all meant).further path name m at

-- ---- modules that can be named

nothing-steady : IsSteadyView nothing
nothing-steady = record { entries = tt; behind = none-behind }

module _ (files : List ℕ → ModuleView) (steady : (name : List ℕ) → IsSteadyView (files name)) where
  named-steady : (modules : Environment ModuleView) (name : List ℕ) → AllByRecursion IsSteadyModule modules → IsSteadyView (module_at files modules name)
  named-steady modules name all = by (meaning modules name) refl
    where
      by : (o : Option (Option ModuleView)) → meaning modules name ≡ o → IsSteadyView (module_under files o name)
      by None e = steady name
      by (Some None) e = nothing-steady
      by (Some (Some view)) e = (all-found IsSteadyModule bytes_eq modules name (Some view) all e).1

  brings-take : (modules : Environment ModuleView) (name : List ℕ) → AllByRecursion IsSteadyModule modules → AllByRecursion EntryTakes (exports_under (exports_by files) (meaning modules name) name)
  brings-take modules name all = by (meaning modules name) refl
    where
      by : (o : Option (Option ModuleView)) → meaning modules name ≡ o → AllByRecursion EntryTakes (exports_under (exports_by files) o name)
      by None e = (steady name).entries
      by (Some None) e = tt
      by (Some (Some view)) e = ((all-found IsSteadyModule bytes_eq modules name (Some view) all e).1).entries

  extends-keep : (text : Text) (reading : Reading) (names : List Lexeme) → IsSteadyReading reading → IsSteadyReading (extends_all text (exports_by files) reading names)
  extends-keep text reading [] is = is
  extends-keep text reading (l ∷ rest) is =
      extends-keep text (extended reading (brings text (exports_by files) reading l)) rest (joined-keeps false reading (brings text (exports_by files) reading l) is (brings-take reading.modules (spelled text.source l) is.modules))

  extended-behind : (text : Text) (modules : Environment ModuleView) (names : List Lexeme) → AllByRecursion IsSteadyModule modules → AreBehindInstances (known_from_all text (module_at files modules) names)
  extended-behind text modules [] all = none-known-behind
  extended-behind text modules (l ∷ rest) all =
      let view = module_at files modules (spelled text.source l) in
      both-behind (exported_known view) (known_from_all text (module_at files modules) rest) (among-behind view (exported view) (named-steady modules (spelled text.source l) all).behind) (extended-behind text modules rest all)

  own-behind : (text : Text) (modules : Environment ModuleView) (instances : List (Lexeme × Option Lexeme)) → AllByRecursion IsSteadyModule modules → AreBehindInstances (known_named text (module_at files modules) instances)
  own-behind text modules [] all = none-known-behind
  own-behind text modules (instance ∷ rest) all =
      let held = behind_named text (module_at files modules) instance.1 in
      both-behind (known_as (declaration text instance.0) held) (known_named text (module_at files modules) rest) (as-behind (declaration text instance.0) held (by instance.1)) (own-behind text modules rest all)
    where
      by : (o : Option Lexeme) → IsBehindInstances (behind_named text (module_at files modules) o)
      by None = none-behind
      by (Some l) = instance-behind (module_at files modules (spelled text.source l)) (named-steady modules (spelled text.source l) all).behind

-- what comes through an INSTANCE takes what it takes
through-takes : (unit : UnitId) (name : Named) (m : Meaning) → NameTakes name m → NameTakes name (through unit m)
through-takes unit (Word bytes) m takes = tt
through-takes unit (Symbol op) BuiltIn takes = takes
through-takes unit (Symbol op) (Declared (entity.Instance is) callee) takes = takes
through-takes unit (Symbol op) (Declared e callee) takes = takes

all-through : (unit : UnitId) (entries : Exports) → AllByRecursion EntryTakes entries → AllByRecursion EntryTakes (map (λ entry. (entry.0, through unit entry.1)) entries)
all-through unit [] all = tt
all-through unit (entry ∷ rest) all = (through-takes unit entry.0 entry.1 all.0, all-through unit rest all.1)

brought-take : (unit : UnitId) (view : ModuleView) → IsSteadyView view → AllByRecursion EntryTakes (brought_by unit view)
brought-take unit view is = by view.parameters
  where
    kept : AllByRecursion EntryTakes (instantiable (exported view))
    kept = all-filter EntryTakes (λ (entry : Named × Meaning). is_meant stands_behind entry.1) (exported view) is.entries

    by : (parameters : Exports) → AllByRecursion EntryTakes (brought_entries unit parameters (instantiable (exported view)))
    by [] = kept
    by (parameter ∷ rest) = all-through unit (instantiable (exported view)) kept

-- ---- units

-- the names that a unit declares fit
abbrev pub UnitFits : UnitTree → Type 0
UnitFits (Variables names) = AllByRecursion Fits (variables names)
UnitFits (Constants declarations) = AllByRecursion Fits (constants declarations)
UnitFits (OperatorDefinition local x) = AllByRecursion Fits (definition x)
UnitFits (FunctionDefinition local x) = AllByRecursion Fits (definition x)
UnitFits (ModuleDefinition local x) = AllByRecursion Fits (definition x)
UnitFits unit = Unit {0}

module _ (text : Text) (files : List ℕ → ModuleView) (words : List ℕ) (steady : (name : List ℕ) → IsSteadyView (files name)) where
  -- what can be named in a unit stands behind instances
  pub known-steady : (state : ReadState) (unit : UnitTree) → IsSteady state → AreBehindInstances (known_in text files words state unit)
  known-steady state unit is =
      both-behind state.known (known_named text (module_named text files words state) (all_named_instances (unit_trees unit))) is.known
      (own-behind files steady text state.place.here.modules (all_named_instances (unit_trees unit)) is.here.modules)

  on-steady : (state : ReadState) (unit : UnitTree) (reading : Reading) → IsSteady state → IsSteadyReading reading → IsSteady (read_on text files words state unit reading)
  on-steady state unit reading is here = record { known = known-steady state unit is; here = here; round = is.round }

  with-steady : (state : ReadState) (more : Known) → IsSteady state → AreBehindInstances more → IsSteady (with_known text files words state more)
  with-steady state more is also = record { known = both-behind state.known more is.known also; here = is.here; round = is.round }

  brings-steady : (state : ReadState) (x : Tree) → IsSteady state → AllByRecursion EntryTakes (instance_brings text files words state x)
  brings-steady state (Node (Form.Instance l) s parts) is = brought-take (unit_of text words l) (view_of text (module_named text files words state) l) (named-steady files steady state.place.here.modules (spelled text.source l) is.here.modules)
  brings-steady state (Node Form.Let s parts) is = tt
  brings-steady state (Node _ s parts) is = tt

  brought-known : (state : ReadState) (x : Tree) → IsSteady state → AreBehindInstances (known_brought text files words state x)
  brought-known state (Node (Form.Instance l) s parts) is =
      let view = view_of text (module_named text files words state) l in
      among-behind view (exported view) (named-steady files steady state.place.here.modules (spelled text.source l) is.here.modules).behind
  brought-known state (Node Form.Let s parts) is = none-known-behind
  brought-known state (Node _ s parts) is = none-known-behind

  nested-steady : (reading : Reading) (title : List ℕ) → IsSteadyReading reading → IsSteadyReading (begun_in reading title)
  nested-steady reading title is = record { context = is.context; exports = tt; modules = all-added IsSteadyModule bytes_eq reading.modules title None is.modules tt }

  left-steady : (known : Known) (inner : Reading) (round : List Reading) → AreBehindInstances known → IsSteadyReading inner → AllByRecursion IsSteadyReading round → IsSteady (record { place = left known inner round; known = known })
  left-steady known inner [] is here all = record { known = is; here = here; round = tt }
  left-steady known inner (outer ∷ round) is here all = record {
    known = is;
    here = record {
      context = all.0.context;
      exports = all.0.exports;
      modules = all-added IsSteadyModule bytes_eq outer.modules inner.name (Some (nested_view known outer.context (exports_of inner.exports))) all.0.modules (record { entries = here.exports; behind = from-behind known (exports_of inner.exports) is });
    };
    round = all.1;
  }

  pub after-steady : (state : ReadState) (unit : UnitTree) → UnitFits unit → IsSteady state → IsSteady (after text files words state unit)
  after-steady state (Variables names) fits is = on-steady state (Variables names) (declare_all text false state.place.here (variables names)) is (declared-keeps text false state.place.here (variables names) is.here fits)
  after-steady state (Constants declarations) fits is = on-steady state (Constants declarations) (declare_all text false state.place.here (constants declarations)) is (declared-keeps text false state.place.here (constants declarations) is.here fits)
  after-steady state (OperatorDefinition local x) fits is = on-steady state (OperatorDefinition local x) (declare_all text (is_some local) state.place.here (definition x)) is (declared-keeps text (is_some local) state.place.here (definition x) is.here fits)
  after-steady state (FunctionDefinition local x) fits is = on-steady state (FunctionDefinition local x) (declare_all text (is_some local) state.place.here (definition x)) is (declared-keeps text (is_some local) state.place.here (definition x) is.here fits)
  after-steady state (ModuleDefinition local x) fits is = on-steady state (ModuleDefinition local x) (declare_all text (is_some local) state.place.here (definition x)) is (declared-keeps text (is_some local) state.place.here (definition x) is.here fits)
  after-steady state (Instance local x) fits is =
      let here : Reading = joined (is_some local) state.place.here (instance_brings text files words state x) in
      with-steady (read_on text files words state (Instance local x) here) (known_brought text files words state x)
      (on-steady state (Instance local x) here is (joined-keeps (is_some local) state.place.here (instance_brings text files words state x) is.here (brings-steady state x is))) (brought-known state x is)
  after-steady state (ModuleBegin dashes name extends) fits is =
      let inner : ReadState = inside_nested text files words state name extends in
      let here : IsSteadyReading inner.place.here = extends-keep files steady text (nested text state.place.here name) extends (nested-steady state.place.here (spelled text.source name) is.here) in
      with-steady inner (known_from_all text (module_named text files words inner) extends) (record { known = is.known; here = here; round = (is.here, is.round) }) (extended-behind files steady text inner.place.here.modules extends here.modules)
  after-steady state (ModuleEnd closing) fits is = left-steady state.known state.place.here state.place.round is.known is.here is.round
  after-steady state (Assumption word name x) fits is = on-steady state (Assumption word name x) state.place.here is is.here
  after-steady state (Theorem word name x) fits is = on-steady state (Theorem word name x) state.place.here is is.here
  after-steady state (Line dashes) fits is = on-steady state (Line dashes) state.place.here is is.here

  pub all-steady : (state : ReadState) (units : List UnitTree) → AllByRecursion UnitFits units → IsSteady state → IsSteady (read_all text files words state units)
  all-steady state [] fits is = is
  all-steady state (unit ∷ units) fits is = all-steady (after text files words state unit) units fits.1 (after-steady state unit fits.0 is)

pub first-steady : (files : List ℕ → ModuleView) (source : List ℕ) (units : ModuleUnits) → ((name : List ℕ) → IsSteadyView (files name)) → IsSteady (first files source units)
first-steady files source units steady =
    let text = text_of source units in
    let words = words_of units in
    let state : ReadState = begun_state files source units in
    let start : IsSteadyReading (unread text) = record { context = λ op m at. absurd (cc at); exports = tt; modules = (tt, tt) } in
    let here : IsSteadyReading state.place.here = extends-keep files steady text (unread text) units.extends start in
    with-steady text files words steady state (known_from_all text (module_named text files words state) units.extends) (record { known = none-known-behind; here = here; round = tt }) (extended-behind files steady text state.place.here.modules units.extends here.modules)

pub outside-steady : (files : List ℕ → ModuleView) (source : List ℕ) (units : ModuleUnits) → ((name : List ℕ) → IsSteadyView (files name)) → AllByRecursion UnitFits units.units → IsSteadyView (outside_in files source units)
outside-steady files source units steady fits =
    let state : ReadState = last files source units in
    let is : IsSteady state = all-steady (text_of source units) files (words_of units) steady (first files source units) units.units fits (first-steady files source units steady) in
    record { entries = is.here.exports; behind = from-behind state.known (exports_of state.place.here.exports) is.known }
