-- Symbols that can be used in a module are among its parameters.
use Rattle.std.proofs.Common.{◌≡◌, ℕ, Bool, true, false, cond, List, [], ◌∷◌, ◌++◌, ◌⊎◌, inl, inr, Option, Some, None, is_some, refl, sym, ap, subst, ◌∙◌, map}
use Rattle.std.specs.Prelude.{filter}
use Rattle.std.specs.List.{AllByRecursion}
use Rattle.std.specs.Str.{bytes_eq}
use Rattle.std.proofs.lemmas.Bool.{false≢true}
use Rattle.list_laws.proofs.Lists.{all-weaker}
use Rattle.list_laws.proofs.Options.{some-there}
use Rattle.list_laws.proofs.Texts.{text-itself}
use denote.Enum.Bare.{true_same}
use Rattle.tla_symbols.specs.contracts.op.Op as symbol_enum
use Rattle.tla_symbols.specs.declared.lexeme.Lexeme.{Lexeme}
use Rattle.tla_tree.specs.declared.form.Form.TheVariants as Form
use Rattle.tla_tree.specs.Syntax.{Tree, Node}
use Rattle.unit_grammar.specs.Derivation as u
use Rattle.unit_grammar.specs.Units.{UnitTree, Variables, Constants, OperatorDefinition, FunctionDefinition, ModuleDefinition, Instance, Assumption, Theorem, Line, ModuleBegin, ModuleEnd, ModuleUnits, defined as defined_unit}
use Rattle.tla_model.specs.declared.entity.Entity.TheVariants as entity
use Rattle.tla_model.specs.declared.ids.UnitId.{UnitId}
use Rattle.tla_model.specs.declared.names.Binder.{Binder}
use Rattle.tla_model.specs.declared.names.Binding.TheVariants as as_binding
use Rattle.tla_model.specs.declared.names.Meaning.TheVariants.{BuiltIn, Declared}
use Rattle.tla_model.specs.Tables.{Table, Named, Word, Symbol, added, empty, find, has, lookup, put, same_named, same_symbol}
use Rattle.tla_model.specs.Entities.{Meaning, Text, all_placed, bound_as, meant, name_of, variables}
use Rattle.tla_model.specs.Contexts.{built_in, meaning_of, usable}
use Rattle.tla_model.specs.Scopes.{definition}
use Rattle.module_model.specs.Exports.{Exports, Known, ModuleView, entry_of, exported, exports_by, exports_of, instantiable, is_meant, stands_behind, stands_for_parameter}
use Rattle.module_model.specs.Instances.{brought_by, brought_entries, through}
use Rattle.module_model.specs.Modules.{Reading, brings, clashes, constants, declare_all, extended, extends_all, joined, left, nested, text_of, unread, with_entry}
use Rattle.module_model.specs.NamedModules.{unit_of, view_of}
use Rattle.module_model.specs.Resolution.{ReadState, after, first, instance_brings, last, module_named, outside_in, read_all, words_of}
use Rattle.module_model.proofs.Entries.{entry-of-table}
use Rattle.flat_kinds.specs.Declarations.{declared_names}
use Rattle.readable_laws.specs.Steady.{state_behind}
use Rattle.accepted_modules.specs.Named.{AllNamed}
use Rattle.accepted_modules.specs.Offered.{IsOffered}
use Rattle.accepted_modules.proofs.Contexts.{built-in-is, usable-found}
use Rattle.accepted_modules.proofs.Holding.{AreOwn, Own, outside-holds}
use Rattle.accepted_modules.proofs.Tables.{put-finds, put-keeps}

-- ---- tables

module _ {K V : Type 0} (same : K → K → Bool) where
  behind-finds : (entries : List (K × V)) (key : K) (value : V) → same key key ≡ true → lookup same entries key ≡ None → lookup same (entries ++ (key, value) ∷ []) key ≡ Some value
  behind-finds [] key value itself none = ap (λ b. cond b (Some value) None) itself
  behind-finds (entry ∷ rest) key value itself none = by (same key entry.0) (behind-finds rest key value itself) none
    where
      by : (b : Bool) → (lookup same rest key ≡ None → lookup same (rest ++ (key, value) ∷ []) key ≡ Some value) → cond b (Some entry.1) (lookup same rest key) ≡ None → cond b (Some entry.1) (lookup same (rest ++ (key, value) ∷ []) key) ≡ Some value
      by true later none = absurd (cc none)
      by false later none = later none

  added-new : (entries : List (K × V)) (key : K) (value : V) → same key key ≡ true → lookup same entries key ≡ None → lookup same (added same entries key value) key ≡ Some value
  added-new entries key value itself none = ap (λ (o : Option V). lookup same (cond (is_some o) entries (entries ++ (key, value) ∷ [])) key) none ∙ behind-finds entries key value itself none

-- a name that is not there is found when it is put
pub put-new : {V : Type 0} (table : Table V) (name : Named) (value : V) → find table name ≡ None → find (put table name value) name ≡ Some value
put-new table (Word bytes) value none = added-new bytes_eq table.words bytes value (text-itself bytes bytes refl) none
put-new table (Symbol op) value none = added-new same_symbol table.symbols op value (true_same symbol_enum.the_type op op refl) none

-- one that is there is found as it was
put-old : {V : Type 0} (table : Table V) (name : Named) (value : V) (other : Named) (found : V) → find table name ≡ Some found → find (put table name value) other ≡ find table other
put-old {V} table (Word bytes) value (Word other) found at = ap (λ (o : Option V). lookup bytes_eq (cond (is_some o) table.words (table.words ++ (bytes, value) ∷ [])) other) at
put-old {V} table (Symbol op) value (Symbol other) found at = ap (λ (o : Option V). lookup same_symbol (cond (is_some o) table.symbols (table.symbols ++ (op, value) ∷ [])) other) at
put-old table (Word bytes) value (Symbol other) found at = refl
put-old table (Symbol op) value (Word other) found at = refl

-- ---- readings

-- a meaning is a constant or a variable
abbrev pub IsSymbol : Meaning → Type 0
IsSymbol m = is_meant stands_for_parameter m ≡ true

-- names that a module exports are there, and symbols that can be used are exported, or come from outside
pub record HasSymbols (outer : Named → Meaning → Type 0) (reading : Reading) : Type 0 where
  pub names : (name : Named) (m : Meaning) → find reading.exports name ≡ Some m → has reading.context name ≡ true
  pub symbols : (name : Named) (m : Meaning) → meaning_of reading.context name ≡ Some m → IsSymbol m → (find reading.exports name ≡ Some m) ⊎ outer name m

module _ (outer : Named → Meaning → Type 0) where
  -- a name that is new, or there already
  entry-has : (local : Bool) (reading : Reading) (name : Named) (m : Meaning) → HasSymbols outer reading → (local ≡ true → IsSymbol m → ⊥) → HasSymbols outer (with_entry local reading name m)
  entry-has local reading name m is no_symbol = by local no_symbol (find reading.context name) refl
    where
      there : (other : Named) → has reading.context other ≡ true → has (put reading.context name (Some m)) other ≡ true
      there other at =
          let found = some-there (find reading.context other) at in
          ap is_some (put-keeps reading.context name (Some m) other found.0 found.1)

      put-there : (o : Option (Option Meaning)) → find reading.context name ≡ o → has (put reading.context name (Some m)) name ≡ true
      put-there None at = ap is_some (put-new reading.context name (Some m) at)
      put-there (Some found) at = there name (ap is_some at)

      -- what is exported under a new name is that
      unexported : (o : Option Meaning) → find reading.exports name ≡ o → find reading.context name ≡ None → find reading.exports name ≡ None
      unexported None at none = at
      unexported (Some found) at none = absurd (cc (sym (ap is_some none) ∙ is.names name found at))

      old : (exports : Table Meaning) → ((other : Named) (n : Meaning) → find reading.exports other ≡ Some n → find exports other ≡ Some n) → (other : Named) (n : Meaning) → meaning_of reading.context other ≡ Some n → IsSymbol n → (find exports other ≡ Some n) ⊎ outer other n
      old exports keeps other n at symbol = which (is.symbols other n at symbol)
        where
          which : (find reading.exports other ≡ Some n) ⊎ outer other n → (find exports other ≡ Some n) ⊎ outer other n
          which (inl found) = inl (keeps other n found)
          which (inr round) = inr round

      symbols-of : (exports : Table Meaning) → ((other : Named) (n : Meaning) → find reading.exports other ≡ Some n → find exports other ≡ Some n) → (find reading.context name ≡ None → IsSymbol m → find exports name ≡ Some m) → (o : Option (Option Meaning)) → find reading.context name ≡ o
          → (other : Named) (n : Meaning) → meaning_of (put reading.context name (Some m)) other ≡ Some n → IsSymbol n → (find exports other ≡ Some n) ⊎ outer other n
      symbols-of exports keeps new (Some found) at other n means symbol = old exports keeps other n (ap usable (sym (put-old reading.context name (Some m) other found at)) ∙ means) symbol
      symbols-of exports keeps new None at other n means symbol = which (put-finds reading.context name (Some m) other (Some n) (usable-found (find (put reading.context name (Some m)) other) n means))
        where
          which : (find reading.context other ≡ Some (Some n)) ⊎ ((other ≡ name) × (Some m ≡ Some n)) → (find exports other ≡ Some n) ⊎ outer other n
          which (inl before) = old exports keeps other n (ap usable before) symbol
          which (inr same) =
              let is_m : m ≡ n = cc same.1 in
              inl (subst (λ k. find exports k ≡ Some n) (sym same.0) (subst (λ k. find exports name ≡ Some k) is_m (new at (subst IsSymbol (sym is_m) symbol))))

      by : (local : Bool) → (local ≡ true → IsSymbol m → ⊥) → (o : Option (Option Meaning)) → find reading.context name ≡ o → HasSymbols outer (with_entry local reading name m)
      by true no_symbol o at = record {
        names = λ other n found. there other (is.names other n found);
        symbols = symbols-of reading.exports (λ other n found. found) (λ none symbol. absurd (no_symbol refl symbol)) o at;
      }
      by false no_symbol o at = record {
        names = λ other n found. which other n (put-finds reading.exports name m other n found);
        symbols = symbols-of (put reading.exports name m) (λ other n found. put-keeps reading.exports name m other n found) (λ none symbol. put-new reading.exports name m (unexported (find reading.exports name) refl none)) o at;
      }
        where
          which : (other : Named) (n : Meaning) → (find reading.exports other ≡ Some n) ⊎ ((other ≡ name) × (m ≡ n)) → has (put reading.context name (Some m)) other ≡ true
          which other n (inl before) = there other (is.names other n before)
          which other n (inr same) = subst (λ k. has (put reading.context name (Some m)) k ≡ true) (sym same.0) (put-there (find reading.context name) refl)

  either-has : (b : Bool) (one two : Reading) → HasSymbols outer one → HasSymbols outer two → HasSymbols outer (cond b one two)
  either-has true one two is also = is
  either-has false one two is also = also

  joined-has : (local : Bool) (reading : Reading) (entries : Exports) → HasSymbols outer reading → (local ≡ true → AllByRecursion (λ entry. IsSymbol entry.1 → ⊥) entries) → HasSymbols outer (joined local reading entries)
  joined-has local reading [] is none = is
  joined-has local reading (entry ∷ rest) is none =
      let other : Reading = with_entry local reading entry.0 entry.1 in
      joined-has local (cond (clashes reading.context entry) reading other) rest (either-has (clashes reading.context entry) reading other is (entry-has local reading entry.0 entry.1 is (λ l. (none l).0))) (λ l. (none l).1)

  declared-has : (text : Text) (local : Bool) (reading : Reading) (binders : List Binder) → HasSymbols outer reading → (local ≡ true → AllByRecursion (λ binder. IsSymbol (meant text binder) → ⊥) binders) → HasSymbols outer (declare_all text local reading binders)
  declared-has text local reading [] is none = is
  declared-has text local reading (binder ∷ rest) is none =
      let name = name_of text.source binder.name in
      let other : Reading = with_entry local reading name (meant text binder) in
      declared-has text local (cond (has reading.context name) reading other) rest (either-has (has reading.context name) reading other is (entry-has local reading name (meant text binder) is (λ l. (none l).0))) (λ l. (none l).1)

  extends-has : (text : Text) (files : List ℕ → Exports) (reading : Reading) (ls : List Lexeme) → HasSymbols outer reading → HasSymbols outer (extends_all text files reading ls)
  extends-has text files reading [] is = is
  extends-has text files reading (l ∷ rest) is = extends-has text files (extended reading (brings text files reading l)) rest (joined-has false reading (brings text files reading l) is (λ l. absurd (cc l)))

-- what the modules round one let be used in it
abbrev pub Outer : List Reading → Named → Meaning → Type 0
Outer [] name m = ⊥
Outer (outer ∷ round) name m = meaning_of outer.context name ≡ Some m

-- the same of a module and of those round it
abbrev pub HaveSymbols : Reading → List Reading → Type 0
HaveSymbols here [] = HasSymbols (Outer []) here
HaveSymbols here (outer ∷ round) = HasSymbols (Outer (outer ∷ round)) here × HaveSymbols outer round

-- the module that is read itself
pub here-has : (here : Reading) (round : List Reading) → HaveSymbols here round → HasSymbols (Outer round) here
here-has here [] all = all
here-has here (outer ∷ round) all = all.0

with-here : (here next : Reading) (round : List Reading) → HaveSymbols here round → HasSymbols (Outer round) next → HaveSymbols next round
with-here here next [] all is = is
with-here here next (outer ∷ round) all is = (is, all.1)

left-have : (known : Known) (inner : Reading) (round : List Reading) → HaveSymbols inner round → HaveSymbols (left known inner round).here (left known inner round).round
left-have known inner [] all = all
left-have known inner (outer ∷ round) all = by round all.1
  where
    by : (round : List Reading) → HaveSymbols outer round → HaveSymbols (left known inner (outer ∷ round)).here round
    by [] is = record { names = is.names; symbols = is.symbols }
    by (next ∷ round) is = (record { names = is.0.names; symbols = is.0.symbols }, is.1)

-- ---- units

pub no-symbol : (m : Meaning) → is_meant stands_behind m ≡ true → IsSymbol m → ⊥
no-symbol BuiltIn behind symbol = cc symbol
no-symbol (Declared (entity.Definition orders) callee) behind symbol = cc symbol
no-symbol (Declared (entity.Instance orders) callee) behind symbol = cc symbol
no-symbol (Declared _ callee) behind symbol = cc behind

-- an entry is a definition or an instance
abbrev IsBehind : Named × Meaning → Type 0
IsBehind entry = is_meant stands_behind entry.1 ≡ true

through-behind : (unit : UnitId) (m : Meaning) → is_meant stands_behind m ≡ true → is_meant stands_behind (through unit m) ≡ true
through-behind unit BuiltIn behind = behind
through-behind unit (Declared e callee) behind = behind

behind-passed : (unit : UnitId) (entries : Exports) → AllByRecursion IsBehind entries → AllByRecursion IsBehind (map (λ entry. (entry.0, through unit entry.1)) entries)
behind-passed unit [] all = tt
behind-passed unit (entry ∷ rest) all = (through-behind unit entry.1 all.0, behind-passed unit rest all.1)

all-behind : (entries : Exports) → AllByRecursion IsBehind (instantiable entries)
all-behind [] = tt
all-behind (entry ∷ rest) = by (is_meant stands_behind entry.1) refl (all-behind rest)
  where
    by : (b : Bool) → is_meant stands_behind entry.1 ≡ b → AllByRecursion IsBehind (instantiable rest) → AllByRecursion IsBehind (cond b (entry ∷ instantiable rest) (instantiable rest))
    by true is later = (is, later)
    by false is later = later

brought-behind : (unit : UnitId) (view : ModuleView) → AllByRecursion IsBehind (brought_by unit view)
brought-behind unit view = by view.parameters
  where
    by : (parameters : Exports) → AllByRecursion IsBehind (brought_entries unit parameters (instantiable (exported view)))
    by [] = all-behind (exported view)
    by (parameter ∷ rest) = behind-passed unit (instantiable (exported view)) (all-behind (exported view))

pub brings-behind : (text : Text) (files : List ℕ → ModuleView) (words : List ℕ) (state : ReadState) (x : Tree) → AllByRecursion IsBehind (instance_brings text files words state x)
brings-behind text files words state (Node (Form.Instance l) s parts) = brought-behind (unit_of text words l) (view_of text (module_named text files words state) l)
brings-behind text files words state (Node Form.Let s parts) = tt
brings-behind text files words state (Node _ s parts) = tt

pub defined-behind : (text : Text) (x : Tree) → AllByRecursion (λ binder. is_meant stands_behind (meant text binder) ≡ true) (definition x)
defined-behind text (Node (Form.OperatorDefinition l) s parts) = (refl, tt)
defined-behind text (Node (Form.PrefixDefinition l) s parts) = (refl, tt)
defined-behind text (Node (Form.InfixDefinition l) s parts) = (refl, tt)
defined-behind text (Node (Form.PostfixDefinition l) s parts) = (refl, tt)
defined-behind text (Node (Form.FunctionDefinition l) s parts) = (refl, tt)
defined-behind text (Node (Form.ModuleDefinition l) s parts) = (refl, tt)
defined-behind text (Node _ s parts) = tt

pub defined-none : (text : Text) (x : Tree) → AllByRecursion (λ binder. IsSymbol (meant text binder) → ⊥) (definition x)
defined-none text x = all-weaker (λ (binder : Binder). is_meant stands_behind (meant text binder) ≡ true) (λ (binder : Binder). IsSymbol (meant text binder) → ⊥) (λ binder behind. no-symbol (meant text binder) behind) (definition x) (defined-behind text x)

-- ---- what is exported stays

-- what one module exports another does too
abbrev pub Grows : Reading → Reading → Type 0
Grows old new = (name : Named) (m : Meaning) → find old.exports name ≡ Some m → find new.exports name ≡ Some m

-- the module of the text, of those round a place
abbrev outermost : Reading → List Reading → Reading
outermost here [] = here
outermost here (outer ∷ round) = outermost outer round

entry-grows : (local : Bool) (reading : Reading) (name : Named) (m : Meaning) → Grows reading (with_entry local reading name m)
entry-grows true reading name m other n at = at
entry-grows false reading name m other n at = put-keeps reading.exports name m other n at

either-grows : (b : Bool) (reading other : Reading) → Grows reading other → Grows reading (cond b reading other)
either-grows true reading other grows = λ name m at. at
either-grows false reading other grows = grows

pub joined-grows : (local : Bool) (reading : Reading) (entries : Exports) → Grows reading (joined local reading entries)
joined-grows local reading [] = λ name m at. at
joined-grows local reading (entry ∷ rest) =
    let other : Reading = with_entry local reading entry.0 entry.1 in
    λ name m at. joined-grows local (cond (clashes reading.context entry) reading other) rest name m (either-grows (clashes reading.context entry) reading other (entry-grows local reading entry.0 entry.1) name m at)

pub declared-grows : (text : Text) (local : Bool) (reading : Reading) (binders : List Binder) → Grows reading (declare_all text local reading binders)
declared-grows text local reading [] = λ name m at. at
declared-grows text local reading (binder ∷ rest) =
    let own = name_of text.source binder.name in
    let other : Reading = with_entry local reading own (meant text binder) in
    λ name m at. declared-grows text local (cond (has reading.context own) reading other) rest name m (either-grows (has reading.context own) reading other (entry-grows local reading own (meant text binder)) name m at)

with-grows : (here next : Reading) (round : List Reading) → Grows here next → Grows (outermost here round) (outermost next round)
with-grows here next [] grows = grows
with-grows here next (outer ∷ round) grows = λ name m at. at

left-grows : (known : Known) (inner : Reading) (round : List Reading) → Grows (outermost inner round) (outermost (left known inner round).here (left known inner round).round)
left-grows known inner [] = λ name m at. at
left-grows known inner (outer ∷ []) = λ name m at. at
left-grows known inner (outer ∷ (next ∷ round)) = λ name m at. at

module _ (text : Text) (files : List ℕ → ModuleView) (words : List ℕ) where
  after-have : (state : ReadState) (unit : UnitTree) → HaveSymbols state.place.here state.place.round → HaveSymbols (after text files words state unit).place.here (after text files words state unit).place.round
  after-have state (Variables names) is = with-here state.place.here _ state.place.round is (declared-has (Outer state.place.round) text false state.place.here (variables names) (here-has state.place.here state.place.round is) (λ l. absurd (cc l)))
  after-have state (Constants declarations) is = with-here state.place.here _ state.place.round is (declared-has (Outer state.place.round) text false state.place.here (constants declarations) (here-has state.place.here state.place.round is) (λ l. absurd (cc l)))
  after-have state (OperatorDefinition local x) is = with-here state.place.here _ state.place.round is (declared-has (Outer state.place.round) text (is_some local) state.place.here (definition x) (here-has state.place.here state.place.round is) (λ l. defined-none text x))
  after-have state (FunctionDefinition local x) is = with-here state.place.here _ state.place.round is (declared-has (Outer state.place.round) text (is_some local) state.place.here (definition x) (here-has state.place.here state.place.round is) (λ l. defined-none text x))
  after-have state (ModuleDefinition local x) is = with-here state.place.here _ state.place.round is (declared-has (Outer state.place.round) text (is_some local) state.place.here (definition x) (here-has state.place.here state.place.round is) (λ l. defined-none text x))
  after-have state (Instance local x) is =
      let entries = instance_brings text files words state x in
      with-here state.place.here _ state.place.round is
      (joined-has (Outer state.place.round) (is_some local) state.place.here entries (here-has state.place.here state.place.round is)
      (λ l. all-weaker IsBehind (λ (entry : Named × Meaning). IsSymbol entry.1 → ⊥) (λ entry behind. no-symbol entry.1 behind) entries (brings-behind text files words state x)))
  after-have state (Assumption word name x) is = is
  after-have state (Theorem word name x) is = is
  after-have state (Line dashes) is = is
  after-have state (ModuleBegin dashes name extends) is =
      (extends-has (Outer (state.place.here ∷ state.place.round)) text (exports_by files) (nested text state.place.here name) extends (record { names = λ other m at. absurd (never other m at); symbols = λ other m at symbol. inr at }), is)
    where
      never : (other : Named) (m : Meaning) → find {V = Meaning} empty other ≡ Some m → ⊥
      never (Word bytes) m at = cc at
      never (Symbol op) m at = cc at
  after-have state (ModuleEnd closing) is = left-have state.known state.place.here state.place.round is

  pub all-have : (state : ReadState) (units : List UnitTree) → HaveSymbols state.place.here state.place.round → HaveSymbols (read_all text files words state units).place.here (read_all text files words state units).place.round
  all-have state [] is = is
  all-have state (unit ∷ units) is = all-have (after text files words state unit) units (after-have state unit is)

  -- ---- what is exported stays

  pub append-read : (state : ReadState) (a b : List UnitTree) → read_all text files words state (a ++ b) ≡ read_all text files words (read_all text files words state a) b
  append-read state [] b = refl
  append-read state (unit ∷ a) b = append-read (after text files words state unit) a b

  after-grows : (state : ReadState) (unit : UnitTree) → Grows (outermost state.place.here state.place.round) (outermost (after text files words state unit).place.here (after text files words state unit).place.round)
  after-grows state (Variables names) = with-grows state.place.here _ state.place.round (declared-grows text false state.place.here (variables names))
  after-grows state (Constants declarations) = with-grows state.place.here _ state.place.round (declared-grows text false state.place.here (constants declarations))
  after-grows state (OperatorDefinition local x) = with-grows state.place.here _ state.place.round (declared-grows text (is_some local) state.place.here (definition x))
  after-grows state (FunctionDefinition local x) = with-grows state.place.here _ state.place.round (declared-grows text (is_some local) state.place.here (definition x))
  after-grows state (ModuleDefinition local x) = with-grows state.place.here _ state.place.round (declared-grows text (is_some local) state.place.here (definition x))
  after-grows state (Instance local x) = with-grows state.place.here _ state.place.round (joined-grows (is_some local) state.place.here (instance_brings text files words state x))
  after-grows state (Assumption word name x) = λ other m at. at
  after-grows state (Theorem word name x) = λ other m at. at
  after-grows state (Line dashes) = λ other m at. at
  after-grows state (ModuleBegin dashes name extends) = λ other m at. at
  after-grows state (ModuleEnd closing) = left-grows state.known state.place.here state.place.round

  all-grow : (state : ReadState) (units : List UnitTree) → Grows (outermost state.place.here state.place.round) (outermost (read_all text files words state units).place.here (read_all text files words state units).place.round)
  all-grow state [] = λ other m at. at
  all-grow state (unit ∷ units) = λ other m at. all-grow (after text files words state unit) units other m (after-grows state unit other m at)

  -- ---- nested modules begin and end

  -- the modules round a place are those round it before
  abbrev IsRound : ReadState → List UnitTree → Type 0
  IsRound state units = (read_all text files words state units).place.round ≡ state.place.round

  defined-round : (local : Option Lexeme) (x : Tree) (state : ReadState) → IsRound state (defined_unit local x ∷ [])
  defined-round local (Node (Form.FunctionDefinition n) s parts) state = refl
  defined-round local (Node (Form.ModuleDefinition n) s parts) state = refl
  defined-round local (Node _ s parts) state = refl

  nested-round : (dashes name : Lexeme) (extends : List Lexeme) (units : List UnitTree) (e : Lexeme) (state : ReadState) → ((inner : ReadState) → IsRound inner units) → IsRound state (ModuleBegin dashes name extends ∷ (units ++ ModuleEnd e ∷ []))
  nested-round dashes name extends units e state inside =
      let begun : ReadState = after text files words state (ModuleBegin dashes name extends) in
      let ends : ReadState = read_all text files words begun units in
      ap (λ (s : ReadState). s.place.round) (append-read begun units (ModuleEnd e ∷ [])) ∙ ap (λ round. (left ends.known ends.place.here round).round) (inside begun)

  mutual
    unit-round : {units : List UnitTree} {a : List Lexeme} {t : Lexeme} → u.DerivesUnit units a t → (state : ReadState) → IsRound state units
    unit-round (u.variables k ns) state = refl
    unit-round (u.constants k ds) state = refl
    unit-round (u.definition {before = local} {x = x} l y) state = defined-round local x state
    unit-round (u.instance l x) state = refl
    unit-round (u.assumption k x) state = refl
    unit-round (u.theorem k x) state = refl
    unit-round (u.line k m) state = refl
    unit-round (u.nested {d = d} {n = n} {names = names} {units = units} e k us m) state = nested-round d n names units e state (λ inner. units-round us inner)

    units-round : {units : List UnitTree} {a : List Lexeme} {t : Lexeme} → u.DerivesUnits units a t → (state : ReadState) → IsRound state units
    units-round u.no_units state = refl
    units-round (u.more_units {unit = unit} {units = units} y ys) state =
        ap (λ (s : ReadState). s.place.round) (append-read state unit units) ∙ (units-round ys (read_all text files words state unit) ∙ unit-round y state)

  pub module-round : {found : ModuleUnits} {a : List Lexeme} → u.DerivesModule found a → (state : ReadState) → IsRound state found.units
  module-round (u.outermost c k us m) state = units-round us state

-- ---- parameters

passing-found : (test : Meaning → Bool) (entries : Exports) (name : Named) (m : Meaning) → entry_of entries name ≡ Some m → test m ≡ true → entry_of (filter (λ entry. test entry.1) entries) name ≡ Some m
passing-found test [] name m at is = absurd (cc)
passing-found test (entry ∷ rest) name m at is = by (same_named name entry.0) refl (test entry.1) refl at (λ later. passing-found test rest name m later is)
  where
    by : (b : Bool) → same_named name entry.0 ≡ b → (t : Bool) → test entry.1 ≡ t → cond b (Some entry.1) (entry_of rest name) ≡ Some m → (entry_of rest name ≡ Some m → entry_of (filter (λ other. test other.1) rest) name ≡ Some m)
        → entry_of (cond t (entry ∷ filter (λ other. test other.1) rest) (filter (λ other. test other.1) rest)) name ≡ Some m
    by true same true passes at later = ap (λ b. cond b (Some entry.1) (entry_of (filter (λ other. test other.1) rest) name)) same ∙ at
    by true same false fails at later =
        let is_m : entry.1 ≡ m = cc at in
        absurd (false≢true (sym fails ∙ (ap test is_m ∙ is)))
    by false other true passes at later = ap (λ b. cond b (Some entry.1) (entry_of (filter (λ other. test other.1) rest) name)) other ∙ later at
    by false other false fails at later = later at

-- ---- names of a text are offered

variables-offered : (text : Text) (names : List Lexeme) → AllByRecursion (Own IsOffered text) (variables names)
variables-offered text [] = tt
variables-offered text (name ∷ rest) = ((λ none. inl refl), variables-offered text rest)

constants-offered : (text : Text) (names : List (Lexeme × ℕ)) → AllByRecursion (Own IsOffered text) (bound_as as_binding.Constant names)
constants-offered text [] = tt
constants-offered text (name ∷ rest) = ((λ none. inl refl), constants-offered text rest)

defined-offered : (text : Text) (x : Tree) → AllByRecursion (Own IsOffered text) (definition x)
defined-offered text x = all-weaker (λ (binder : Binder). is_meant stands_behind (meant text binder) ≡ true) (Own IsOffered text) (λ binder behind none. inr behind) (definition x) (defined-behind text x)

unit-offered : (text : Text) (unit : UnitTree) → AllByRecursion (Own IsOffered text) (declared_names unit)
unit-offered text (Variables names) = variables-offered text names
unit-offered text (Constants declarations) = constants-offered text (all_placed declarations)
unit-offered text (OperatorDefinition local x) = defined-offered text x
unit-offered text (FunctionDefinition local x) = defined-offered text x
unit-offered text (ModuleDefinition local x) = defined-offered text x
unit-offered text (Instance local x) = tt
unit-offered text (Assumption word name x) = tt
unit-offered text (Theorem word name x) = tt
unit-offered text (Line dashes) = tt
unit-offered text (ModuleBegin dashes name extends) = tt
unit-offered text (ModuleEnd closing) = tt

pub units-offered : (text : Text) (units : List UnitTree) → AreOwn IsOffered text units
units-offered text [] = tt
units-offered text (unit ∷ rest) = (unit-offered text unit, units-offered text rest)

module _ (files : List ℕ → ModuleView) (source : List ℕ) (units : ModuleUnits) where
  pub first-have : HaveSymbols (first files source units).place.here []
  first-have =
      extends-has (Outer []) (text_of source units) (exports_by files) (unread (text_of source units)) units.extends
      (record { names = λ other m at. absurd (never other m at); symbols = λ other m at symbol. absurd (built other m at symbol) })
    where
      never : (other : Named) (m : Meaning) → find {V = Meaning} empty other ≡ Some m → ⊥
      never (Word bytes) m at = cc at
      never (Symbol op) m at = cc at

      built : (other : Named) (m : Meaning) → meaning_of built_in other ≡ Some m → IsSymbol m → ⊥
      built other m at symbol = false≢true (ap (is_meant stands_for_parameter) (sym (built-in-is other m at)) ∙ symbol)

  -- a symbol that can be used outside of nested modules is a parameter of the module
  pub symbols-stay : (a : List Lexeme) (before behind : List UnitTree) (name : Named) (m : Meaning) → u.DerivesModule units a → units.units ≡ before ++ behind → (state_behind files source units before).place.round ≡ []
      → meaning_of (state_behind files source units before).place.here.context name ≡ Some m → IsSymbol m → entry_of (outside_in files source units).parameters name ≡ Some m
  symbols-stay a before behind name m derives split none means symbol =
      let text = text_of source units in
      let words = words_of units in
      let start : ReadState = first files source units in
      let state : ReadState = state_behind files source units before in
      let found : find state.place.here.exports name ≡ Some m = here-found state.place.here state.place.round none (all-have text files words start before first-have) means in
      let there : find (outermost state.place.here state.place.round).exports name ≡ Some m = subst (λ round. find (outermost state.place.here round).exports name ≡ Some m) (sym none) found in
      let later = all-grow text files words state behind name m there in
      let same : read_all text files words state behind ≡ last files source units = sym (append-read text files words start before behind) ∙ ap (λ us. read_all text files words start us) (sym split) in
      let ends : (last files source units).place.round ≡ [] = module-round text files words derives start in
      let exported_there : find (last files source units).place.here.exports name ≡ Some m =
      subst (λ round. find (outermost (last files source units).place.here round).exports name ≡ Some m) ends (subst (λ (s : ReadState). find (outermost s.place.here s.place.round).exports name ≡ Some m) same later) in
      let entries : Exports = exports_of (last files source units).place.here.exports in
      passing-found (is_meant stands_for_parameter) entries name m (entry-of-table (last files source units).place.here.exports name ∙ exported_there) symbol
    where
      found-here : {outer : Type 0} (exports : Table Meaning) → (outer → ⊥) → (find exports name ≡ Some m) ⊎ outer → find exports name ≡ Some m
      found-here exports never (inl found) = found
      found-here exports never (inr round) = absurd (never round)

      here-found : (here : Reading) (round : List Reading) → round ≡ [] → HaveSymbols here round → meaning_of here.context name ≡ Some m → find here.exports name ≡ Some m
      here-found here [] none all means = found-here here.exports (λ never. never) (all.symbols name m means symbol)
      here-found here (outer ∷ round) none all means = absurd (cc none)

  -- ---- what is offered

  pub outside-offered : ((name : List ℕ) → AllNamed IsOffered (files name)) → AllNamed IsOffered (outside_in files source units)
  outside-offered given = outside-holds IsOffered files source units passes given (units-offered (text_of source units) units.units)
    where
      passes : (unit : UnitId) (name : Named) (m : Meaning) → IsOffered name m → IsOffered name (through unit m)
      passes unit name BuiltIn is = is
      passes unit name (Declared e callee) is = is
