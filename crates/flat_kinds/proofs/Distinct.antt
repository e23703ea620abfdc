-- Symbols of a module: each once, as its names are, and apart from those round a nested module.
use Rattle.std.proofs.Common.{◌≡◌, ℕ, Bool, true, false, cond, List, [], ◌∷◌, ◌++◌, filter, map, refl, sym, ap, ◌∙◌, subst}
use Rattle.std.specs.Prelude.{◌||◌, ◌&&◌, not}
use Rattle.std.specs.List.{AllByRecursion}
use Rattle.std.specs.Str.{bytes_eq}
use Rattle.std.proofs.lemmas.Bool.{and_parts}
use Rattle.std.proofs.lemmas.Slice.Eq.{bytes_eq-Decides}
use denote.Enum.Bare.{true_same}
use Rattle.tla_symbols.specs.contracts.op.Op as op
use Rattle.tla_symbols.specs.declared.op.Op.{Op}
use Rattle.unit_grammar.specs.Units.{ModuleUnits}
use Rattle.tla_model.specs.declared.entity.Entity.TheVariants as entity
use Rattle.tla_model.specs.declared.names.Meaning.TheVariants.{BuiltIn, Declared}
use Rattle.tla_model.specs.Contexts.{Context}
use Rattle.tla_model.specs.Entities.{Entity, Meaning, Text, same_decl, same_meaning, same_units}
use Rattle.tla_model.specs.EntityKinds.{is_meant, stands_behind, stands_for_parameter}
use Rattle.tla_model.specs.Tables.{Table, Named, Word, Symbol, has, same_symbol}
use Rattle.tla_model.specs.Same.{decl-equal}
use Rattle.module_model.specs.Exports.{Exports, exports_of, of_symbols, of_words, parameters_in}
use Rattle.module_model.specs.Instances.{own_parameters}
use Rattle.module_model.specs.Modules.{Reading, text_of}
use Rattle.module_model.specs.Resolution.{ReadState, words_of}
use Rattle.tree_kinds.specs.Standing.{Outside, same_standing}
use Rattle.tree_kinds.proofs.Standings.{standing-means, standing-unlike}
use Rattle.module_kinds.specs.ModuleKinds.{KindState, first, last, nested_outside, outside}
use Rattle.list_laws.proofs.Lists.{all-both}
use Rattle.flat_trees.specs.Instances.{symbols_of}
use Rattle.flat_trees.specs.Stands.{Stand, Unsaid}
use Rattle.flat_kinds.specs.Declarations.{AreDeclared, AreSymbols, AreUnitsDeclared, Declarations, EachOnce, IsDeclared, IsNoDefinition, IsOnce, IsOutsideDeclared, IsSymbol, KeepsDeclarations}
use Rattle.flat_kinds.specs.Readings.{is_among}
use Rattle.flat_kinds.specs.Symbols.{AreDistinct, SaysNothing, symbols_at}
use Rattle.flat_kinds.proofs.Declarations.{keeps-all, keeps-first, read-same}
use Rattle.flat_kinds.proofs.Symbols.{among-alike, symbols-none}

-- entries have names of their own
abbrev pub HaveOwnNames : Exports → Type 0
HaveOwnNames [] = Unit {0}
HaveOwnNames (entry ∷ rest) = AllByRecursion (λ (other : Named × Meaning). entry.0 ≡ other.0 → ⊥) rest × HaveOwnNames rest

word-apart : (words : List (List ℕ × Meaning)) (word : List ℕ) → AllByRecursion (λ (other : List ℕ × Meaning). bytes_eq other.0 word ≡ false) words → AllByRecursion (λ (other : Named × Meaning). Word word ≡ other.0 → ⊥) (of_words words)
word-apart [] word all = tt
word-apart (other ∷ words) word all = (
  λ (same : Word word ≡ Word other.0).
      let is : other.0 ≡ word = cc in
      let equal : bytes_eq other.0 word ≡ true = (bytes_eq-Decides other.0 word).1 is in
      absurd (cc (equal, all.0)),
  word-apart words word all.1,
)

symbol-apart : (symbols : List (Op × Meaning)) (symbol : Op) → AllByRecursion (λ (other : Op × Meaning). same_symbol other.0 symbol ≡ false) symbols → AllByRecursion (λ (other : Named × Meaning). Symbol symbol ≡ other.0 → ⊥) (of_symbols symbols)
symbol-apart [] symbol all = tt
symbol-apart (other ∷ symbols) symbol all = (
  λ (same : Symbol symbol ≡ Symbol other.0).
      let is : other.0 ≡ symbol = cc in
      let equal : same_symbol other.0 symbol ≡ true = true_same op.the_type other.0 symbol is in
      absurd (cc (equal, all.0)),
  symbol-apart symbols symbol all.1,
)

words-apart : (symbols : List (Op × Meaning)) (word : List ℕ) → AllByRecursion (λ (other : Named × Meaning). Word word ≡ other.0 → ⊥) (of_symbols symbols)
words-apart [] word = tt
words-apart (other ∷ symbols) word = ((λ (same : Word word ≡ Symbol other.0). cc same), words-apart symbols word)

symbols-own : (symbols : List (Op × Meaning)) → EachOnce same_symbol symbols → HaveOwnNames (of_symbols symbols)
symbols-own [] once = tt
symbols-own (symbol ∷ symbols) once = (symbol-apart symbols symbol.0 once.0, symbols-own symbols once.1)

pub words-own : (words : List (List ℕ × Meaning)) (symbols : List (Op × Meaning)) → EachOnce bytes_eq words → EachOnce same_symbol symbols → HaveOwnNames (of_words words ++ of_symbols symbols)
words-own [] symbols once others = symbols-own symbols others
words-own (word ∷ words) symbols once others =
    (all-both (λ (other : Named × Meaning). Word word.0 ≡ other.0 → ⊥) (of_words words) (of_symbols symbols) (word-apart words word.0 once.0) (words-apart symbols word.0), words-own words symbols once.1 others)

-- ---- symbols among entries

-- what means none of these means none of those that are kept
among-kept : (keep : Named × Meaning → Bool) (entries : Exports) (other : Meaning) → is_among (map (λ (entry : Named × Meaning). entry.1) entries) other ≡ false → is_among (map (λ (entry : Named × Meaning). entry.1) (filter keep entries)) other ≡ false
among-kept keep [] other none = refl
among-kept keep (entry ∷ rest) other none = by_kept (keep entry) (same_standing other entry.1) refl none (among-kept keep rest other)
  where
    by_kept : (b t : Bool) → same_standing other entry.1 ≡ t → (t || is_among (map (λ (e : Named × Meaning). e.1) rest) other) ≡ false
        → (is_among (map (λ (e : Named × Meaning). e.1) rest) other ≡ false → is_among (map (λ (e : Named × Meaning). e.1) (filter keep rest)) other ≡ false)
        → is_among (map (λ (e : Named × Meaning). e.1) (cond b (entry ∷ filter keep rest) (filter keep rest))) other ≡ false
    by_kept b true is none others = cc none
    by_kept true false is none others = ap (λ t. t || is_among (map (λ (e : Named × Meaning). e.1) (filter keep rest)) other) is ∙ others none
    by_kept false false is none others = others none

distinct-kept : (keep : Named × Meaning → Bool) (entries : Exports) → AreDistinct (map (λ (entry : Named × Meaning). entry.1) entries) → AreDistinct (map (λ (entry : Named × Meaning). entry.1) (filter keep entries))
distinct-kept keep [] distinct = tt
distinct-kept keep (entry ∷ rest) distinct = by_kept (keep entry) (among-kept keep rest entry.1 distinct.0) (distinct-kept keep rest distinct.1)
  where
    by_kept : (b : Bool) → is_among (map (λ (e : Named × Meaning). e.1) (filter keep rest)) entry.1 ≡ false → AreDistinct (map (λ (e : Named × Meaning). e.1) (filter keep rest)) → AreDistinct (map (λ (e : Named × Meaning). e.1) (cond b (entry ∷ filter keep rest) (filter keep rest)))
    by_kept true none others = (none, others)
    by_kept false none others = others

all-kept : (P : Meaning → Type 0) (keep : Named × Meaning → Bool) (entries : Exports) → AllByRecursion P (map (λ (entry : Named × Meaning). entry.1) entries) → AllByRecursion P (map (λ (entry : Named × Meaning). entry.1) (filter keep entries))
all-kept P keep [] all = tt
all-kept P keep (entry ∷ rest) all = by_kept (keep entry) all.0 (all-kept P keep rest all.1)
  where
    by_kept : (b : Bool) → P entry.1 → AllByRecursion P (map (λ (e : Named × Meaning). e.1) (filter keep rest)) → AllByRecursion P (map (λ (e : Named × Meaning). e.1) (cond b (entry ∷ filter keep rest) (filter keep rest)))
    by_kept true one others = (one, others)
    by_kept false one others = others

module _ (declares : Declarations) where
  -- symbols of other names mean other things
  names-apart : (name other : Named) (a b : Meaning) → IsDeclared declares name a → IsDeclared declares other b → is_meant stands_for_parameter a ≡ true → (name ≡ other → ⊥) → same_meaning a b ≡ false
  names-apart name other BuiltIn b as_a as_b is apart = cc is
  names-apart name other (Declared e x) BuiltIn as_a as_b is apart = refl
  names-apart name other (Declared e x) (Declared f y) as_a as_b is apart = by_same (same_decl x.decl y.decl) refl
    where
      by_same : (b : Bool) → same_decl x.decl y.decl ≡ b → (b && same_units x.via y.via) ≡ false
      by_same false same = refl
      by_same true same =
          absurd (apart (sym (ap (λ (p : Named × Entity). p.0) as_a) ∙ ap (λ d. (declares d).0) (decl-equal x.decl y.decl same) ∙ ap (λ (p : Named × Entity). p.0) as_b))

  name-once : (entry : Named × Meaning) (rest : Exports) → AllByRecursion (λ (other : Named × Meaning). entry.0 ≡ other.0 → ⊥) rest → IsDeclared declares entry.0 entry.1 → AreDeclared declares rest → is_meant stands_for_parameter entry.1 ≡ true → is_among (map (λ (e : Named × Meaning). e.1) rest) entry.1 ≡ false
  name-once entry [] own one all is = refl
  name-once entry (other ∷ rest) own one all is =
      ap (λ b. b || is_among (map (λ (e : Named × Meaning). e.1) rest) entry.1) (standing-unlike entry.1 other.1 (names-apart entry.0 other.0 entry.1 other.1 one all.0 is own.0))
      ∙ name-once entry rest own.1 one all.1 is

  symbol-declared : (name : Named) (meaning : Meaning) → IsDeclared declares name meaning → is_meant stands_for_parameter meaning ≡ true → IsSymbol declares meaning
  symbol-declared name BuiltIn one is = cc is
  symbol-declared name (Declared e x) one is = ap (λ (p : Named × Entity). stands_for_parameter p.1) one ∙ is

  -- the symbols among entries
  entries-symbols : (entries : Exports) → HaveOwnNames entries → AreDeclared declares entries → AreSymbols declares (map (λ (entry : Named × Meaning). entry.1) (parameters_in entries))
  entries-symbols [] own all = record { distinct = tt; declared = tt }
  entries-symbols (entry ∷ rest) own all = by_kind (is_meant stands_for_parameter entry.1) refl (entries-symbols rest own.1 all.1)
    where
      by_kind : (b : Bool) → is_meant stands_for_parameter entry.1 ≡ b → AreSymbols declares (map (λ (e : Named × Meaning). e.1) (parameters_in rest)) → AreSymbols declares (map (λ (e : Named × Meaning). e.1) (cond b (entry ∷ parameters_in rest) (parameters_in rest)))
      by_kind true is others = record {
        distinct = (among-kept (λ (e : Named × Meaning). is_meant stands_for_parameter e.1) rest entry.1 (name-once entry rest own.0 all.0 all.1 is), others.distinct);
        declared = (symbol-declared entry.0 entry.1 all.0 is, others.declared);
      }
      by_kind false is others = others

  table-symbols : (table : Table Meaning) → IsOnce table → AreDeclared declares (exports_of table) → AreSymbols declares (map (λ (entry : Named × Meaning). entry.1) (parameters_in (exports_of table)))
  table-symbols table once all = entries-symbols (exports_of table) (words-own table.words table.symbols once.0 once.1) all

  -- those of a nested module alone
  nested-symbols : (context : Context) (entries : Exports) → AreSymbols declares (map (λ (entry : Named × Meaning). entry.1) (parameters_in entries)) → AreSymbols declares (map (λ (entry : Named × Meaning). entry.1) (own_parameters context entries))
  nested-symbols context entries symbols = record {
    distinct = distinct-kept (λ (entry : Named × Meaning). not (has context entry.0)) (parameters_in entries) symbols.distinct;
    declared = all-kept (IsSymbol declares) (λ (entry : Named × Meaning). not (has context entry.0)) (parameters_in entries) symbols.declared;
  }

  -- symbols of a module that is read
  pub module-symbols : (files : List ℕ → Outside) (source : List ℕ) (units : ModuleUnits) → ((name : List ℕ) → IsOutsideDeclared declares (files name)) → AreUnitsDeclared declares (text_of source units) units.units → AreSymbols declares (symbols_of (outside files source units))
  module-symbols files source units files_declared declared =
      let text : Text = text_of source units in
      let words : List ℕ = words_of units in
      let here = (keeps-all declares text files words files_declared (first files source units) units.units declared (keeps-first declares files source units files_declared)).declared.here in
      subst (λ (state : ReadState). AreSymbols declares (map (λ (entry : Named × Meaning). entry.1) (parameters_in (exports_of state.place.here.exports)))) (read-same text files words (first files source units) units.units)
      (table-symbols (last files source units).read.place.here.exports here.once here.exports)

  -- symbols of a nested module alone, at its end
  pub ended-symbols : (state : KindState) (round : List Reading) → KeepsDeclarations declares state → AreSymbols declares (symbols_of (nested_outside state round))
  ended-symbols state [] keeps = record { distinct = tt; declared = tt }
  ended-symbols state (outer ∷ round) keeps =
      nested-symbols outer.context (exports_of state.read.place.here.exports) (table-symbols state.read.place.here.exports keeps.declared.here.once keeps.declared.here.exports)

  -- a symbol is no definition and no instance
  kinds-apart : (e : Entity) → stands_for_parameter e ≡ true → stands_behind e ≡ false
  kinds-apart (entity.Constant places) is = refl
  kinds-apart entity.Variable is = refl
  kinds-apart e is = cc

  symbol-none : (meaning : Meaning) → IsSymbol declares meaning → IsNoDefinition declares meaning
  symbol-none BuiltIn is = tt
  symbol-none (Declared e x) is = kinds-apart (declares x.decl).1 is

  pub symbols-no_definitions : (symbols : List Meaning) → AllByRecursion (IsSymbol declares) symbols → AllByRecursion (IsNoDefinition declares) symbols
  symbols-no_definitions [] all = tt
  symbols-no_definitions (meaning ∷ rest) all = (symbol-none meaning all.0, symbols-no_definitions rest all.1)

  symbol-alike : (a b : Meaning) → same_meaning a b ≡ true → IsSymbol declares b → IsSymbol declares a
  symbol-alike a BuiltIn same is = absurd is
  symbol-alike BuiltIn (Declared f y) same is = cc same
  symbol-alike (Declared e x) (Declared f y) same is =
      ap (λ d. stands_for_parameter (declares d).1) (decl-equal x.decl y.decl (and_parts (same_decl x.decl y.decl) (same_units x.via y.via) same).0) ∙ is

  symbol-among : (symbols : List Meaning) (other : Meaning) → AllByRecursion (IsSymbol declares) symbols → is_among symbols other ≡ true → IsSymbol declares other
  symbol-among [] other all among = cc among
  symbol-among (meaning ∷ rest) other all among = by_same (symbol-among rest other all.1) (same_standing other meaning) refl among
    where
      by_same : (is_among rest other ≡ true → IsSymbol declares other) → (b : Bool) → same_standing other meaning ≡ b → (b || is_among rest other) ≡ true → IsSymbol declares other
      by_same others true is among = symbol-alike other meaning (standing-means other meaning is) all.0
      by_same others false is among = others among

  pub says-nothing : (base : Meaning → Stand) (symbols : List Meaning) → ((meaning : Meaning) → IsSymbol declares meaning → base meaning ≡ Unsaid) → AllByRecursion (IsSymbol declares) symbols → SaysNothing base symbols
  says-nothing base symbols unsaid all other among = unsaid other (symbol-among symbols other all among)

-- ---- symbols behind others

-- what means one of these means none of the others
own-none : (outer own : List Meaning) (other : Meaning) → AllByRecursion (λ (meaning : Meaning). is_among outer meaning ≡ false) own → is_among own other ≡ true → is_among outer other ≡ false
own-none outer [] other all among = cc among
own-none outer (meaning ∷ rest) other all among = by_same (own-none outer rest other all.1) (same_standing other meaning) refl among
  where
    by_same : (is_among rest other ≡ true → is_among outer other ≡ false) → (b : Bool) → same_standing other meaning ≡ b → (b || is_among rest other) ≡ true → is_among outer other ≡ false
    by_same others true is among = among-alike outer other meaning is ∙ all.0
    by_same others false is among = others among

pub nothing-behind : (base : Meaning → Stand) (outer own : List Meaning) (place : ℕ) → SaysNothing base own → AllByRecursion (λ (meaning : Meaning). is_among outer meaning ≡ false) own → SaysNothing (symbols_at base outer place) own
nothing-behind base outer own place nothing apart other among = symbols-none base outer place other (own-none outer own other apart among) ∙ nothing other among
