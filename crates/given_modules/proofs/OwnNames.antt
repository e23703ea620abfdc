-- Names that are own by none of the units that follow: names of other modules, symbols, and names that are own by a unit before.
use Rattle.std.proofs.Common.{◌≡◌, ℕ, Bool, true, false, List, [], ◌∷◌, inr, Option, Some, None, is_some, refl, sym, ap, ◌∙◌, map}
use Rattle.std.specs.Prelude.{◌||◌}
use Rattle.std.specs.List.{AllByRecursion}
use Rattle.tla_symbols.specs.declared.lexeme.Lexeme.{Lexeme}
use Rattle.tla_tree.specs.Syntax.{Tree}
use Rattle.unit_grammar.specs.Units.{UnitTree, Instance, ModuleUnits}
use Rattle.tla_model.specs.declared.names.Binder.{Binder}
use Rattle.tla_model.specs.declared.names.Meaning.TheVariants.{BuiltIn, Declared}
use Rattle.tla_model.specs.Entities.{Meaning, Text, meant, name_of, same_meaning}
use Rattle.tla_model.specs.EntityKinds.{stands_behind}
use Rattle.tla_model.specs.Tables.{Named}
use Rattle.module_model.specs.Exports.{Exports}
use Rattle.module_model.specs.Modules.{text_of}
use Rattle.module_model.specs.Resolution.{instance_brings, words_of}
use Rattle.tree_kinds.specs.Standing.{Outside, is_bound, name_among, same_standing}
use Rattle.tla_model.specs.Same.{same-alike}
use Rattle.tree_kinds.proofs.Standings.{standing-from, standing-means}
use Rattle.module_kinds.specs.ModuleKinds.{KindState, after, first, views}
use Rattle.flat_kinds.specs.Declarations.{AreNamesDeclared, AreUnitsDeclared, Declarations, IsDeclared, IsNoDefinition, IsOutsideDeclared}
use Rattle.flat_kinds.specs.Readings.{is_among}
use Rattle.flat_kinds.proofs.Declarations.{keeps-first}
use Rattle.module_meanings.proofs.Staying.{leaf-left}
use Rattle.accepted_modules.proofs.Naming.{same-declared}
use Rattle.accepted_modules.proofs.Symbols.{IsSymbol}
use Rattle.accepted_modules.proofs.Tables.{IsThere}
use Rattle.given_depths.specs.Own.{AreOwnApart, HasOwnNames, IsOfNone, IsOfOthers, is_own}
use Rattle.given_depths.proofs.Own.{left-own, none-own, own-alike}
use Rattle.given_modules.proofs.Others.{others-alike}
use Rattle.given_modules.proofs.Placed.{symbol-plain}
use Rattle.given_modules.proofs.Standing.{among-there}

-- ---- names that are no definitions

pub no_definition-alike : (declares : Declarations) (a b : Meaning) → same_meaning a b ≡ true → IsNoDefinition declares b → IsNoDefinition declares a
no_definition-alike declares BuiltIn b same is = tt
no_definition-alike declares (Declared e a) BuiltIn same is = absurd (cc same)
no_definition-alike declares (Declared e a) (Declared f b) same is = ap (λ d. stands_behind (declares d).1) (same-declared e f a b same) ∙ is

-- a symbol is none, by its declaration
declared-symbol : (declares : Declarations) (name : Named) (m : Meaning) → IsDeclared declares name m → IsSymbol m → IsNoDefinition declares m
declared-symbol declares name BuiltIn is symbol = tt
declared-symbol declares name (Declared e callee) is symbol = ap (λ p. stands_behind p.1) is ∙ symbol-plain (Declared e callee) symbol

-- what stands as a symbol that a text declares is none
pub among-symbols : (declares : Declarations) (text : Text) (binders : List Binder) (m : Meaning) → AreNamesDeclared declares text binders → AllByRecursion (λ (b : Binder). IsSymbol (meant text b)) binders → is_among (map (meant text) binders) m ≡ true → IsNoDefinition declares m
among-symbols declares text [] m names symbols is = absurd (cc is)
among-symbols declares text (b ∷ rest) m names symbols is = by (same_standing m (meant text b)) refl is (among-symbols declares text rest m names.1 symbols.1)
  where
    by : (t : Bool) → same_standing m (meant text b) ≡ t → (t || is_among (map (meant text) rest) m) ≡ true → (is_among (map (meant text) rest) m ≡ true → IsNoDefinition declares m) → IsNoDefinition declares m
    by true same is later = no_definition-alike declares m (meant text b) (standing-means m (meant text b) same) (declared-symbol declares (name_of text.source b.name) (meant text b) names.0 symbols.0)
    by false same is later = later is

-- ---- names that come through an INSTANCE

none-named : (found : Option Named) → is_some found ≡ false → found ≡ None
none-named None is = refl
none-named (Some name) is = absurd (cc is)

module _ (declares : Declarations) (text : Text) (outsides : List ℕ → Outside) (words : List ℕ) where
  -- what means the same is own by none of these units
  abbrev pub IsOwnOfNone : List UnitTree → KindState → Meaning → Type 0
  IsOwnOfNone behind state s = (m : Meaning) → same_meaning m s ≡ true → IsOfNone text outsides words state behind m

  -- what is known of the own names of these units
  pub record AreOwnAt (behind : List UnitTree) (state : KindState) : Type 0 where
    pub apart : AreOwnApart text outsides words state behind
    pub symbols : (m : Meaning) → IsNoDefinition declares m → IsOfNone text outsides words state behind m
    pub others : (m : Meaning) → IsOfOthers text.file m → IsOfNone text outsides words state behind m

  -- one unit further
  pub own-next : (unit : UnitTree) (behind : List UnitTree) (state : KindState) → AreOwnAt (unit ∷ behind) state → AreOwnAt behind (after text outsides words state unit)
  own-next unit behind state at = record { apart = at.apart.1; symbols = λ m none. (at.symbols m none).1; others = λ m is. (at.others m is).1 }

  pub none-next : (unit : UnitTree) (behind : List UnitTree) (state : KindState) (s : Meaning) → IsOwnOfNone (unit ∷ behind) state s → IsOwnOfNone behind (after text outsides words state unit) s
  none-next unit behind state s none m same = (none m same).1

  -- what means the same
  pub none-alike : (behind : List UnitTree) (state : KindState) (m s : Meaning) → same_meaning m s ≡ true → IsOwnOfNone behind state s → IsOwnOfNone behind state m
  none-alike behind state m s same none k also = none k (same-alike k m s also ∙ same)

  -- symbols, and names of other modules
  pub none-symbol : (behind : List UnitTree) (state : KindState) (s : Meaning) → AreOwnAt behind state → IsNoDefinition declares s → IsOwnOfNone behind state s
  none-symbol behind state s at is m same = at.symbols m (no_definition-alike declares m s same is)

  pub none-other : (behind : List UnitTree) (state : KindState) (s : Meaning) → AreOwnAt behind state → IsOfOthers text.file s → IsOwnOfNone behind state s
  none-other behind state s at is m same = at.others m (others-alike text.file m s same is)

  -- names that are bound
  bound-own : (state : KindState) (unit : UnitTree) (m : Meaning) → is_bound m ≡ true → is_own text outsides words state unit m ≡ false
  bound-own state unit m bound = left-own text outsides words state unit m (leaf-left text outsides words state unit m (inr bound))

  bound-none : (units : List UnitTree) (state : KindState) (m : Meaning) → is_bound m ≡ true → IsOfNone text outsides words state units m
  bound-none [] state m bound = tt
  bound-none (unit ∷ units) state m bound = (bound-own state unit m bound, bound-none units (after text outsides words state unit) m bound)

  -- what is own by a unit is so by none behind it
  pub none-behind : (unit : UnitTree) (behind : List UnitTree) (state : KindState) (s : Meaning) → AreOwnAt (unit ∷ behind) state → is_own text outsides words state unit s ≡ true → IsOwnOfNone behind (after text outsides words state unit) s
  none-behind unit behind state s at is m same = by (is_bound m) refl (is_bound s) refl
    where
      by : (b : Bool) → is_bound m ≡ b → (t : Bool) → is_bound s ≡ t → IsOfNone text outsides words (after text outsides words state unit) behind m
      by true bound t other = bound-none behind (after text outsides words state unit) m bound
      by false free true other =
          let never : true ≡ false = sym is ∙ bound-own state unit s other in
          absurd (cc never)
      by false free false other = at.apart.0 m (own-alike text outsides words state unit m s (standing-from m s same (free ∙ sym other)) ∙ is)

  -- ---- INSTANCE without a name

  module _ (state : KindState) (local : Option Lexeme) (x : Tree) (whole : HasOwnNames text outsides words state (Instance local x)) where
    -- all that it brings is its own
    pub brings-own : (name : Named) (m : Meaning) → IsThere (instance_brings text (views text outsides words) words state.read x) name m → is_own text outsides words state (Instance local x) m ≡ true
    brings-own name m there =
        let entries : Exports = instance_brings text (views text outsides words) words state.read x in
        ap (λ (es : Exports). is_some (name_among es m)) whole ∙ ap (λ (found : Option Named). is_some found) (among-there entries name m there (name_among entries m) refl).1

    -- what is none of its own names it leaves
    pub own-left : (m : Meaning) → is_own text outsides words state (Instance local x) m ≡ false → name_among (instance_brings text (views text outsides words) words state.read x) m ≡ None
    own-left m none =
        none-named (name_among (instance_brings text (views text outsides words) words state.read x) m) (sym (ap (λ (entries : Exports). is_some (name_among entries m)) whole) ∙ none)

-- ---- modules

module _ (declares : Declarations) (outsides : List ℕ → Outside) (source : List ℕ) (units : ModuleUnits) where
  -- of all units of a module
  pub own-first : ((title : List ℕ) → IsOutsideDeclared declares (outsides title)) → AreUnitsDeclared declares (text_of source units) units.units → AreOwnApart (text_of source units) outsides (words_of units) (first outsides source units) units.units
      → ((m : Meaning) → IsOfOthers (text_of source units).file m → IsOfNone (text_of source units) outsides (words_of units) (first outsides source units) units.units m)
      → AreOwnAt declares (text_of source units) outsides (words_of units) units.units (first outsides source units)
  own-first declared names apart others = record {
    apart = apart;
    symbols = λ m none. none-own (text_of source units) outsides (words_of units) declares declared (first outsides source units) units.units m names (keeps-first declares outsides source units declared) none;
    others = others;
  }
