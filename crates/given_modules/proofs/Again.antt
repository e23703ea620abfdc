-- What nested modules bring stands as before, or is new, where files bring names for what their declarations yield.
use Rattle.std.proofs.Common.{◌≡◌, ℕ, Bool, true, false, cond, List, [], ◌∷◌, ◌++◌, ◌⊎◌, inl, inr, Option, Some, None, refl, sym, ap, subst, ◌∙◌, map}
use Rattle.std.specs.Prelude.{◌||◌, ◌&&◌, nat_eq}
use Rattle.std.specs.List.{AllByRecursion}
use Rattle.std.specs.Str.{bytes_eq}
use Rattle.std.proofs.lemmas.Bool.{false≢true, or_left, or_right}
use Rattle.list_laws.proofs.Lists.{all-both, all-right, all-weaker}
use Rattle.list_laws.proofs.Texts.{text-itself}
use Rattle.tla_symbols.specs.declared.lexeme.Lexeme.{Lexeme}
use Rattle.tla_tree.specs.Syntax.{Tree}
use Rattle.unit_grammar.specs.Units.{UnitTree, Variables, Constants, OperatorDefinition, FunctionDefinition, ModuleDefinition, Instance, Assumption, Theorem, Line, ModuleBegin, ModuleEnd, ModuleUnits}
use Rattle.tla_model.specs.declared.ids.DeclId.{DeclId}
use Rattle.tla_model.specs.declared.entity.Entity.TheVariants as entity
use Rattle.tla_model.specs.declared.names.Binder.{Binder}
use Rattle.tla_model.specs.declared.names.Meaning.TheVariants.{BuiltIn, Declared}
use Rattle.tla_model.specs.Entities.{Meaning, Text, all_placed, declaration, declaring, meant, same_meaning, same_units, variables}
use Rattle.tla_model.specs.EntityKinds.{is_meant, stands_behind, stands_for_parameter}
use Rattle.tla_model.specs.Lexemes.{spelled}
use Rattle.tla_model.specs.Scopes.{definition}
use Rattle.tla_model.specs.Tables.{Named}
use Rattle.module_scope.specs.Environments.{Scope, begun, first as first_scope}
use Rattle.module_model.specs.Exports.{Exports, exported, instantiable}
use Rattle.module_model.specs.Modules.{constants, text_of}
use Rattle.module_model.specs.Resolution.{instance_brings, words_of}
use Rattle.kind_text.specs.FlatModule.{FlatModule}
use Rattle.kind_text.specs.Substitution.{Item}
use Rattle.tree_kinds.specs.Expanding.{unguarded}
use Rattle.tree_kinds.specs.Standing.{Environment, Outside, Steps, coming, is_bound, name_among, same_standing, with_entries}
use Rattle.tla_model.specs.Same.{same-turned}
use Rattle.tree_kinds.proofs.Standings.{standing-bound, standing-from, standing-itself, standing-means, standing-unlike}
use Rattle.module_kinds.specs.ModuleKinds.{KindState, after, around, extended, first, known_at, module_under, named, named_in, outside, standing_behind, views}
use Rattle.flat_kinds.specs.Declarations.{AreNamesDeclared, AreUnitsDeclared, Declarations, IsDeclared, IsNoDefinition, IsSymbol, OfAllKnown, OfKnown, declared_names}
use Rattle.flat_trees.specs.Instances.{symbols_of}
use Rattle.flat_kinds.specs.Readings.{BringNone, is_among}
use Rattle.flat_kinds.specs.Yields.{HasYielded, IsYielding, Yields, yielded}
use Rattle.flat_kinds.proofs.Leaving.{meaning-left}
use Rattle.flattened_trees.specs.Agreeing.{is_seen}
use Rattle.flattened_trees.specs.Leads.{FlatFace}
use Rattle.flattened_trees.specs.Questions.{Question}
use Rattle.flattened_units.specs.Units.{AreUnitsMade, IsModuleMade, Reader, meanings_of}
use Rattle.module_meanings.specs.Premises.{IsBroughtGiven, extended_meanings, first_seen, seen_behind}
use Rattle.accepted_modules.specs.Behind.{IsForeignView}
use Rattle.accepted_modules.specs.Named.{AllNamed}
use Rattle.accepted_modules.specs.Offered.{IsOffered}
use Rattle.accepted_modules.proofs.Holding.{OfEntry, found-known}
use Rattle.accepted_modules.proofs.Tables.{IsThere, there-holds, there-passed}
use Rattle.accepted_modules.proofs.Naming.{same-declared}
use Rattle.fresh_names.specs.Seen.{IsElsewhere}
use Rattle.given_depths.specs.Own.{HasOwnNames, IsOfNone, IsOfOthers}
use Rattle.given_modules.specs.Nested.{AreUnitsBringing, IsModuleBringing}
use Rattle.given_modules.specs.Others.{BringsOthers, IsNamedOf, came_through, is_of}
use Rattle.given_modules.proofs.Ahead.{IsAt}
use Rattle.given_modules.proofs.AtUnits.{IsMet, met-first, met-next, symbol-no_definition}
use Rattle.given_modules.proofs.Elsewhere.{entries-mean}
use Rattle.given_modules.proofs.Exported.{there-passes}
use Rattle.given_modules.proofs.NestedGiven.{all-there}
use Rattle.given_modules.proofs.Others.{IsOfThis, not-others, others-alike, others-not}
use Rattle.given_modules.proofs.OwnNames.{AreOwnAt, IsOwnOfNone, among-symbols, brings-own, none-behind, none-next, none-other, none-symbol, own-left, own-next}
use Rattle.given_modules.proofs.Placed.{constants-are, variables-are}

-- an entry by which a meaning is brought
pub among-entry : (entries : Exports) (m : Meaning) (name : Named) → name_among entries m ≡ Some name → (e : Meaning) × IsThere entries name e × (same_standing m e ≡ true)
among-entry [] m name at = absurd (cc)
among-entry (entry ∷ rest) m name at = by (same_standing m entry.1) refl (among-entry rest m name) at
  where
    by : (b : Bool) → same_standing m entry.1 ≡ b → (name_among rest m ≡ Some name → (e : Meaning) × IsThere rest name e × (same_standing m e ≡ true)) → cond b (Some entry.0) (name_among rest m) ≡ Some name
        → (e : Meaning) × IsThere (entry ∷ rest) name e × (same_standing m e ≡ true)
    by true is others at = (entry.1, inl (cc at, refl), is)
    by false is others at = let later = others at in (later.0, inr later.1, later.2)

-- what stands as an entry does is among these
entry-among : (entries : Exports) (name : Named) (e m : Meaning) → IsThere entries name e → same_standing m e ≡ true → name_among entries m ≡ None → ⊥
entry-among [] name e m there same none = there
entry-among (entry ∷ rest) name e m (inl is) same none =
    let found : same_standing m entry.1 ≡ true = ap (same_standing m) is.1 ∙ same in
    let never : cond true (Some entry.0) (name_among rest m) ≡ None = ap (λ b. cond b (Some entry.0) (name_among rest m)) (sym found) ∙ none in
    cc never
entry-among (entry ∷ rest) name e m (inr there) same none = by (same_standing m entry.1) none (entry-among rest name e m there same)
  where
    by : (b : Bool) → cond b (Some entry.0) (name_among rest m) ≡ None → (name_among rest m ≡ None → ⊥) → ⊥
    by true none later = cc none
    by false none later = later none

behind-free : (m : Meaning) → is_meant stands_behind m ≡ true → is_bound m ≡ false
behind-free BuiltIn behind = refl
behind-free (Declared (entity.Bound state) callee) behind = absurd (cc behind)
behind-free (Declared e callee) behind = refl

module _ (yields : Yields) (declares : Declarations) (flat : FlatModule) (means : ℕ → Option Meaning) (implied : ℕ → List Meaning) (files : List ℕ → FlatFace) (outsides : List ℕ → Outside) (source : List ℕ) (units : ModuleUnits) (others : (name : List ℕ) → BringsOthers (text_of source units).file (outsides name)) (declared : (name : List ℕ) → AllNamed (IsDeclared declares) (outsides name).view)
    (offered : (name : List ℕ) → AllNamed IsOffered (outsides name).view) (yielding : (name : List ℕ) → IsYielding yields (outsides name)) where
  abbrev text : Text
  text = text_of source units

  abbrev words : List ℕ
  words = words_of units

  -- a definition of another module
  abbrev pub IsForeignDefinition : Meaning → Type 0
  IsForeignDefinition BuiltIn = ⊥
  IsForeignDefinition (Declared e callee) = IsOfOthers text.file (Declared e callee) × (stands_behind (declares callee.decl).1 ≡ true) × (is_bound (Declared e callee) ≡ false)

  -- a name of this module, or no definition
  abbrev pub IsOwnOr : Meaning → Type 0
  IsOwnOr BuiltIn = Unit {0}
  IsOwnOr (Declared e callee) = (is_of text.file callee.decl callee.via ≡ true) ⊎ (stands_behind (declares callee.decl).1 ≡ false)

  -- what stands as it does has what that yields
  abbrev pub IsYielded : KindState → Meaning → Type 0
  IsYielded state s = IsForeignDefinition s × ((m : Meaning) → same_standing m s ≡ true → HasYielded yields state m)

  -- no unit behind has it as its own
  abbrev pub IsOfNoneBehind : List UnitTree → KindState → Meaning → Type 0
  IsOfNoneBehind behind state s = IsOwnOfNone declares text outsides words behind state s

  -- what is known of own names there
  abbrev pub AreOwnHere : List UnitTree → KindState → Type 0
  AreOwnHere behind state = AreOwnAt declares text outsides words behind state

  -- so it is with a name that was seen
  abbrev pub StandsSeen : List UnitTree → KindState → Meaning → Type 0
  StandsSeen behind state s = IsOfNoneBehind behind state s × (IsOwnOr s ⊎ IsYielded state s)

  -- ---- modules that can be named

  -- a nested module brings what stands at a state; and names of other modules have there what they yield
  pub record IsBroughtSo (before behind : List UnitTree) (state : KindState) (one : Outside) (name : Named) (e : Meaning) : Type 0 where
    pub comes : IsElsewhere text (declaring before) e
    pub none : IsOfNoneBehind behind state e
    pub same :
        (m : Meaning) → same_standing m e ≡ true → (parameters : Environment) (arguments : List Item) (path : Steps)
        → one.standing parameters (record { name = name; arguments = arguments } ∷ path) ≡ state.standing parameters m arguments path
    pub has : (m : Meaning) → same_standing m e ≡ true → IsForeignDefinition m → HasYielded yields state m

  -- the same of all that it brings
  abbrev pub Brings : List UnitTree → List UnitTree → KindState → Outside → Type 0
  Brings before behind state one = (name : Named) (e : Meaning) → IsThere (instantiable (exported one.view)) name e → IsBroughtSo before behind state one name e

  -- what is known of a module that can be named
  pub record IsNamedSo (behind : List UnitTree) (state : KindState) (other : Outside) : Type 0 where
    pub declared_names : AllNamed (IsDeclared declares) other.view
    pub offered_names : AllNamed IsOffered other.view
    pub none : (name : Named) (e : Meaning) → IsThere (instantiable (exported other.view)) name e → IsOfNoneBehind behind state e
    pub yields_so :
        (m : Meaning) (name : Named) → IsForeignDefinition m → name_among (instantiable (exported other.view)) m ≡ Some name → (parameters : Environment) (arguments : List Item) (path : Steps)
        → other.standing parameters (record { name = name; arguments = arguments } ∷ path) ≡ yielded yields m parameters arguments path
    pub either :
        (m : Meaning) (name : Named) → name_among (instantiable (exported other.view)) m ≡ Some name
        → IsForeignDefinition m
        ⊎ ((parameters : Environment) (arguments : List Item) (path : Steps) → other.standing parameters (record { name = name; arguments = arguments } ∷ path) ≡ state.standing parameters m arguments path)

  definition-of : (other : Outside) → BringsOthers text.file other → AllNamed (IsDeclared declares) other.view → (name : Named) (e m : Meaning) → IsThere (instantiable (exported other.view)) name e → same_standing m e ≡ true → IsForeignDefinition m
  definition-of other apart_names is_declared name e m there same =
      let passed = there-passed (λ (entry : Named × Meaning). is_meant stands_behind entry.1) (exported other.view) name e there in
      by e m (there-holds (OfEntry (IsNamedOf text.file)) (exported other.view) name e apart_names.entries passed.0) (there-holds (OfEntry (IsDeclared declares)) (exported other.view) name e is_declared.entries passed.0) passed.1 same
    where
      by : (e m : Meaning) → IsNamedOf text.file name e → IsDeclared declares name e → is_meant stands_behind e ≡ true → same_standing m e ≡ true → IsForeignDefinition m
      by BuiltIn m apart is behind same = absurd (cc behind)
      by (Declared f b) BuiltIn apart is behind same = absurd (cc same)
      by (Declared f b) (Declared e a) apart is behind same =
          let means_same = standing-means (Declared e a) (Declared f b) same in (
            others-alike text.file (Declared e a) (Declared f b) means_same apart,
            ap (λ (d : DeclId). stands_behind (declares d).1) (same-declared e f a b means_same) ∙ (ap (λ p. stands_behind p.1) is ∙ behind),
            standing-bound (Declared e a) (Declared f b) same ∙ behind-free (Declared f b) behind,
          )

  -- what a module of a file brings is of none
  file-none : (behind : List UnitTree) (state : KindState) (other : Outside) → AreOwnHere behind state → BringsOthers text.file other → (name : Named) (e : Meaning) → IsThere (instantiable (exported other.view)) name e → IsOfNoneBehind behind state e
  file-none behind state other own apart_names name e there =
      let passed = there-passed (λ (entry : Named × Meaning). is_meant stands_behind entry.1) (exported other.view) name e there in
      none-other declares text outsides words behind state e own (there-holds (OfEntry (IsNamedOf text.file)) (exported other.view) name e apart_names.entries passed.0)

  -- the module of a name
  pub named-so : (before behind : List UnitTree) (state : KindState) (modules : Scope Outside) (title : List ℕ) → AreOwnHere behind state → OfAllKnown (Brings before behind state) modules.here → AllNamed (IsDeclared declares) (named_in text outsides words modules title).view
      → AllNamed IsOffered (named_in text outsides words modules title).view → IsNamedSo behind state (named_in text outsides words modules title)
  named-so before behind state modules title own all =
      found-known (Brings before behind state) modules.here title (λ (o : Option (Option Outside)). AllNamed (IsDeclared declares) (module_under outsides o title).view → AllNamed IsOffered (module_under outsides o title).view → IsNamedSo behind state (module_under outsides o title))
      (λ is_declared is_offered. record {
        declared_names = is_declared;
        offered_names = is_offered;
        none = file-none behind state (outsides title) own (others title);
        yields_so = λ m name other is. yielding title m name is;
        either = λ m name is. let entry = among-entry (instantiable (exported (outsides title).view)) m name is in inl (definition-of (outsides title) (others title) is_declared name entry.0 m entry.1 entry.2);
      }) some all
    where
      some : (found : Option Outside) → OfKnown (Brings before behind state) found → AllNamed (IsDeclared declares) (module_under outsides (Some found) title).view → AllNamed IsOffered (module_under outsides (Some found) title).view → IsNamedSo behind state (module_under outsides (Some found) title)
      some None one is_declared is_offered = record {
        declared_names = is_declared;
        offered_names = is_offered;
        none = λ name e there. absurd there;
        yields_so = λ m name other is. absurd (cc is);
        either = λ m name is. absurd (cc is);
      }
      some (Some nested) one is_declared is_offered = record {
        declared_names = is_declared;
        offered_names = is_offered;
        none = λ name e there. (one name e there).none;
        yields_so = λ m name other is parameters arguments path.
            let entry = among-entry (instantiable (exported nested.view)) m name is in
            let so = one name entry.0 entry.1 in
            so.same m entry.2 parameters arguments path ∙ (λ i. so.has m entry.2 other parameters i arguments path);
        either = λ m name is.
            let entry = among-entry (instantiable (exported nested.view)) m name is in
            inr (λ parameters arguments path. (one name entry.0 entry.1).same m entry.2 parameters arguments path);
      }

  -- ---- one module

  module _ (behind : List UnitTree) (state : KindState) (other : Outside) (so : IsNamedSo behind state other) where
    one-brought : (standing parameters : Environment) (m : Meaning) (name : Named) → IsForeignDefinition m → name_among (instantiable (exported other.view)) m ≡ Some name → with_entries standing (instantiable (exported other.view)) (other.standing parameters) m ≡ yielded yields m parameters
    one-brought standing parameters m name is at =
        ap (λ found. coming (other.standing parameters) (standing m) found) at ∙ (λ i arguments path. so.yields_so m name is at parameters arguments path i)

    one-kept : (standing parameters : Environment) (m : Meaning) → IsForeignDefinition m → standing m ≡ yielded yields m parameters → with_entries standing (instantiable (exported other.view)) (other.standing parameters) m ≡ yielded yields m parameters
    one-kept standing parameters m is before = by (name_among (instantiable (exported other.view)) m) refl
      where
        by : (found : Option Named) → name_among (instantiable (exported other.view)) m ≡ found → with_entries standing (instantiable (exported other.view)) (other.standing parameters) m ≡ yielded yields m parameters
        by None at = ap (λ found. coming (other.standing parameters) (standing m) found) at ∙ before
        by (Some name) at = one-brought standing parameters m name is at

    -- what stands before it stands so behind it, where names of other modules have what they yield
    one-stays : (standing parameters : Environment) (m : Meaning) → (IsForeignDefinition m → HasYielded yields state m) → standing m ≡ state.standing parameters m → with_entries standing (instantiable (exported other.view)) (other.standing parameters) m ≡ state.standing parameters m
    one-stays standing parameters m has before = by (name_among (instantiable (exported other.view)) m) refl
      where
        one : (name : Named) → name_among (instantiable (exported other.view)) m ≡ Some name
            → IsForeignDefinition m
            ⊎ ((parameters : Environment) (arguments : List Item) (path : Steps) → other.standing parameters (record { name = name; arguments = arguments } ∷ path) ≡ state.standing parameters m arguments path)
            → with_entries standing (instantiable (exported other.view)) (other.standing parameters) m ≡ state.standing parameters m
        one name at (inl is) = one-brought standing parameters m name is at ∙ sym (has is parameters)
        one name at (inr same) = ap (λ found. coming (other.standing parameters) (standing m) found) at ∙ (λ i arguments path. same parameters arguments path i)

        by : (found : Option Named) → name_among (instantiable (exported other.view)) m ≡ found → with_entries standing (instantiable (exported other.view)) (other.standing parameters) m ≡ state.standing parameters m
        by None at = ap (λ found. coming (other.standing parameters) (standing m) found) at ∙ before
        by (Some name) at = one name at (so.either m name at)

    -- what it exports stands so at a state where definitions of other modules do
    entry-seen : (later : List UnitTree) (then : KindState) → AreOwnHere later then → ((s : Meaning) → IsOfNoneBehind behind state s → IsOfNoneBehind later then s) → (name : Named) (s : Meaning) → IsThere (exported other.view) name s
        → (IsForeignDefinition s → IsThere (instantiable (exported other.view)) name s → IsYielded then s) → StandsSeen later then s
    entry-seen later then own kept name s there has =
        by s there (there-holds (OfEntry (IsDeclared declares)) (exported other.view) name s so.declared_names.entries there) (there-holds (OfEntry IsOffered) (exported other.view) name s so.offered_names.entries there) has
      where
        by : (s : Meaning) → IsThere (exported other.view) name s → IsDeclared declares name s → IsOffered name s → (IsForeignDefinition s → IsThere (instantiable (exported other.view)) name s → IsYielded then s) → StandsSeen later then s
        by BuiltIn there is offer has = (none-symbol declares text outsides words later then BuiltIn own tt, inl tt)
        by (Declared e callee) there is (inl symbol) has =
            let none = symbol-no_definition declares (declares callee.decl).1 (ap (λ p. stands_for_parameter p.1) is ∙ symbol) in
            (none-symbol declares text outsides words later then (Declared e callee) own none, inl (inr none))
        by (Declared e callee) there is (inr definition) has =
            let entry = there-passes (λ (one : Named × Meaning). is_meant stands_behind one.1) (exported other.view) name (Declared e callee) there definition in
            (kept (Declared e callee) (so.none name (Declared e callee) entry), by_title entry (is_of text.file callee.decl callee.via) refl)
          where
            by_title : IsThere (instantiable (exported other.view)) name (Declared e callee) → (b : Bool) → is_of text.file callee.decl callee.via ≡ b → IsOwnOr (Declared e callee) ⊎ IsYielded then (Declared e callee)
            by_title entry true here = inl (inl here)
            by_title entry false apart = inr (has (not-others text.file e callee apart, ap (λ p. stands_behind p.1) is ∙ definition, behind-free (Declared e callee) definition) entry)

  -- ---- modules that are extended

  -- the same of modules that are extended
  abbrev pub AreNamedSo : List UnitTree → KindState → Scope Outside → List Lexeme → Type 0
  AreNamedSo behind state modules ls = AllByRecursion (λ l. IsNamedSo behind state (named_in text outsides words modules (spelled source l))) ls

  extended-kept : (behind : List UnitTree) (state : KindState) (modules : Scope Outside) (parameters standing : Environment) (ls : List Lexeme) (m : Meaning) → AreNamedSo behind state modules ls → IsForeignDefinition m → standing m ≡ yielded yields m parameters
      → extended text outsides words modules parameters standing ls m ≡ yielded yields m parameters
  extended-kept behind state modules parameters standing [] m all is before = before
  extended-kept behind state modules parameters standing (l ∷ rest) m all is before =
      let other : Outside = named_in text outsides words modules (spelled source l) in
      extended-kept behind state modules parameters (with_entries standing (instantiable (exported other.view)) (other.standing parameters)) rest m all.1 is (one-kept behind state other all.0 standing parameters m is before)

  -- what stands behind these modules for what one brings
  abbrev pub IsThereBehind : Scope Outside → List Lexeme → Meaning → Type 0
  IsThereBehind modules ls m = (parameters standing : Environment) → extended text outsides words modules parameters standing ls m ≡ yielded yields m parameters

  extended-brought : (behind : List UnitTree) (state : KindState) (modules : Scope Outside) (ls : List Lexeme) (m : Meaning) → AreNamedSo behind state modules ls → IsForeignDefinition m → BringNone text outsides words modules ls m ⊎ IsThereBehind modules ls m
  extended-brought behind state modules [] m all is = inl tt
  extended-brought behind state modules (l ∷ rest) m all is =
      let other : Outside = named_in text outsides words modules (spelled source l) in
      by other all.0 (name_among (instantiable (exported other.view)) m) refl (extended-brought behind state modules rest m all.1 is)
    where
      by : (other : Outside) → IsNamedSo behind state other → (found : Option Named) → name_among (instantiable (exported other.view)) m ≡ found
          → BringNone text outsides words modules rest m ⊎ IsThereBehind modules rest m
          → ((name_among (instantiable (exported other.view)) m ≡ None) × BringNone text outsides words modules rest m)
          ⊎ ((parameters standing : Environment) → extended text outsides words modules parameters (with_entries standing (instantiable (exported other.view)) (other.standing parameters)) rest m ≡ yielded yields m parameters)
      by other so found at (inr holds) = inr (λ parameters standing. holds parameters (with_entries standing (instantiable (exported other.view)) (other.standing parameters)))
      by other so None at (inl none) = inl (at, none)
      by other so (Some name) at (inl none) =
          inr
          (λ parameters standing.
          extended-kept behind state modules parameters (with_entries standing (instantiable (exported other.view)) (other.standing parameters)) rest m all.1 is (one-brought behind state other so standing parameters m name is at))

  -- what stands before modules that are extended stands so behind them, where names of other modules have what they yield
  pub extended-stays : (behind : List UnitTree) (state : KindState) (modules : Scope Outside) (parameters standing : Environment) (ls : List Lexeme) (m : Meaning) → AreNamedSo behind state modules ls → (IsForeignDefinition m → HasYielded yields state m) → standing m ≡ state.standing parameters m
      → extended text outsides words modules parameters standing ls m ≡ state.standing parameters m
  extended-stays behind state modules parameters standing [] m all has before = before
  extended-stays behind state modules parameters standing (l ∷ rest) m all has before =
      let other : Outside = named_in text outsides words modules (spelled source l) in
      extended-stays behind state modules parameters (with_entries standing (instantiable (exported other.view)) (other.standing parameters)) rest m all.1 has (one-stays behind state other all.0 standing parameters m has before)

  -- ---- what was seen

  pub standing-definition : (m s : Meaning) → same_standing m s ≡ true → IsForeignDefinition s → IsForeignDefinition m
  standing-definition m BuiltIn same is = absurd is
  standing-definition BuiltIn (Declared f b) same is = absurd (cc same)
  standing-definition (Declared e a) (Declared f b) same is =
      let means_same = standing-means (Declared e a) (Declared f b) same in (
        others-alike text.file (Declared e a) (Declared f b) means_same is.0,
        ap (λ (d : DeclId). stands_behind (declares d).1) (same-declared e f a b means_same) ∙ is.1,
        standing-bound (Declared e a) (Declared f b) same ∙ is.2,
      )

  of-own : (s : Meaning) → IsOfThis text.file s → IsOwnOr s
  of-own BuiltIn is = tt
  of-own (Declared e callee) is = inl is

  no_definition-own : (s : Meaning) → IsNoDefinition declares s → IsOwnOr s
  no_definition-own BuiltIn none = tt
  no_definition-own (Declared e callee) none = inr none

  symbol-none : (s : Meaning) → IsSymbol declares s → IsNoDefinition declares s
  symbol-none BuiltIn symbol = tt
  symbol-none (Declared e callee) symbol = symbol-no_definition declares (declares callee.decl).1 symbol

  -- names that these modules export stand so behind them
  pub extended-seen : (behind later : List UnitTree) (old state : KindState) (modules : Scope Outside) (ls all : List Lexeme) → AreOwnHere later state → ((s : Meaning) → IsOfNoneBehind behind old s → IsOfNoneBehind later state s) → AreNamedSo behind old modules all
      → ((m : Meaning) → IsForeignDefinition m → IsThereBehind modules all m → HasYielded yields state m) → ((m : Meaning) → BringNone text outsides words modules all m → BringNone text outsides words modules ls m) → AreNamedSo behind old modules ls
      → AllByRecursion (StandsSeen later state) (extended_meanings text outsides words modules ls)
  extended-seen behind later old state modules [] all own kept files has less only = tt
  extended-seen behind later old state modules (l ∷ rest) all own kept files has less only =
      let other : Outside = named_in text outsides words modules (spelled source l) in
      all-both (StandsSeen later state) (meanings_of (exported other.view)) (extended_meanings text outsides words modules rest)
      (entries-mean (StandsSeen later state) (exported other.view)
      (all-there (λ entry. StandsSeen later state entry.1) (exported other.view)
      (λ name s there. entry-seen behind old other only.0 later state own kept name s there (yields-there other name s (λ m none. let whole = less m none in whole.0)))))
      (extended-seen behind later old state modules rest all own kept files has (λ m none. let whole = less m none in whole.1) only.1)
    where
      yields-there : (other : Outside) (name : Named) (s : Meaning) → ((m : Meaning) → BringNone text outsides words modules all m → name_among (instantiable (exported other.view)) m ≡ None) → IsForeignDefinition s → IsThere (instantiable (exported other.view)) name s → IsYielded state s
      yields-there other name s none is entry = (is, λ m same. brought m same (standing-definition m s same is) (extended-brought behind old modules all m files (standing-definition m s same is)))
        where
          brought : (m : Meaning) → same_standing m s ≡ true → IsForeignDefinition m → BringNone text outsides words modules all m ⊎ IsThereBehind modules all m → HasYielded yields state m
          brought m same is_other (inl nothing) = absurd (entry-among (instantiable (exported other.view)) name s m entry same (none m nothing))
          brought m same is_other (inr holds) = has m is_other holds

  -- no name of this module is of another one
  pub own-never : (m s : Meaning) → IsForeignDefinition m → IsOwnOr s → same_meaning m s ≡ true → ⊥
  own-never BuiltIn s is own same = is
  own-never (Declared e a) BuiltIn is own same = cc same
  own-never (Declared e a) (Declared f b) is own same = by own
    where
      by : (is_of text.file b.decl b.via ≡ true) ⊎ (stands_behind (declares b.decl).1 ≡ false) → ⊥
      by (inl here) = false≢true (sym (others-not text.file f b (others-alike text.file (Declared f b) (Declared e a) (same-turned (Declared e a) (Declared f b) same) is.0)) ∙ here)
      by (inr none) = false≢true (sym none ∙ (ap (λ (d : DeclId). stands_behind (declares d).1) (sym (same-declared e f a b same)) ∙ is.1))

  seen-has : (behind : List UnitTree) (state : KindState) (seen : List Meaning) (m : Meaning) → AllByRecursion (StandsSeen behind state) seen → is_seen seen m ≡ true → IsForeignDefinition m → HasYielded yields state m
  seen-has behind state [] m all is definition_of = absurd (cc is)
  seen-has behind state (s ∷ seen) m all is definition_of = by (same_meaning m s) refl is (seen-has behind state seen m all.1)
    where
      definition-free : (m : Meaning) → IsForeignDefinition m → is_bound m ≡ false
      definition-free BuiltIn other = refl
      definition-free (Declared e callee) other = other.2

      one : same_meaning m s ≡ true → IsOwnOr s ⊎ IsYielded state s → HasYielded yields state m
      one same (inl own) = absurd (own-never m s definition_of own same)
      one same (inr stands) = stands.1 m (standing-from m s same (definition-free m definition_of ∙ sym (definition-free s stands.0)))

      by : (b : Bool) → same_meaning m s ≡ b → cond b true (is_seen seen m) ≡ true → (is_seen seen m ≡ true → IsForeignDefinition m → HasYielded yields state m) → HasYielded yields state m
      by true same is later = one same all.0.1
      by false same is later = later is definition_of

  -- what was seen no unit behind has as its own
  seen-none : (behind : List UnitTree) (state : KindState) (seen : List Meaning) (m : Meaning) → AllByRecursion (StandsSeen behind state) seen → is_seen seen m ≡ true → IsOfNone text outsides words state behind m
  seen-none behind state [] m all is = absurd (cc is)
  seen-none behind state (s ∷ seen) m all is = by (same_meaning m s) refl is (seen-none behind state seen m all.1)
    where
      by : (b : Bool) → same_meaning m s ≡ b → cond b true (is_seen seen m) ≡ true → (is_seen seen m ≡ true → IsOfNone text outsides words state behind m) → IsOfNone text outsides words state behind m
      by true same is later = all.0.0 m same
      by false same is later = later is

  -- ---- INSTANCE without a name

  -- the entries that it brings
  abbrev pub brought : KindState → Tree → Exports
  brought state x = instance_brings text (views text outsides words) words state.read x

  -- all that it brings came through it
  pub record BringsOwn (state : KindState) (local : Option Lexeme) (x : Tree) : Type 0 where
    pub whole : HasOwnNames text outsides words state (Instance local x)
    pub own : AllByRecursion (λ (entry : Named × Meaning). IsOfThis text.file entry.1) (brought state x)

  -- it brings what a module does that can be named
  pub record BringsAs (behind : List UnitTree) (state : KindState) (local : Option Lexeme) (x : Tree) : Type 0 where
    pub other : Outside
    pub so : IsNamedSo (Instance local x ∷ behind) state other
    pub entries : brought state x ≡ instantiable (exported other.view)
    pub gives : (parameters : Environment) → unguarded text (known_at text outsides words state (Instance local x)) (named text outsides words state) (around text outsides words state parameters) x ≡ other.standing parameters

  own-unnamed : (entries : Exports) (m : Meaning) → IsForeignDefinition m → AllByRecursion (λ (entry : Named × Meaning). IsOfThis text.file entry.1) entries → name_among entries m ≡ None
  own-unnamed [] m is all = refl
  own-unnamed (entry ∷ rest) m is all = by (same_standing m entry.1) refl (own-unnamed rest m is all.1)
    where
      by : (b : Bool) → same_standing m entry.1 ≡ b → name_among rest m ≡ None → cond b (Some entry.0) (name_among rest m) ≡ None
      by true same later = absurd (own-never m entry.1 is (of-own entry.1 all.0) (standing-means m entry.1 same))
      by false same later = later

  module _ (behind : List UnitTree) (state : KindState) (local : Option Lexeme) (x : Tree) where
    -- what stands behind one that brings what another module does
    instance-brings : (it : BringsAs behind state local x) (parameters : Environment) (m : Meaning) → standing_behind text outsides words state (Instance local x) parameters m ≡ with_entries (state.standing parameters) (instantiable (exported it.other.view)) (it.other.standing parameters) m
    instance-brings it parameters m = λ i. with_entries (state.standing parameters) (it.entries i) (it.gives parameters i) m

    -- definitions of other modules have behind it what they yield
    instance-kept : BringsOwn state local x ⊎ BringsAs behind state local x → (m : Meaning) → IsForeignDefinition m → HasYielded yields state m → HasYielded yields (after text outsides words state (Instance local x)) m
    instance-kept (inl own) m is has parameters = meaning-left text outsides words state (Instance local x) m (own-unnamed (brought state x) m is own.own) parameters ∙ has parameters
    instance-kept (inr it) m is has parameters = instance-brings it parameters m ∙ one-kept (Instance local x ∷ behind) state it.other it.so (state.standing parameters) parameters m is (has parameters)

    -- what is own of no unit behind stands as before
    pub instance-stays : BringsOwn state local x ⊎ BringsAs behind state local x → (m : Meaning) → IsOfNone text outsides words state (Instance local x ∷ behind) m → (IsForeignDefinition m → HasYielded yields state m) → (parameters : Environment)
        → standing_behind text outsides words state (Instance local x) parameters m ≡ state.standing parameters m
    instance-stays (inl own) m none has parameters = meaning-left text outsides words state (Instance local x) m (own-left declares text outsides words state local x own.whole m none.0) parameters
    instance-stays (inr it) m none has parameters = instance-brings it parameters m ∙ one-stays (Instance local x ∷ behind) state it.other it.so (state.standing parameters) parameters m has refl

    -- what it brings stands so behind it
    pub instance-seen : AreOwnHere (Instance local x ∷ behind) state → BringsOwn state local x ⊎ BringsAs behind state local x → (name : Named) (m : Meaning) → IsThere (brought state x) name m → StandsSeen behind (after text outsides words state (Instance local x)) m
    instance-seen here (inl own) name m there = (
      none-behind declares text outsides words (Instance local x) behind state m here (brings-own declares text outsides words state local x own.whole name m there),
      inl (of-own m (there-holds (λ (entry : Named × Meaning). IsOfThis text.file entry.1) (brought state x) name m own.own there)),
    )
    instance-seen here (inr it) name m there =
        let entry = subst (λ (es : Exports). IsThere es name m) it.entries there in
        let passed = there-passed (λ (one : Named × Meaning). is_meant stands_behind one.1) (exported it.other.view) name m entry in
        entry-seen (Instance local x ∷ behind) state it.other it.so behind (after text outsides words state (Instance local x)) (own-next declares text outsides words (Instance local x) behind state here)
        (none-next declares text outsides words (Instance local x) behind state) name m passed.0 (λ is there_too. (is, λ k same. yields-there k same (standing-definition k m same is)))
      where
        yields-there : (k : Meaning) → same_standing k m ≡ true → IsForeignDefinition k → HasYielded yields (after text outsides words state (Instance local x)) k
        yields-there k same is parameters = by (name_among (instantiable (exported it.other.view)) k) refl
          where
            by : (found : Option Named) → name_among (instantiable (exported it.other.view)) k ≡ found → standing_behind text outsides words state (Instance local x) parameters k ≡ yielded yields k parameters
            by None at = absurd (entry-among (instantiable (exported it.other.view)) name m k (subst (λ (es : Exports). IsThere es name m) it.entries there) same at)
            by (Some used) at = instance-brings it parameters k ∙ one-brought (Instance local x ∷ behind) state it.other it.so (state.standing parameters) parameters k used is at

  -- ---- along units

  -- no name of this module is foreign
  own-none : (binders : List Binder) (m : Meaning) → IsForeignDefinition m → is_among (map (meant text) binders) m ≡ false
  own-none [] m is = refl
  own-none (b ∷ bs) m is = by (same_standing m (meant text b)) (apart m is) (own-none bs m is)
    where
      apart : (m : Meaning) → IsForeignDefinition m → same_standing m (meant text b) ≡ false
      apart BuiltIn is = absurd is
      apart (Declared e a) is = standing-unlike (Declared e a) (meant text b) (ap (λ t. (t && nat_eq a.decl.place (declaration text b.name).place) && same_units a.via []) is.0.0)

      by : (t : Bool) → t ≡ false → is_among (map (meant text) bs) m ≡ false → (t || is_among (map (meant text) bs) m) ≡ false
      by true is later = absurd (cc is)
      by false is later = later

  -- what is known of modules that a unit brings names of
  abbrev pub BringsSo : List UnitTree → KindState → UnitTree → Type 0
  BringsSo behind state (ModuleBegin dashes name extends) = AreNamedSo (ModuleBegin dashes name extends ∷ behind) state (begun state.modules (spelled source name)) extends
  BringsSo behind state (Instance local x) = BringsOwn state local x ⊎ BringsAs behind state local x
  BringsSo behind state unit = Unit {0}

  module _ (behind : List UnitTree) where
    -- what stands so stays behind units
    stays-after : (state : KindState) (unit : UnitTree) → BringsSo behind state unit → (m : Meaning) → IsForeignDefinition m → HasYielded yields state m → HasYielded yields (after text outsides words state unit) m
    stays-after state (OperatorDefinition local x) only m is has parameters = meaning-left text outsides words state (OperatorDefinition local x) m (own-none (definition x) m is) parameters ∙ has parameters
    stays-after state (FunctionDefinition local x) only m is has parameters = meaning-left text outsides words state (FunctionDefinition local x) m (own-none (definition x) m is) parameters ∙ has parameters
    stays-after state (ModuleDefinition local x) only m is has parameters = meaning-left text outsides words state (ModuleDefinition local x) m (own-none (definition x) m is) parameters ∙ has parameters
    stays-after state (Instance local x) only m is has parameters = instance-kept behind state local x only m is has parameters
    stays-after state (ModuleBegin dashes name extends) only m is has parameters =
        extended-kept (ModuleBegin dashes name extends ∷ behind) state (begun state.modules (spelled source name)) parameters (state.standing parameters) extends m only is (has parameters)
    stays-after state (Assumption word name x) only m is has parameters = has parameters
    stays-after state (Theorem word name x) only m is has parameters = has parameters
    stays-after state (Variables names) only m is has parameters = has parameters
    stays-after state (Constants declarations) only m is has parameters = has parameters
    stays-after state (Line dashes) only m is has parameters = has parameters
    stays-after state (ModuleEnd closing) only m is has parameters = has parameters

    -- what stands so is so behind units
    pub stands-after : (state : KindState) (unit : UnitTree) → BringsSo behind state unit → (s : Meaning) → StandsSeen (unit ∷ behind) state s → StandsSeen behind (after text outsides words state unit) s
    stands-after state unit only s is = (none-next declares text outsides words unit behind state s is.0, by is.1)
      where
        by : IsOwnOr s ⊎ IsYielded state s → IsOwnOr s ⊎ IsYielded (after text outsides words state unit) s
        by (inl own) = inl own
        by (inr stands) = inr (stands.0, λ m same. stays-after state unit only m (standing-definition m s same stands.0) (stands.1 m same))

    -- names that a unit declares
    own-seen : (state : KindState) (binders : List Binder) → ((m : Meaning) → is_among (map (meant text) binders) m ≡ true → IsOfNoneBehind behind state m) → AllByRecursion (StandsSeen behind state) (map (meant text) binders)
    own-seen state [] each = tt
    own-seen state (b ∷ bs) each = (
      (each (meant text b) (or_left (same_standing (meant text b) (meant text b)) (is_among (map (meant text) bs) (meant text b)) (standing-itself (meant text b))), inl (inl (or_left (bytes_eq text.file text.file) (came_through text.file []) (text-itself text.file text.file refl)))),
      own-seen state bs (λ m is. each m (or_right (same_standing m (meant text b)) (is_among (map (meant text) bs) m) is)),
    )

    symbols-seen : (state : KindState) (ms : List Meaning) → AreOwnHere behind state → AllByRecursion (IsSymbol declares) ms → AllByRecursion (StandsSeen behind state) ms
    symbols-seen state ms own all =
        all-weaker (IsSymbol declares) (StandsSeen behind state) (λ s symbol. (none-symbol declares text outsides words behind state s own (symbol-none s symbol), inl (no_definition-own s (symbol-none s symbol)))) ms all

    old-after : (state : KindState) (unit : UnitTree) → BringsSo behind state unit → (seen : List Meaning) → AllByRecursion (StandsSeen (unit ∷ behind) state) seen → AllByRecursion (StandsSeen behind (after text outsides words state unit)) seen
    old-after state unit only seen all = all-weaker (StandsSeen (unit ∷ behind) state) (StandsSeen behind (after text outsides words state unit)) (λ s is. stands-after state unit only s is) seen all

    pub seen-after : (state : KindState) (unit : UnitTree) (next : Reader) (seen : List Meaning) → AreOwnHere (unit ∷ behind) state → AreNamesDeclared declares text (declared_names unit) → BringsSo behind state unit → AllByRecursion (IsSymbol declares) next.setting.frame
        → AllByRecursion (StandsSeen (unit ∷ behind) state) seen → AllByRecursion (StandsSeen behind (after text outsides words state unit)) (seen_behind text outsides words state unit next seen)
    seen-after state (Variables vs) next seen own names only frame all =
        all-both (StandsSeen behind (after text outsides words state (Variables vs))) (map (meant text) (variables vs)) seen
        (own-seen (after text outsides words state (Variables vs)) (variables vs) (λ m is. none-symbol declares text outsides words behind (after text outsides words state (Variables vs)) m (own-next declares text outsides words (Variables vs) behind state own) (among-symbols declares text (variables vs) m names (variables-are text vs) is))) (old-after state (Variables vs) only seen all)
    seen-after state (Constants declarations) next seen own names only frame all =
        all-both (StandsSeen behind (after text outsides words state (Constants declarations))) (map (meant text) (constants declarations)) seen
        (own-seen (after text outsides words state (Constants declarations)) (constants declarations) (λ m is. none-symbol declares text outsides words behind (after text outsides words state (Constants declarations)) m (own-next declares text outsides words (Constants declarations) behind state own) (among-symbols declares text (constants declarations) m names (constants-are text (all_placed declarations)) is))) (old-after state (Constants declarations) only seen all)
    seen-after state (OperatorDefinition local x) next seen own names only frame all =
        all-both (StandsSeen behind (after text outsides words state (OperatorDefinition local x))) (map (meant text) (definition x)) seen
        (own-seen (after text outsides words state (OperatorDefinition local x)) (definition x) (λ m is. none-behind declares text outsides words (OperatorDefinition local x) behind state m own is)) (old-after state (OperatorDefinition local x) only seen all)
    seen-after state (FunctionDefinition local x) next seen own names only frame all =
        all-both (StandsSeen behind (after text outsides words state (FunctionDefinition local x))) (map (meant text) (definition x)) seen
        (own-seen (after text outsides words state (FunctionDefinition local x)) (definition x) (λ m is. none-behind declares text outsides words (FunctionDefinition local x) behind state m own is)) (old-after state (FunctionDefinition local x) only seen all)
    seen-after state (ModuleDefinition local x) next seen own names only frame all =
        all-both (StandsSeen behind (after text outsides words state (ModuleDefinition local x))) (map (meant text) (definition x)) seen
        (own-seen (after text outsides words state (ModuleDefinition local x)) (definition x) (λ m is. none-behind declares text outsides words (ModuleDefinition local x) behind state m own is)) (old-after state (ModuleDefinition local x) only seen all)
    seen-after state (Instance local x) next seen own names only frame all =
        let then : KindState = after text outsides words state (Instance local x) in
        all-both (StandsSeen behind then) (meanings_of (brought state x)) seen
        (entries-mean (StandsSeen behind then) (brought state x) (all-there (λ entry. StandsSeen behind then entry.1) (brought state x) (instance-seen behind state local x own only))) (old-after state (Instance local x) only seen all)
    seen-after state (ModuleBegin dashes name extends) next seen own names only frame all =
        let unit : UnitTree = ModuleBegin dashes name extends in
        let then : KindState = after text outsides words state (ModuleBegin dashes name extends) in
        let modules : Scope Outside = begun state.modules (spelled source name) in
        let here = own-next declares text outsides words unit behind state own in
        all-both (StandsSeen behind then) (next.setting.frame ++ extended_meanings text outsides words modules extends) seen
        (all-both (StandsSeen behind then) next.setting.frame (extended_meanings text outsides words modules extends) (symbols-seen then next.setting.frame here frame)
        (extended-seen (unit ∷ behind) behind state then modules extends extends here (none-next declares text outsides words unit behind state) only (λ m is holds parameters. holds parameters (state.standing parameters)) (λ m nothing. nothing) only))
        (old-after state unit only seen all)
    seen-after state (Assumption word name x) next seen own names only frame all = old-after state (Assumption word name x) only seen all
    seen-after state (Theorem word name x) next seen own names only frame all = old-after state (Theorem word name x) only seen all
    seen-after state (Line dashes) next seen own names only frame all = old-after state (Line dashes) only seen all
    seen-after state (ModuleEnd closing) next seen own names only frame all = old-after state (ModuleEnd closing) only seen all

    -- what a unit brings to what was seen
    pub brought-again : (state : KindState) (reader : Reader) (unit : UnitTree) (seen : List Meaning) → BringsSo behind state unit → AllByRecursion (StandsSeen (unit ∷ behind) state) seen → IsBroughtGiven flat text means implied files outsides words state reader seen unit
    brought-again state reader (ModuleBegin dashes name extends) seen only all = λ m is.
        inr
        (λ parameters.
        extended-stays (ModuleBegin dashes name extends ∷ behind) state (begun state.modules (spelled source name)) parameters (state.standing parameters) extends m only
        (λ other. seen-has (ModuleBegin dashes name extends ∷ behind) state seen m all is other) refl)
    brought-again state reader (Instance local x) seen only all = λ nested m is.
        inr (instance-stays behind state local x only m (seen-none (Instance local x ∷ behind) state seen m all is) (λ other. seen-has (Instance local x ∷ behind) state seen m all is other))
    brought-again state reader (OperatorDefinition local x) seen only all = tt
    brought-again state reader (FunctionDefinition local x) seen only all = tt
    brought-again state reader (ModuleDefinition local x) seen only all = tt
    brought-again state reader (Assumption word name x) seen only all = tt
    brought-again state reader (Theorem word name x) seen only all = tt
    brought-again state reader (Variables names) seen only all = tt
    brought-again state reader (Constants declarations) seen only all = tt
    brought-again state reader (Line dashes) seen only all = tt
    brought-again state reader (ModuleEnd closing) seen only all = tt

  pub seen-before : (symbols : List Meaning) → AreOwnHere units.units (first outsides source units) → AllByRecursion (IsSymbol declares) symbols → AreNamedSo units.units (first outsides source units) (first_scope text.file) units.extends
      → AllByRecursion (StandsSeen units.units (first outsides source units)) (first_seen flat means implied files outsides source units symbols)
  seen-before symbols own all only =
      let state : KindState = first outsides source units in
      let modules : Scope Outside = first_scope text.file in
      all-both (StandsSeen units.units state) (BuiltIn ∷ symbols) (extended_meanings text outsides words modules units.extends)
      ((none-symbol declares text outsides words units.units state BuiltIn own tt, inl tt), symbols-seen units.units state symbols own all)
      (extended-seen units.units units.units state state modules units.extends units.extends own (λ s none. none) only (λ m is holds parameters. holds parameters parameters) (λ m nothing. nothing) only)

-- ---- modules

module _ (yields : Yields) (flat : FlatModule) (means : ℕ → Option Meaning) (implied : ℕ → List Meaning) (files : List ℕ → FlatFace) (outsides : List ℕ → Outside) (source : List ℕ) (units : ModuleUnits) (foreign : (name : List ℕ) → IsForeignView (text_of source units).file (outsides name).view)
    (others : (name : List ℕ) → BringsOthers (text_of source units).file (outsides name)) (declares : Declarations) (declared : (name : List ℕ) → AllNamed (IsDeclared declares) (outsides name).view) (names : AreUnitsDeclared declares (text_of source units) units.units)
    (offered : (name : List ℕ) → AllNamed IsOffered (outsides name).view) (yielding : (name : List ℕ) → IsYielding yields (outsides name))
    (extends : AreNamedSo yields declares flat means implied files outsides source units others declared offered yielding units.units (first outsides source units) (first_scope (text_of source units).file) units.extends)
    (bringing : (before behind : List UnitTree) (unit : UnitTree) (state : KindState) → IsAt outsides source units before (unit ∷ behind) state → BringsSo yields declares flat means implied files outsides source units others declared offered yielding behind state unit) where
  abbrev Met : List UnitTree → List UnitTree → KindState → Reader → List Meaning → Type 0
  Met before behind state reader seen = IsMet flat means implied files outsides source units foreign declares (λ name. (declared name).entries) names before behind state reader seen

  units-again : (before behind : List UnitTree) (state : KindState) (reader : Reader) (seen : List Meaning) (next : Reader) (asked : List Question) (made : AreUnitsMade flat (text_of source units) means implied files outsides (words_of units) state reader behind next asked) → next.round ≡ []
      → AreOwnAt declares (text_of source units) outsides (words_of units) behind state
      → AllByRecursion (StandsSeen yields declares flat means implied files outsides source units others declared offered yielding behind state) seen → Met before behind state reader seen
      → AreUnitsBringing flat (text_of source units) means implied files outsides (words_of units) state reader seen behind next asked made
  units-again before [] state reader seen next asked made none own all is = tt
  units-again before (unit ∷ behind) state reader seen next asked made none own all is =
      let so = bringing before behind unit state is.seen_so.at in
      let names_here = (all-right (λ (u : UnitTree). AreNamesDeclared declares (text_of source units) (declared_names u)) before (unit ∷ behind) (subst (AreUnitsDeclared declares (text_of source units)) is.seen_so.at.split names)).0 in
      let then-met = met-next flat means implied files outsides source units foreign declares (λ name. (declared name).entries) names before behind unit state reader seen made.0 next made.1 made.2 is made.3 made.4 none in (
        brought-again yields declares flat means implied files outsides source units others declared offered yielding behind state reader unit seen so all,
        units-again (before ++ unit ∷ []) behind (after (text_of source units) outsides (words_of units) state unit) made.0 (seen_behind (text_of source units) outsides (words_of units) state unit made.0 seen) next made.2 made.4 none
            (own-next declares (text_of source units) outsides (words_of units) unit behind state own)
            (seen-after yields declares flat means implied files outsides source units others declared offered yielding behind state unit made.0 seen own names_here so then-met.symbols.0 all) then-met,
      )

  -- what nested modules bring stands as before, or is new
  pub module-again : (symbols : List Meaning) → symbols ≡ symbols_of (outside outsides source units) → (final : Reader) (asked : List Question) (made : IsModuleMade flat means implied files outsides source units symbols final asked) → final.round ≡ []
      → AreOwnAt declares (text_of source units) outsides (words_of units) units.units (first outsides source units) → IsModuleBringing flat means implied files outsides source units symbols final asked made
  module-again symbols same final asked made none own =
      let met = met-first flat means implied files outsides source units foreign declares (λ name. (declared name).entries) names symbols made.0 same made.1 in
      units-again [] units.units (first outsides source units) _ _ final asked made.2 none own
      (seen-before yields declares flat means implied files outsides source units others declared offered yielding symbols own met.symbols.0 extends) met
