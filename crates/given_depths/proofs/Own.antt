-- The units of a module give what they declare the depth that is theirs.
use Rattle.std.proofs.Common.{◌≡◌, ℕ, Bool, true, false, cond, List, [], ◌∷◌, ◌++◌, ◌⊎◌, inl, inr, Option, Some, None, is_some, map, refl, sym, ap, ◌∙◌, subst}
use Rattle.std.specs.Prelude.{◌||◌}
use Rattle.tla_symbols.specs.declared.lexeme.Lexeme.{Lexeme}
use Rattle.tla_tree.specs.declared.form.Form.TheVariants as Form
use Rattle.tla_tree.specs.Syntax.{Tree, Node}
use Rattle.unit_grammar.specs.Units.{UnitTree, Variables, Constants, OperatorDefinition, FunctionDefinition, ModuleDefinition, Instance, Assumption, Theorem, Line, ModuleBegin, ModuleEnd, ModuleUnits}
use Rattle.tla_model.specs.declared.ids.Callee.{Callee}
use Rattle.tla_model.specs.declared.names.Meaning.TheVariants.{BuiltIn, Declared}
use Rattle.tla_model.specs.Entities.{Entity, Meaning, Text, meant}
use Rattle.tla_model.specs.Lexemes.{spelled}
use Rattle.tla_model.specs.Scopes.{definition}
use Rattle.tla_model.specs.Tables.{Named}
use Rattle.tla_model.specs.Same.{meaning-itself}
use Rattle.module_model.specs.Exports.{Exports, exported, instantiable}
use Rattle.module_model.specs.Modules.{text_of}
use Rattle.module_model.specs.NamedModules.{view_of}
use Rattle.module_model.specs.Resolution.{instance_brings, module_named, words_of}
use Rattle.tree_kinds.specs.Standing.{Outside, Reached, is_bound, name_among, same_standing}
use Rattle.tree_kinds.specs.TreeDepths.{Depths, coming_depth, deeper, replaced_depth, with_depth}
use Rattle.tree_kinds.proofs.Standings.{standing-alike, standing-from, standing-turned}
use Rattle.module_kinds.specs.ModuleKinds.{KindState, after, beneath, depths_behind, first, known_at, named, read_all, views}
use Rattle.flat_kinds.specs.Declarations.{AreUnitsDeclared, Declarations, IsNoDefinition, IsOutsideDeclared, KeepsDeclarations}
use Rattle.flat_kinds.specs.Readings.{Leaves, is_among}
use Rattle.flat_kinds.proofs.Declarations.{keeps-after, keeps-first, unit-leaves}
use Rattle.module_meanings.proofs.Staying.{leaf-left}
use Rattle.given_depths.specs.Given.{AreSymbolsPlain, GivenDepths, Gives, IsGiven, IsGivenOutside, declared_depth, given_depth, no_reach}
use Rattle.given_depths.specs.Own.{AreOwnApart, HasOwnNames, IsOfNone, declared_as, if_replaced, is_own, own_brings, own_depth, with_own_depths}
use Rattle.given_depths.proofs.Entries.{given-alike}

-- ---- what means the same

among-alike : (ms : List Meaning) (a b : Meaning) → same_standing a b ≡ true → is_among ms a ≡ is_among ms b
among-alike [] a b same = refl
among-alike (m ∷ rest) a b same = ap (λ t. t || is_among rest a) (standing-alike a b m same) ∙ ap (λ t. same_standing b m || t) (among-alike rest a b same)

named-alike : (entries : Exports) (a b : Meaning) → same_standing a b ≡ true → name_among entries a ≡ name_among entries b
named-alike [] a b same = refl
named-alike (entry ∷ rest) a b same =
    ap (λ t. cond t (Some entry.0) (name_among rest a)) (standing-alike a b entry.1 same) ∙ ap (λ f. cond (same_standing b entry.1) (Some entry.0) f) (named-alike rest a b same)

-- the depth of what is defined
defined-depth : (depths : Depths) (ms : List Meaning) (reached : List Named → Reached) (m : Meaning) (path : List Named) → is_among ms m ≡ true → with_depth depths ms reached m path ≡ reached path
defined-depth depths [] reached m path is = absurd (cc is)
defined-depth depths (o ∷ rest) reached m path is = by_same (same_standing m o) is (defined-depth depths rest reached m path)
  where
    by_same : (t : Bool) → (t || is_among rest m) ≡ true → (is_among rest m ≡ true → with_depth depths rest reached m path ≡ reached path) → cond t (reached path) (with_depth depths rest reached m path) ≡ reached path
    by_same true is later = refl
    by_same false is later = later is

-- what is brought does not depend on how deep it was
brought-depth : (found : Option Named) (from : List Named → Reached) (here there : Reached) (path : List Named) → is_some found ≡ true → coming_depth from here found path ≡ coming_depth from there found path
brought-depth None from here there path is = absurd (cc is)
brought-depth (Some name) from here there path is = refl

-- own entries are all or none
own-either : (parameters entries : Exports) (m : Meaning) → is_some (name_among (if_replaced parameters entries) m) ≡ true → is_some (name_among entries m) ≡ true
own-either [] entries m is = absurd (cc is)
own-either (p ∷ ps) entries m is = is

none-replaced : (parameters entries : Exports) (m : Meaning) → name_among entries m ≡ None → is_some (name_among (if_replaced parameters entries) m) ≡ false
none-replaced [] entries m none = refl
none-replaced (p ∷ ps) entries m none = ap (λ (f : Option Named). is_some f) none

either-bool : (b : Bool) → (b ≡ false) ⊎ (b ≡ true)
either-bool true = inr refl
either-bool false = inl refl

module _ (text : Text) (files : List ℕ → Outside) (words : List ℕ) where
  -- a unit has own names by what they mean
  pub own-alike : (state : KindState) (unit : UnitTree) (a b : Meaning) → same_standing a b ≡ true → is_own text files words state unit a ≡ is_own text files words state unit b
  own-alike state (OperatorDefinition local x) a b same = among-alike (map (meant text) (definition x)) a b same
  own-alike state (FunctionDefinition local x) a b same = among-alike (map (meant text) (definition x)) a b same
  own-alike state (ModuleDefinition local x) a b same = among-alike (map (meant text) (definition x)) a b same
  own-alike state (Instance local x) a b same = ap (λ (f : Option Named). is_some f) (named-alike (own_brings text files words state x) a b same)
  own-alike state (Variables names) a b same = refl
  own-alike state (Constants declarations) a b same = refl
  own-alike state (Assumption word name x) a b same = refl
  own-alike state (Theorem word name x) a b same = refl
  own-alike state (Line dashes) a b same = refl
  own-alike state (ModuleBegin dashes name extends) a b same = refl
  own-alike state (ModuleEnd closing) a b same = refl

  of-none-alike : (state : KindState) (units : List UnitTree) (a b : Meaning) → same_standing a b ≡ true → IsOfNone text files words state units b → IsOfNone text files words state units a
  of-none-alike state [] a b same none = tt
  of-none-alike state (unit ∷ units) a b same none = (own-alike state unit a b same ∙ none.0, of-none-alike (after text files words state unit) units a b same none.1)

  definition-alike : (depths : Depths) (ms : List Meaning) (reached : List Named → Reached) (a b : Meaning) (path : List Named) → same_standing a b ≡ true → is_among ms a ≡ true → with_depth depths ms reached a path ≡ with_depth depths ms reached b path
  definition-alike depths ms reached a b path same is = defined-depth depths ms reached a path is ∙ sym (defined-depth depths ms reached b path (sym (among-alike ms a b same) ∙ is))

  instance-alike : (state : KindState) (local : Option Lexeme) (x : Tree) (a b : Meaning) (path : List Named) → same_standing a b ≡ true → is_some (name_among (own_brings text files words state x) a) ≡ true → depths_behind text files words state (Instance local x) a path ≡ depths_behind text files words state (Instance local x) b path
  instance-alike state local (Node (Form.Instance l) s rights) a b path same is =
      let x : Tree = Node (Form.Instance l) s rights in
      let brings : Exports = instance_brings text (views text files words) words state.read x in
      let reached : (List Named → Reached) = λ p. deeper (replaced_depth text (known_at text files words state (Instance local x)) (named text files words state) (beneath text files words state) x) ((named text files words state (spelled text.source l)).depths p) in
      let some : is_some (name_among brings a) ≡ true = own-either (view_of text (module_named text (views text files words) words state.read) l).parameters brings a is in
      let alike : name_among brings a ≡ name_among brings b = named-alike brings a b same in
      ap (λ f. coming_depth reached (state.depths a path) f path) alike
      ∙ brought-depth (name_among brings b) reached (state.depths a path) (state.depths b path) path (ap (λ (f : Option Named). is_some f) (sym alike) ∙ some)
  instance-alike state local (Node form s rights) a b path same is = absurd (cc is)

  -- own names that mean the same are as deep
  behind-alike : (state : KindState) (unit : UnitTree) (a b : Meaning) (path : List Named) → same_standing a b ≡ true → is_own text files words state unit a ≡ true → depths_behind text files words state unit a path ≡ depths_behind text files words state unit b path
  behind-alike state (OperatorDefinition local x) a b path same is = definition-alike state.depths (map (meant text) (definition x)) _ a b path same is
  behind-alike state (FunctionDefinition local x) a b path same is = definition-alike state.depths (map (meant text) (definition x)) _ a b path same is
  behind-alike state (ModuleDefinition local x) a b path same is = definition-alike state.depths (map (meant text) (definition x)) _ a b path same is
  behind-alike state (Instance local x) a b path same is = instance-alike state local x a b path same is
  behind-alike state (Variables names) a b path same is = absurd (cc is)
  behind-alike state (Constants declarations) a b path same is = absurd (cc is)
  behind-alike state (Assumption word name x) a b path same is = absurd (cc is)
  behind-alike state (Theorem word name x) a b path same is = absurd (cc is)
  behind-alike state (Line dashes) a b path same is = absurd (cc is)
  behind-alike state (ModuleBegin dashes name extends) a b path same is = absurd (cc is)
  behind-alike state (ModuleEnd closing) a b path same is = absurd (cc is)

  -- ---- along the units

  module _ (given : GivenDepths) where
    own-passes : (state : KindState) (units : List UnitTree) (m : Meaning) (path : List Named) → IsOfNone text files words state units m → own_depth text files words given state units m path ≡ given_depth given m path
    own-passes state [] m path none = refl
    own-passes state (unit ∷ units) m path none =
        ap (λ b. cond b (depths_behind text files words state unit m path) (own_depth text files words given (after text files words state unit) units m path)) none.0
        ∙ own-passes (after text files words state unit) units m path none.1

    of-none-at : (state : KindState) (before : List UnitTree) (unit : UnitTree) (behind : List UnitTree) (m : Meaning) → IsOfNone text files words state (before ++ unit ∷ behind) m → is_own text files words (read_all text files words state before) unit m ≡ false
    of-none-at state [] unit behind m none = none.0
    of-none-at state (one ∷ before) unit behind m none = of-none-at (after text files words state one) before unit behind m none.1

    own-at : (state : KindState) (before : List UnitTree) (unit : UnitTree) (behind : List UnitTree) (m : Meaning) (path : List Named) → AreOwnApart text files words state (before ++ unit ∷ behind) → is_own text files words (read_all text files words state before) unit m ≡ true
        → own_depth text files words given state (before ++ unit ∷ behind) m path ≡ depths_behind text files words (read_all text files words state before) unit m path
    own-at state [] unit behind m path apart is =
        ap (λ b. cond b (depths_behind text files words state unit m path) (own_depth text files words given (after text files words state unit) behind m path)) is
    own-at state (one ∷ before) unit behind m path apart is = by_own (is_own text files words state one m) refl (own-at (after text files words state one) before unit behind m path apart.1 is)
      where
        by_own : (b : Bool) → is_own text files words state one m ≡ b
            → own_depth text files words given (after text files words state one) (before ++ unit ∷ behind) m path ≡ depths_behind text files words (read_all text files words (after text files words state one) before) unit m path
            → cond b (depths_behind text files words state one m path) (own_depth text files words given (after text files words state one) (before ++ unit ∷ behind) m path) ≡ depths_behind text files words (read_all text files words (after text files words state one) before) unit m path
        by_own false own later = later
        by_own true own later =
            let none = of-none-at (after text files words state one) before unit behind m (apart.0 m own) in
            let never : true ≡ false = sym is ∙ none in
            absurd (cc never)

  -- ---- what a unit does not leave

  own-or-left : (state : KindState) (unit : UnitTree) (m : Meaning) → HasOwnNames text files words state unit → Leaves text files words state unit m ⊎ (is_own text files words state unit m ≡ true)
  own-or-left state (OperatorDefinition local x) m whole = either-bool (is_among (map (meant text) (definition x)) m)
  own-or-left state (FunctionDefinition local x) m whole = either-bool (is_among (map (meant text) (definition x)) m)
  own-or-left state (ModuleDefinition local x) m whole = either-bool (is_among (map (meant text) (definition x)) m)
  own-or-left state (Instance local x) m whole = by_found (name_among (instance_brings text (views text files words) words state.read x) m) refl
    where
      by_found : (found : Option Named) → name_among (instance_brings text (views text files words) words state.read x) m ≡ found → (name_among (instance_brings text (views text files words) words state.read x) m ≡ None) ⊎ (is_some (name_among (own_brings text files words state x) m) ≡ true)
      by_found None is = inl is
      by_found (Some name) is = inr (ap (λ (entries : Exports). is_some (name_among entries m)) whole ∙ ap (λ (f : Option Named). is_some f) is)
  own-or-left state (Variables names) m whole = inl tt
  own-or-left state (Constants declarations) m whole = inl tt
  own-or-left state (Assumption word name x) m whole = inl tt
  own-or-left state (Theorem word name x) m whole = inl tt
  own-or-left state (Line dashes) m whole = inl tt
  own-or-left state (ModuleBegin dashes name extends) m whole = absurd whole
  own-or-left state (ModuleEnd closing) m whole = inl tt

  -- what a unit leaves is none of its own names
  pub left-own : (state : KindState) (unit : UnitTree) (m : Meaning) → Leaves text files words state unit m → is_own text files words state unit m ≡ false
  left-own state (OperatorDefinition local x) m left = left
  left-own state (FunctionDefinition local x) m left = left
  left-own state (ModuleDefinition local x) m left = left
  left-own state (Instance local (Node (Form.Instance l) s rights)) m left =
      none-replaced (view_of text (module_named text (views text files words) words state.read) l).parameters (instance_brings text (views text files words) words state.read (Node (Form.Instance l) s rights)) m left
  left-own state (Instance local (Node form s rights)) m left = refl
  left-own state (Variables names) m left = refl
  left-own state (Constants declarations) m left = refl
  left-own state (Assumption word name x) m left = refl
  left-own state (Theorem word name x) m left = refl
  left-own state (Line dashes) m left = refl
  left-own state (ModuleBegin dashes name extends) m left = refl
  left-own state (ModuleEnd closing) m left = refl

  -- what is no definition is none of the names of units
  pub none-own : (declares : Declarations) → ((title : List ℕ) → IsOutsideDeclared declares (files title)) → (state : KindState) (units : List UnitTree) (m : Meaning) → AreUnitsDeclared declares text units → KeepsDeclarations declares state → IsNoDefinition declares m → IsOfNone text files words state units m
  none-own declares all state [] m names keeps none = tt
  none-own declares all state (unit ∷ units) m names keeps none = (
    left-own state unit m (unit-leaves declares text files words all state unit m keeps.declared names.0 none),
    none-own declares all (after text files words state unit) units m names.1 (keeps-after declares text files words all state unit names.0 keeps) none,
  )

-- ---- modules

-- what a name means by its declaration stands as it does
stands-so : (e : Entity) (callee : Callee) → is_bound (Declared e callee) ≡ false → same_standing (Declared e callee) (declared_as callee.decl callee.via) ≡ true
stands-so e callee free = standing-from (Declared e callee) (declared_as callee.decl callee.via) (meaning-itself (Declared e callee)) free

module _ (given : GivenDepths) (files : List ℕ → Outside) (source : List ℕ) (units : ModuleUnits) where
  abbrev text : Text
  text = text_of source units

  abbrev words : List ℕ
  words = words_of units

  abbrev start : KindState
  start = first files source units

  abbrev own : GivenDepths
  own = with_own_depths files source units given

  -- each unit gives its own names these depths
  pub gives-own : (before : List UnitTree) (unit : UnitTree) (behind : List UnitTree) → units.units ≡ before ++ unit ∷ behind → AreOwnApart text files words start units.units → HasOwnNames text files words (read_all text files words start before) unit → Gives own text files words (read_all text files words start before) unit
  gives-own before unit behind split apart whole BuiltIn = inl (leaf-left text files words (read_all text files words start before) unit BuiltIn (inl refl))
  gives-own before unit behind split apart whole (Declared e callee) = by_bound (is_bound m) refl
    where
      m : Meaning
      m = Declared e callee

      as_declared : Meaning
      as_declared = declared_as callee.decl callee.via

      state : KindState
      state = read_all text files words start before

      by_own : is_bound m ≡ false → Leaves text files words state unit m ⊎ (is_own text files words state unit m ≡ true) → Leaves text files words state unit m ⊎ IsGiven own (depths_behind text files words state unit) m
      by_own free (inl left) = inl left
      by_own free (inr is) =
          inr
          (λ path.
          let same = stands-so e callee free in
          let there : is_own text files words state unit as_declared ≡ true = sym (own-alike text files words state unit m as_declared same) ∙ is in
          behind-alike text files words state unit m as_declared path same is
          ∙ sym (own-at text files words given start before unit behind as_declared path (subst (λ us. AreOwnApart text files words start us) split apart) there)
          ∙ sym (ap (λ us. own_depth text files words given start us as_declared path) split)
          ∙ sym (ap (λ b. cond b no_reach (declared_depth own m path)) free))

      by_bound : (b : Bool) → is_bound m ≡ b → Leaves text files words state unit m ⊎ IsGiven own (depths_behind text files words state unit) m
      by_bound true bound = inl (leaf-left text files words state unit m (inr bound))
      by_bound false free = by_own free (own-or-left text files words state unit m whole)

  -- what is none of its names is as deep as before
  none-kept : (m : Meaning) (path : List Named) → IsOfNone text files words start units.units m → given_depth own m path ≡ given_depth given m path
  none-kept BuiltIn path none = refl
  none-kept (Declared e callee) path none = by_bound (is_bound (Declared e callee)) refl
    where
      by_bound : (b : Bool) → is_bound (Declared e callee) ≡ b → given_depth own (Declared e callee) path ≡ given_depth given (Declared e callee) path
      by_bound true bound = ap (λ b. cond b no_reach (declared_depth own (Declared e callee) path)) bound ∙ sym (ap (λ b. cond b no_reach (declared_depth given (Declared e callee) path)) bound)
      by_bound false free =
          let same = stands-so e callee free in
          let turned = standing-turned (Declared e callee) (declared_as callee.decl callee.via) same in
          ap (λ b. cond b no_reach (declared_depth own (Declared e callee) path)) free
          ∙ own-passes text files words given start units.units (declared_as callee.decl callee.via) path (of-none-alike text files words start units.units (declared_as callee.decl callee.via) (Declared e callee) turned none)
          ∙ given-alike given (declared_as callee.decl callee.via) (Declared e callee) path turned

  -- a file that brings none of them
  pub file-kept : (file : Outside) → IsGivenOutside given file → ((m : Meaning) (name : Named) → name_among (instantiable (exported file.view)) m ≡ Some name → IsOfNone text files words start units.units m) → IsGivenOutside own file
  file-kept file gives none m name is path = gives m name is path ∙ sym (none-kept m path (none m name is))

  -- symbols are given none
  pub symbols-kept : (declares : Declarations) → ((title : List ℕ) → IsOutsideDeclared declares (files title)) → AreUnitsDeclared declares text units.units → AreSymbolsPlain declares given → AreSymbolsPlain declares own
  symbols-kept declares all names plain BuiltIn none path = refl
  symbols-kept declares all names plain (Declared e callee) none path =
      own-passes text files words given start units.units (declared_as callee.decl callee.via) path
      (none-own text files words declares all start units.units (declared_as callee.decl callee.via) names (keeps-first declares files source units all) none)
      ∙ plain (Declared e callee) none path
