-- What was seen is as deep as is given, unit by unit; so it stays as deep as before.
use Rattle.std.proofs.Common.{◌≡◌, ℕ, Bool, true, false, cond, List, [], ◌∷◌, ◌++◌, ◌⊎◌, inl, inr, Option, Some, None, map, refl, sym, ap, ◌∙◌}
use Rattle.std.specs.Prelude.{◌||◌}
use Rattle.std.specs.List.{AllByRecursion}
use Rattle.tla_symbols.specs.declared.lexeme.Lexeme.{Lexeme}
use Rattle.tla_tree.specs.Syntax.{Tree, Node}
use Rattle.unit_grammar.specs.Units.{UnitTree, Variables, Constants, OperatorDefinition, FunctionDefinition, ModuleDefinition, Instance, Assumption, Theorem, Line, ModuleBegin, ModuleEnd, ModuleUnits}
use Rattle.tla_model.specs.declared.entity.Entity.TheVariants as entity
use Rattle.tla_model.specs.declared.names.Binder.{Binder}
use Rattle.tla_model.specs.declared.names.Binding.TheVariants as as_binding
use Rattle.tla_model.specs.declared.names.Meaning.TheVariants.{BuiltIn, Declared}
use Rattle.tla_model.specs.Entities.{Entity, Meaning, Text, all_placed, bound_as, defines, meant, same_meaning, variables}
use Rattle.tla_model.specs.EntityKinds.{is_meant, stands_behind}
use Rattle.tla_model.specs.Lexemes.{spelled}
use Rattle.tla_model.specs.Scopes.{definition}
use Rattle.tla_model.specs.Tables.{Named}
use Rattle.module_scope.specs.Environments.{Environment as Modules, Scope, begun, first as first_scope, meaning as module_meaning}
use Rattle.module_model.specs.Exports.{Exports, exported, instantiable}
use Rattle.module_model.specs.Modules.{constants, text_of}
use Rattle.module_model.specs.Resolution.{instance_brings, words_of}
use Rattle.tree_kinds.specs.Standing.{Outside, is_bound, name_among, same_standing}
use Rattle.tree_kinds.specs.TreeDepths.{Depths}
use Rattle.tree_kinds.proofs.Standings.{standing-from}
use Rattle.module_kinds.specs.ModuleKinds.{KindState, depths_behind, first, module_under, named_in, views}
use Rattle.flat_kinds.specs.Declarations.{AreDeclared, AreNamesDeclared, Declarations, IsDeclared, IsNoDefinition, IsOutsideDeclared, IsStateDeclared, OfAllKnown, OfKnown, declared_names}
use Rattle.flat_kinds.specs.Readings.{BringNone, Leaves, is_among}
use Rattle.flat_kinds.proofs.Declarations.{added-known, found-known}
use Rattle.flat_depths.proofs.Units.{meaning-left}
use Rattle.flattened_trees.specs.Agreeing.{is_seen}
use Rattle.flattened_units.specs.Units.{Reader, meanings_of}
use Rattle.module_meanings.specs.Premises.{extended_meanings, seen_behind}
use Rattle.module_meanings.proofs.Staying.{AreBehind, brings-behind, defined-behind}
use Rattle.given_depths.specs.Given.{ArePlainNames, AreSeenGiven, AreSymbolsPlain, GivenDepths, Gives, IsGiven, IsGivenOutside, IsPlainName, declared_depth, given_depth, no_reach}
use Rattle.given_depths.proofs.Plain.{none-alike, plain-after, plain-first}
use Rattle.given_depths.proofs.Coming.{first-gives}

-- ---- what was seen

-- what is among these and those is among these or those
seen-parts : (a b : List Meaning) (m : Meaning) → is_seen (a ++ b) m ≡ true → (is_seen a m ≡ true) ⊎ (is_seen b m ≡ true)
seen-parts [] b m is = inr is
seen-parts (o ∷ rest) b m is = by_same (same_meaning m o) is (seen-parts rest b m)
  where
    by_same : (t : Bool) → cond t true (is_seen (rest ++ b) m) ≡ true → (is_seen (rest ++ b) m ≡ true → (is_seen rest m ≡ true) ⊎ (is_seen b m ≡ true)) → (cond t true (is_seen rest m) ≡ true) ⊎ (is_seen b m ≡ true)
    by_same true is later = inl refl
    by_same false is later = later is

-- it means the same as one of them
seen-one : (R : Type 0) (P : Meaning → Type 0) (ms : List Meaning) (m : Meaning) → AllByRecursion P ms → is_seen ms m ≡ true → ((o : Meaning) → P o → same_meaning m o ≡ true → R) → R
seen-one R P [] m all is then = absurd (cc is)
seen-one R P (o ∷ rest) m all is then = by_same (same_meaning m o) refl is (λ later. seen-one R P rest m all.1 later then)
  where
    by_same : (t : Bool) → same_meaning m o ≡ t → cond t true (is_seen rest m) ≡ true → (is_seen rest m ≡ true → R) → R
    by_same true same is later = then o all.0 same
    by_same false same is later = later is

-- what is no bound name stands for one of these where it means the same, which are definitions and instances
behind-free : (m : Meaning) → is_meant stands_behind m ≡ true → is_bound m ≡ false
behind-free BuiltIn is = refl
behind-free (Declared (entity.Bound state) x) is = cc is
behind-free (Declared e x) is = refl

same-behind : (m o : Meaning) → is_bound m ≡ false → is_meant stands_behind o ≡ true → same_meaning m o ≡ true → same_standing m o ≡ true
same-behind m o free behind same = standing-from m o same (free ∙ sym (behind-free o behind))

seen-among : (ms : List Meaning) (m : Meaning) → AllByRecursion (λ (d : Meaning). is_meant stands_behind d ≡ true) ms → is_bound m ≡ false → is_seen ms m ≡ true → is_among ms m ≡ true
seen-among [] m all free is = absurd (cc is)
seen-among (o ∷ rest) m all free is = by_same (same_meaning m o) refl is (seen-among rest m all.1 free)
  where
    or-true : (b : Bool) → (b || true) ≡ true
    or-true true = refl
    or-true false = refl

    by_same : (t : Bool) → same_meaning m o ≡ t → cond t true (is_seen rest m) ≡ true → (is_seen rest m ≡ true → is_among rest m ≡ true) → (same_standing m o || is_among rest m) ≡ true
    by_same true same is later = ap (λ b. b || is_among rest m) (same-behind m o free all.0 same)
    by_same false same is later = ap (λ b. same_standing m o || b) (later is) ∙ or-true (same_standing m o)

seen-named : (entries : Exports) (m : Meaning) → AreBehind entries → is_bound m ≡ false → is_seen (meanings_of entries) m ≡ true → name_among entries m ≡ None → ⊥
seen-named [] m all free is none = cc is
seen-named (entry ∷ rest) m all free is none = by_same (same_meaning m entry.1) refl is (same_standing m entry.1) refl none (seen-named rest m all.1 free)
  where
    by_same : (t : Bool) → same_meaning m entry.1 ≡ t → cond t true (is_seen (meanings_of rest) m) ≡ true → (u : Bool) → same_standing m entry.1 ≡ u → cond u (Some entry.0) (name_among rest m) ≡ None → (is_seen (meanings_of rest) m ≡ true → name_among rest m ≡ None → ⊥) → ⊥
    by_same t same is true stands none later = cc none
    by_same false same is false stands none later = later is none
    by_same true same is false stands none later =
        let never : true ≡ false = sym (same-behind m entry.1 free all.0 same) ∙ stands in
        cc never

-- ---- what units give

module _ (given : GivenDepths) (text : Text) (files : List ℕ → Outside) (words : List ℕ) (state : KindState) (seen : List Meaning) (before : AreSeenGiven given state.depths seen) where
  -- what was seen is so deep behind a unit
  kept : (unit : UnitTree) → Gives given text files words state unit → (m : Meaning) → is_seen seen m ≡ true → IsGiven given (depths_behind text files words state unit) m
  kept unit gives m is = by_given (gives m)
    where
      by_given : Leaves text files words state unit m ⊎ IsGiven given (depths_behind text files words state unit) m → IsGiven given (depths_behind text files words state unit) m
      by_given (inl leaves) path = meaning-left text files words state unit m path leaves ∙ before m is path
      by_given (inr one) path = one path

  -- and so as deep as before
  pub seen-stays : (unit : UnitTree) → Gives given text files words state unit → (m : Meaning) → is_seen seen m ≡ true → (path : List Named) → depths_behind text files words state unit m path ≡ state.depths m path
  seen-stays unit gives m is path = kept unit gives m is path ∙ sym (before m is path)

module _ (declares : Declarations) where
  -- what a module exports is a symbol, or it brings it
  seen-exported : (entries : Exports) (m : Meaning) → AreDeclared declares entries → is_bound m ≡ false → is_seen (meanings_of entries) m ≡ true → IsNoDefinition declares m ⊎ (name_among (instantiable entries) m ≡ None → ⊥)
  seen-exported [] m all free is = absurd (cc is)
  seen-exported (entry ∷ rest) m all free is = by_same (same_meaning m entry.1) refl is (seen-exported rest m all.1 free)
    where
      plain : (o : Meaning) (name : Named) → IsDeclared declares name o → is_meant stands_behind o ≡ false → IsNoDefinition declares o
      plain BuiltIn name declared none = tt
      plain (Declared e callee) name declared none = ap (λ (p : Named × Entity). stands_behind p.1) declared ∙ none

      kept : (b : Bool) (u : Bool) → (name_among (instantiable rest) m ≡ None → ⊥) → same_standing m entry.1 ≡ u → name_among (cond b (entry ∷ instantiable rest) (instantiable rest)) m ≡ None → ⊥
      kept false u never stands none = never none
      kept true true never stands none =
          let found : name_among (entry ∷ instantiable rest) m ≡ Some entry.0 = ap (λ b. cond b (Some entry.0) (name_among (instantiable rest) m)) stands in
          let wrong : Some entry.0 ≡ None = sym found ∙ none in
          cc wrong
      kept true false never stands none =
          never (sym (ap (λ b. cond b (Some entry.0) (name_among (instantiable rest) m)) stands) ∙ none)

      later : IsNoDefinition declares m ⊎ (name_among (instantiable rest) m ≡ None → ⊥) → IsNoDefinition declares m ⊎ (name_among (instantiable (entry ∷ rest)) m ≡ None → ⊥)
      later (inl none) = inl none
      later (inr never) = inr (kept (is_meant stands_behind entry.1) (same_standing m entry.1) never refl)

      here : (b : Bool) → is_meant stands_behind entry.1 ≡ b → same_meaning m entry.1 ≡ true → IsNoDefinition declares m ⊎ (name_among (cond b (entry ∷ instantiable rest) (instantiable rest)) m ≡ None → ⊥)
      here false kind same = inl (none-alike declares m entry.1 same (plain entry.1 entry.0 all.0 kind))
      here true kind same =
          inr
          (λ none.
          let found : name_among (entry ∷ instantiable rest) m ≡ Some entry.0 = ap (λ b. cond b (Some entry.0) (name_among (instantiable rest) m)) (same-behind m entry.1 free kind same) in
          let wrong : Some entry.0 ≡ None = sym found ∙ none in
          cc wrong)

      by_same : (t : Bool) → same_meaning m entry.1 ≡ t → cond t true (is_seen (meanings_of rest) m) ≡ true → (is_seen (meanings_of rest) m ≡ true → IsNoDefinition declares m ⊎ (name_among (instantiable rest) m ≡ None → ⊥)) → IsNoDefinition declares m ⊎ (name_among (instantiable (entry ∷ rest)) m ≡ None → ⊥)
      by_same true same is others = here (is_meant stands_behind entry.1) refl same
      by_same false same is others = later (others is)

  module _ (text : Text) where
    -- names that units declare as symbols
    symbols-plain : (binders : List Binder) → AllByRecursion (λ (b : Binder). stands_behind b.entity ≡ false) binders → AreNamesDeclared declares text binders → AllByRecursion (IsNoDefinition declares) (map (meant text) binders)
    symbols-plain [] kinds all = tt
    symbols-plain (b ∷ rest) kinds all = (ap (λ (p : Named × Entity). stands_behind p.1) all.0 ∙ kinds.0, symbols-plain rest kinds.1 all.1)

    variables-are : (names : List Lexeme) → AllByRecursion (λ (b : Binder). stands_behind b.entity ≡ false) (variables names)
    variables-are [] = tt
    variables-are (name ∷ rest) = (refl, variables-are rest)

    constants-are : (names : List (Lexeme × ℕ)) → AllByRecursion (λ (b : Binder). stands_behind b.entity ≡ false) (bound_as as_binding.Constant names)
    constants-are [] = tt
    constants-are (name ∷ rest) = (refl, constants-are rest)

  module _ (given : GivenDepths) (symbols : AreSymbolsPlain declares given) where
    plain-given : (m : Meaning) → IsPlainName declares m → (path : List Named) → given_depth given m path ≡ no_reach
    plain-given m (inr bound) path = ap (λ b. cond b no_reach (declared_depth given m path)) bound
    plain-given m (inl none) path = ap (λ r. cond (is_bound m) no_reach r) (symbols m none path) ∙ either (is_bound m)
      where
        either : (b : Bool) → cond b no_reach no_reach ≡ no_reach
        either true = refl
        either false = refl

    -- what is plain is so deep where it has no depth
    pub plain-is : (depths : Depths) (m : Meaning) → ((path : List Named) → depths m path ≡ no_reach) → IsPlainName declares m → IsGiven given depths m
    plain-is depths m none why path = none path ∙ sym (plain-given m why path)

    -- ---- units

    named-declared : (files : List ℕ → Outside) (modules : Modules Outside) (name : List ℕ) → ((title : List ℕ) → IsOutsideDeclared declares (files title)) → OfAllKnown (IsOutsideDeclared declares) modules → IsOutsideDeclared declares (module_under files (module_meaning modules name) name)
    named-declared files modules name files_declared all = found-known (IsOutsideDeclared declares) modules name (λ (found : Option (Option Outside)). IsOutsideDeclared declares (module_under files found name)) (files_declared name) some all
      where
        some : (found : Option Outside) → OfKnown (IsOutsideDeclared declares) found → IsOutsideDeclared declares (module_under files (Some found) name)
        some None one = tt
        some (Some known) one = one

    definition-behind : (text : Text) (x : Tree) → AllByRecursion (λ (d : Meaning). is_meant stands_behind d ≡ true) (map (meant text) (definition x))
    definition-behind text (Node form s parts) = defined-behind text (defines form) parts

    module _ (text : Text) (files : List ℕ → Outside) (words : List ℕ) (files_declared : (name : List ℕ) → IsOutsideDeclared declares (files name)) where
      -- what modules that are extended export is a symbol, or one of them brings it
      extended-seen : (modules : Scope Outside) (ls : List Lexeme) (m : Meaning) → OfAllKnown (IsOutsideDeclared declares) modules.here → is_bound m ≡ false → is_seen (extended_meanings text files words modules ls) m ≡ true → IsNoDefinition declares m ⊎ (BringNone text files words modules ls m → ⊥)
      extended-seen modules [] m all free is = absurd (cc is)
      extended-seen modules (l ∷ rest) m all free is =
          by_part (seen-parts (meanings_of (exported other.view)) (extended_meanings text files words modules rest) m is) (extended-seen modules rest m all free)
        where
          other : Outside
          other = named_in text files words modules (spelled text.source l)

          by_here : IsNoDefinition declares m ⊎ (name_among (instantiable (exported other.view)) m ≡ None → ⊥) → IsNoDefinition declares m ⊎ (BringNone text files words modules (l ∷ rest) m → ⊥)
          by_here (inl none) = inl none
          by_here (inr never) = inr (λ none. never none.0)

          by_later : IsNoDefinition declares m ⊎ (BringNone text files words modules rest m → ⊥) → IsNoDefinition declares m ⊎ (BringNone text files words modules (l ∷ rest) m → ⊥)
          by_later (inl none) = inl none
          by_later (inr never) = inr (λ none. never none.1)

          by_part : (is_seen (meanings_of (exported other.view)) m ≡ true) ⊎ (is_seen (extended_meanings text files words modules rest) m ≡ true) → (is_seen (extended_meanings text files words modules rest) m ≡ true → IsNoDefinition declares m ⊎ (BringNone text files words modules rest m → ⊥)) → IsNoDefinition declares m ⊎ (BringNone text files words modules (l ∷ rest) m → ⊥)
          by_part (inl here) later = by_here (seen-exported (exported other.view) m (named-declared files modules.here (spelled text.source l) files_declared all) free here)
          by_part (inr there) later = by_later (later there)

      module _ (state : KindState) (seen : List Meaning) (before : AreSeenGiven given state.depths seen) where
        module _ (declared : IsStateDeclared declares state) (plain : ArePlainNames declares state.depths) where
          -- what comes by a unit is a symbol, or the unit does not leave it
          new : (unit : UnitTree) → AreNamesDeclared declares text (declared_names unit) → Gives given text files words state unit → (m : Meaning) → (is_bound m ≡ false → IsNoDefinition declares m ⊎ (Leaves text files words state unit m → ⊥)) → IsGiven given (depths_behind text files words state unit) m
          new unit names gives m why = by_bound (is_bound m) refl
            where
              by_plain : IsPlainName declares m → IsGiven given (depths_behind text files words state unit) m
              by_plain one = plain-is (depths_behind text files words state unit) m (plain-after declares text files words files_declared state unit names declared plain m one) one

              by_given : (Leaves text files words state unit m → ⊥) → Leaves text files words state unit m ⊎ IsGiven given (depths_behind text files words state unit) m → IsGiven given (depths_behind text files words state unit) m
              by_given never (inl leaves) = absurd (never leaves)
              by_given never (inr one) = one

              by_why : IsNoDefinition declares m ⊎ (Leaves text files words state unit m → ⊥) → IsGiven given (depths_behind text files words state unit) m
              by_why (inl none) = by_plain (inl none)
              by_why (inr never) = by_given never (gives m)

              by_bound : (b : Bool) → is_bound m ≡ b → IsGiven given (depths_behind text files words state unit) m
              by_bound true is = by_plain (inr is)
              by_bound false is = by_why (why is)

          joined : (unit : UnitTree) (ms : List Meaning) → Gives given text files words state unit → ((m : Meaning) → is_seen ms m ≡ true → IsGiven given (depths_behind text files words state unit) m) → AreSeenGiven given (depths_behind text files words state unit) (ms ++ seen)
          joined unit ms gives each m is = by_part (seen-parts ms seen m is)
            where
              by_part : (is_seen ms m ≡ true) ⊎ (is_seen seen m ≡ true) → IsGiven given (depths_behind text files words state unit) m
              by_part (inl here) = each m here
              by_part (inr there) = kept given text files words state seen before unit gives m there

          none-seen : (ms : List Meaning) (m : Meaning) → AllByRecursion (IsNoDefinition declares) ms → is_seen ms m ≡ true → IsNoDefinition declares m
          none-seen ms m all is = seen-one (IsNoDefinition declares m) (IsNoDefinition declares) ms m all is (λ o none same. none-alike declares m o same none)

          defined : (unit : UnitTree) (x : Tree) → AreNamesDeclared declares text (declared_names unit) → Gives given text files words state unit → ((m : Meaning) → Leaves text files words state unit m → is_among (map (meant text) (definition x)) m ≡ false) → AreSeenGiven given (depths_behind text files words state unit) (map (meant text) (definition x) ++ seen)
          defined unit x names gives leaves =
              joined unit (map (meant text) (definition x)) gives
              (λ m is.
              new unit names gives m
              (λ free.
              inr
              (λ left.
              let never : true ≡ false = sym (seen-among (map (meant text) (definition x)) m (definition-behind text x) free is) ∙ leaves m left in
              cc never)))

          -- behind a unit
          pub seen-after : (unit : UnitTree) (next : Reader) → AreNamesDeclared declares text (declared_names unit) → AllByRecursion (IsNoDefinition declares) next.setting.frame → Gives given text files words state unit → AreSeenGiven given (depths_behind text files words state unit) (seen_behind text files words state unit next seen)
          seen-after (Variables ns) next names frame gives =
              joined (Variables ns) (map (meant text) (variables ns)) gives
              (λ m is. new (Variables ns) names gives m (λ free. inl (none-seen (map (meant text) (variables ns)) m (symbols-plain text (variables ns) (variables-are text ns) names) is)))
          seen-after (Constants ds) next names frame gives =
              joined (Constants ds) (map (meant text) (constants ds)) gives
              (λ m is. new (Constants ds) names gives m (λ free. inl (none-seen (map (meant text) (constants ds)) m (symbols-plain text (constants ds) (constants-are text (all_placed ds)) names) is)))
          seen-after (OperatorDefinition local x) next names frame gives = defined (OperatorDefinition local x) x names gives (λ m left. left)
          seen-after (FunctionDefinition local x) next names frame gives = defined (FunctionDefinition local x) x names gives (λ m left. left)
          seen-after (ModuleDefinition local x) next names frame gives = defined (ModuleDefinition local x) x names gives (λ m left. left)
          seen-after (Instance local x) next names frame gives =
              let brings : Exports = instance_brings text (views text files words) words state.read x in
              joined (Instance local x) (meanings_of brings) gives
              (λ m is. new (Instance local x) names gives m (λ free. inr (λ left. seen-named brings m (brings-behind text files words state.read x) free is left)))
          seen-after (ModuleBegin dashes name extends) next names frame gives =
              let modules : Scope Outside = begun state.modules (spelled text.source name) in
              let all : OfAllKnown (IsOutsideDeclared declares) modules.here = added-known (IsOutsideDeclared declares) state.modules.here (spelled text.source name) None declared.modules tt in
              joined (ModuleBegin dashes name extends) (next.setting.frame ++ extended_meanings text files words modules extends) gives
              (λ m is. new (ModuleBegin dashes name extends) names gives m (λ free. by_part modules all m free (seen-parts next.setting.frame (extended_meanings text files words modules extends) m is)))
            where
              by_part : (modules : Scope Outside) → OfAllKnown (IsOutsideDeclared declares) modules.here → (m : Meaning) → is_bound m ≡ false → (is_seen next.setting.frame m ≡ true) ⊎ (is_seen (extended_meanings text files words modules extends) m ≡ true) → IsNoDefinition declares m ⊎ (BringNone text files words modules extends m → ⊥)
              by_part modules all m free (inl here) = inl (none-seen next.setting.frame m frame here)
              by_part modules all m free (inr there) = extended-seen modules extends m all free there
          seen-after (ModuleEnd closing) next names frame gives = kept given text files words state seen before (ModuleEnd closing) gives
          seen-after (Assumption word name x) next names frame gives = kept given text files words state seen before (Assumption word name x) gives
          seen-after (Theorem word name x) next names frame gives = kept given text files words state seen before (Theorem word name x) gives
          seen-after (Line dashes) next names frame gives = kept given text files words state seen before (Line dashes) gives

    -- behind what a module extends
    pub seen-first : (files : List ℕ → Outside) (source : List ℕ) (units : ModuleUnits) (ms : List Meaning) → ((name : List ℕ) → IsOutsideDeclared declares (files name)) → ((name : List ℕ) → IsGivenOutside given (files name)) → AllByRecursion (IsNoDefinition declares) ms
        → AreSeenGiven given (first files source units).depths (BuiltIn ∷ ms ++ extended_meanings (text_of source units) files (words_of units) (first_scope (text_of source units).file) units.extends)
    seen-first files source units ms files_declared files_give all m is = by_bound (is_bound m) refl
      where
        text : Text
        text = text_of source units

        ends : List Meaning
        ends = extended_meanings text files (words_of units) (first_scope text.file) units.extends

        by_plain : IsPlainName declares m → IsGiven given (first files source units).depths m
        by_plain one = plain-is (first files source units).depths m (plain-first declares files source units files_declared m one) one

        by_given : (BringNone text files (words_of units) (first_scope text.file) units.extends m → ⊥) → BringNone text files (words_of units) (first_scope text.file) units.extends m ⊎ IsGiven given (first files source units).depths m → IsGiven given (first files source units).depths m
        by_given never (inl none) = absurd (never none)
        by_given never (inr one) = one

        by_why : IsNoDefinition declares m ⊎ (BringNone text files (words_of units) (first_scope text.file) units.extends m → ⊥) → IsGiven given (first files source units).depths m
        by_why (inl none) = by_plain (inl none)
        by_why (inr never) = by_given never (first-gives given files source units m files_give)

        by_part : is_bound m ≡ false → (is_seen (BuiltIn ∷ ms) m ≡ true) ⊎ (is_seen ends m ≡ true) → IsNoDefinition declares m ⊎ (BringNone text files (words_of units) (first_scope text.file) units.extends m → ⊥)
        by_part free (inl here) = inl (seen-one (IsNoDefinition declares m) (IsNoDefinition declares) (BuiltIn ∷ ms) m (tt, all) here (λ o none same. none-alike declares m o same none))
        by_part free (inr there) = extended-seen text files (words_of units) files_declared (first_scope text.file) units.extends m (tt, tt) free there

        by_bound : (b : Bool) → is_bound m ≡ b → IsGiven given (first files source units).depths m
        by_bound true bound = by_plain (inr bound)
        by_bound false free = by_why (by_part free (seen-parts (BuiltIn ∷ ms) ends m is))
