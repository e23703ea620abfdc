-- What is no definition and no instance has no depth, unit by unit.
use Rattle.std.proofs.Common.{◌≡◌, ℕ, Bool, true, false, cond, List, [], ◌∷◌, inl, inr, Some, None, refl, sym, ap, ◌∙◌}
use Rattle.std.specs.List.{AllByRecursion}
use Rattle.std.specs.Str.{bytes_eq}
use Rattle.std.proofs.lemmas.Bool.{and_parts}
use Rattle.tla_symbols.specs.declared.lexeme.Lexeme.{Lexeme}
use Rattle.unit_grammar.specs.Units.{ModuleUnits, UnitTree}
use Rattle.tla_model.specs.declared.names.Meaning.TheVariants.{BuiltIn, Declared}
use Rattle.tla_model.specs.Entities.{Entity, Meaning, Text, same_decl, same_meaning, same_units}
use Rattle.tla_model.specs.EntityKinds.{is_meant, stands_behind}
use Rattle.tla_model.specs.Lexemes.{spelled}
use Rattle.tla_model.specs.Tables.{Named}
use Rattle.tla_model.specs.Same.{decl-equal, same-turned}
use Rattle.module_scope.specs.Environments.{Scope, first as first_scope}
use Rattle.module_model.specs.Exports.{Exports, exported, instantiable}
use Rattle.module_model.specs.Modules.{text_of}
use Rattle.module_model.specs.Resolution.{words_of}
use Rattle.tree_kinds.specs.Standing.{Outside, name_among, same_standing}
use Rattle.tree_kinds.specs.TreeDepths.{Depths, coming_depth, no_depths, with_entry_depths}
use Rattle.tree_kinds.proofs.Standings.{standing-means}
use Rattle.module_kinds.specs.ModuleKinds.{KindState, after, depths_behind, extended_depths, first, module_under, named_in, read_all}
use Rattle.flat_kinds.specs.Declarations.{AreDeclared, AreNamesDeclared, AreUnitsDeclared, Declarations, IsDeclared, IsNoDefinition, IsOutsideDeclared, IsStateDeclared, KeepsDeclarations, declared_names}
use Rattle.flat_kinds.specs.Readings.{BringNone, Leaves, extended_entries}
use Rattle.flat_kinds.specs.Symbols.{same_declared, same_symbol}
use Rattle.flat_kinds.proofs.Declarations.{keeps-after, unit-leaves}
use Rattle.flat_depths.proofs.Units.{meaning-left}
use Rattle.module_meanings.proofs.Staying.{leaf-brought_none, leaf-left}
use Rattle.given_depths.specs.Given.{ArePlainNames, IsPlainName, no_reach}

module _ (declares : Declarations) where
  -- what means the same is declared the same
  pub none-alike : (a b : Meaning) → same_meaning a b ≡ true → IsNoDefinition declares b → IsNoDefinition declares a
  none-alike BuiltIn b same none = tt
  none-alike (Declared e x) BuiltIn same none = absurd (cc same)
  none-alike (Declared e x) (Declared f y) same none =
      ap (λ d. stands_behind (declares d).1) (decl-equal x.decl y.decl (and_parts (same_decl x.decl y.decl) (same_units x.via y.via) same).0) ∙ none

  -- no definition is declared as none
  pub none-declared : (m : Meaning) (name : Named) → IsDeclared declares name m → is_meant stands_behind m ≡ true → IsNoDefinition declares m → ⊥
  none-declared BuiltIn name declared behind none = cc behind
  none-declared (Declared e callee) name declared behind none =
      let kind : (declares callee.decl).1 ≡ e = ap (λ (p : Named × Entity). p.1) declared in
      let one : stands_behind (declares callee.decl).1 ≡ true = ap stands_behind kind ∙ behind in
      let two : true ≡ false = sym one ∙ none in
      cc two

  -- it is none of the definitions and instances that are declared
  pub none-named : (entries : Exports) (m : Meaning) → AreDeclared declares entries → IsNoDefinition declares m → name_among (instantiable entries) m ≡ None
  none-named [] m all none = refl
  none-named (entry ∷ rest) m all none = by_kind (is_meant stands_behind entry.1) refl (none-named rest m all.1 none)
    where
      by_same : (b : Bool) → same_standing m entry.1 ≡ b → is_meant stands_behind entry.1 ≡ true → name_among (instantiable rest) m ≡ None → cond b (Some entry.0) (name_among (instantiable rest) m) ≡ None
      by_same false is behind others = others
      by_same true is behind others =
          absurd (none-declared entry.1 entry.0 all.0 behind (none-alike entry.1 m (same-turned m entry.1 (standing-means m entry.1 is)) none))

      by_kind : (b : Bool) → is_meant stands_behind entry.1 ≡ b → name_among (instantiable rest) m ≡ None → name_among (cond b (entry ∷ instantiable rest) (instantiable rest)) m ≡ None
      by_kind true is others = by_same (same_standing m entry.1) refl is others
      by_kind false is others = others

  -- none of the modules brings it that are extended, if these are files
  files-bring_none : (text : Text) (files : List ℕ → Outside) (words : List ℕ) (ls : List Lexeme) (m : Meaning) → ((name : List ℕ) → IsOutsideDeclared declares (files name)) → ((name : List ℕ) → AreDeclared declares (exported (named_in text files words (first_scope text.file) name).view)) → IsNoDefinition declares m → BringNone text files words (first_scope text.file) ls m
  files-bring_none text files words [] m all named none = tt
  files-bring_none text files words (l ∷ rest) m all named none =
      (none-named (exported (named_in text files words (first_scope text.file) (spelled text.source l)).view) m (named (spelled text.source l)) none, files-bring_none text files words rest m all named none)

  -- what none of the modules brings that are extended is as deep as before
  extended-left : (text : Text) (files : List ℕ → Outside) (words : List ℕ) (modules : Scope Outside) (depths : Depths) (ls : List Lexeme) (m : Meaning) (path : List Named) → BringNone text files words modules ls m → extended_depths text files words modules depths ls m path ≡ depths m path
  extended-left text files words modules depths [] m path none = refl
  extended-left text files words modules depths (l ∷ rest) m path none =
      let from = (named_in text files words modules (spelled text.source l)).depths in
      extended-left text files words modules (with_entry_depths depths (extended_entries text files words modules l) from) rest m path none.1
      ∙ ap (λ found. coming_depth from (depths m path) found path) none.0

  -- behind what a module extends
  pub plain-first : (files : List ℕ → Outside) (source : List ℕ) (units : ModuleUnits) → ((name : List ℕ) → IsOutsideDeclared declares (files name)) → ArePlainNames declares (first files source units).depths
  plain-first files source units all m plain path =
      extended-left text files (words_of units) (first_scope text.file) no_depths units.extends m path (by_plain plain)
    where
      text : Text
      text = text_of source units

      named : (name : List ℕ) → AreDeclared declares (exported (named_in text files (words_of units) (first_scope text.file) name).view)
      named name = by_name (bytes_eq name text.file)
        where
          by_name : (b : Bool) → AreDeclared declares (exported (module_under files (cond b (Some None) None) name).view)
          by_name true = tt
          by_name false = all name

      by_plain : IsPlainName declares m → BringNone text files (words_of units) (first_scope text.file) units.extends m
      by_plain (inl none) = files-bring_none text files (words_of units) units.extends m all named none
      by_plain (inr bound) = leaf-brought_none text files (words_of units) (first_scope text.file) units.extends m (inr bound)

  module _ (text : Text) (files : List ℕ → Outside) (words : List ℕ) (files_declared : (name : List ℕ) → IsOutsideDeclared declares (files name)) where
    -- behind a unit
    pub plain-after : (state : KindState) (unit : UnitTree) → AreNamesDeclared declares text (declared_names unit) → IsStateDeclared declares state → ArePlainNames declares state.depths → ArePlainNames declares (depths_behind text files words state unit)
    plain-after state unit names declared plain m why path = meaning-left text files words state unit m path (by_why why) ∙ plain m why path
      where
        by_why : IsPlainName declares m → Leaves text files words state unit m
        by_why (inl none) = unit-leaves declares text files words files_declared state unit m declared names none
        by_why (inr bound) = leaf-left text files words state unit m (inr bound)

    -- behind these units
    pub plain-all : (state : KindState) (units : List UnitTree) → AreUnitsDeclared declares text units → KeepsDeclarations declares state → ArePlainNames declares state.depths → ArePlainNames declares (read_all text files words state units).depths
    plain-all state [] names keeps plain = plain
    plain-all state (unit ∷ units) names keeps plain =
        plain-all (after text files words state unit) units names.1 (keeps-after declares text files words files_declared state unit names.0 keeps)
        (plain-after state unit names.0 keeps.declared plain)

  symbol-alike : (m symbol : Meaning) → same_symbol m symbol ≡ true → same_meaning m symbol ≡ true
  symbol-alike BuiltIn symbol same = absurd (cc same)
  symbol-alike (Declared e x) BuiltIn same = absurd (cc same)
  symbol-alike (Declared e x) (Declared f y) same = (and_parts (same_declared e f) (same_meaning (Declared e x) (Declared f y)) same).1

  -- own symbols have no depth
  pub own-plain : (depths : Depths) (own : List Meaning) → ArePlainNames declares depths → AllByRecursion (IsNoDefinition declares) own → AllByRecursion (λ symbol. (meaning : Meaning) → same_symbol meaning symbol ≡ true → depths meaning [] ≡ no_reach) own
  own-plain depths [] plain all = tt
  own-plain depths (symbol ∷ rest) plain all = (λ m same. plain m (inl (none-alike m symbol (symbol-alike m symbol same) all.0)) [], own-plain depths rest plain all.1)
