-- What is declared in a module, unit by unit: a unit changes what stands for definitions and instances alone.
use Rattle.std.proofs.Common.{◌≡◌, ℕ, Bool, true, false, cond, List, [], ◌∷◌, ◌++◌, ◌⊎◌, inl, inr, Option, Some, None, is_some, map, refl, sym, ap, ◌∙◌, subst}
use Rattle.std.specs.Prelude.{◌||◌, ◌&&◌}
use Rattle.std.specs.List.{AllByRecursion}
use Rattle.std.specs.Str.{bytes_eq}
use Rattle.std.proofs.lemmas.Bool.{and_parts}
use Rattle.tla_symbols.specs.declared.lexeme.Lexeme.{Lexeme}
use Rattle.tla_symbols.specs.declared.op.Op.{Op}
use Rattle.tla_tree.specs.declared.form.Form.TheVariants as Form
use Rattle.tla_tree.specs.Syntax.{Tree, Trees, Node}
use Rattle.unit_grammar.specs.Units.{UnitTree, Variables, Constants, OperatorDefinition, FunctionDefinition, ModuleDefinition, Instance, Assumption, Theorem, Line, ModuleBegin, ModuleEnd, ModuleUnits}
use Rattle.tla_model.specs.declared.entity.Entity.TheVariants as entity
use Rattle.tla_model.specs.declared.ids.UnitId.{UnitId}
use Rattle.tla_model.specs.declared.names.Binder.{Binder}
use Rattle.tla_model.specs.declared.names.Meaning.TheVariants.{BuiltIn, Declared}
use Rattle.tla_model.specs.Entities.{Defines, Nothing, Operator, Function, Module, Entity, Meaning, Text, defined_as, defines, meant, name_of, orders, same_decl, same_meaning, same_units, variables}
use Rattle.tla_model.specs.EntityKinds.{is_meant, stands_behind}
use Rattle.tla_model.specs.Lexemes.{spelled}
use Rattle.tla_model.specs.Scopes.{definition}
use Rattle.tla_model.specs.Tables.{Table, Named, Word, Symbol, added, has, lookup, put, same_symbol}
use Rattle.tla_model.specs.Same.{decl-equal}
use Rattle.module_scope.specs.Environments.{Environment, Scope, begun, ended, meaning as module_meaning, first as first_scope}
use Rattle.module_model.specs.Exports.{Exports, Known, ModuleView, exported, exports_by, exports_of, instantiable, of_symbols, of_words}
use Rattle.module_model.specs.Instances.{brought_by, brought_entries, nested_view, through}
use Rattle.module_model.specs.Modules.{Reading, begun_in, clashes, constants, declare_all, exports_under, extends_all, joined, left, text_of, unread, with_entry}
use Rattle.module_model.specs.NamedModules.{module_under as view_under, unit_of}
use Rattle.module_model.specs.Resolution.{ReadState, instance_brings, words_of, read_all as read_names}
use Rattle.tree_kinds.specs.Standing.{Environment as Standing, Outside, name_among, same_standing}
use Rattle.tree_kinds.proofs.Standings.{standing-means, standing-unlike}
use Rattle.module_kinds.specs.ModuleKinds.{KindState, after, first, module_under, named_in, nested_outside, outside, read_all, views}
use Rattle.flat_kinds.specs.Declarations.{Declarations, AreDeclared, AreNamesDeclared, AreUnitsDeclared, EachOnce, IsOnce, KeepsDeclarations, IsDeclared, IsNoDefinition, IsOutsideDeclared, IsReadingDeclared, IsStateDeclared, IsViewDeclared, OfAllKnown, OfKnown, declared_names}
use Rattle.list_laws.proofs.Lists.{all-both, all-weaker}
use Rattle.flat_trees.specs.Stands.{Stand, Unsaid}
use Rattle.flat_trees.specs.Layouts.{Layout, StandsBefore}
use Rattle.flat_kinds.specs.Readings.{AreNew, BringNone, Leaves, is_among}
use Rattle.flat_kinds.specs.Symbols.{SaysNothing, symbols_at}
use Rattle.flat_kinds.proofs.Leaving.{extended-left, meaning-left}
use Rattle.flat_kinds.proofs.Symbols.{symbols-none}

-- ---- lists

-- ---- names once

module _ {K V : Type 0} (same : K → K → Bool) where
  none-each : (entries : List (K × V)) (key : K) → lookup same entries key ≡ None → AllByRecursion (λ (entry : K × V). same key entry.0 ≡ false) entries
  none-each [] key none = tt
  none-each (entry ∷ rest) key none = by_key (same key entry.0) refl none (none-each rest key)
    where
      by_key : (b : Bool) → same key entry.0 ≡ b → cond b (Some entry.1) (lookup same rest key) ≡ None → (lookup same rest key ≡ None → AllByRecursion (λ (other : K × V). same key other.0 ≡ false) rest) → (same key entry.0 ≡ false) × AllByRecursion (λ (other : K × V). same key other.0 ≡ false) rest
      by_key true is none others = absurd (cc none)
      by_key false is none others = (is, others none)

  each-more : (entries : List (K × V)) (key : K) (value : V) → EachOnce same entries → AllByRecursion (λ (entry : K × V). same key entry.0 ≡ false) entries → EachOnce same (entries ++ (key, value) ∷ [])
  each-more [] key value once apart = (tt, tt)
  each-more (entry ∷ rest) key value once apart =
      (all-both (λ (other : K × V). same other.0 entry.0 ≡ false) rest ((key, value) ∷ []) once.0 (apart.0, tt), each-more rest key value once.1 apart.1)

  added-once : (entries : List (K × V)) (key : K) (value : V) → EachOnce same entries → EachOnce same (added same entries key value)
  added-once entries key value once = by_found (lookup same entries key) refl
    where
      by_found : (found : Option V) → lookup same entries key ≡ found → EachOnce same (cond (is_some found) entries (entries ++ (key, value) ∷ []))
      by_found None is = each-more entries key value once (none-each entries key is)
      by_found (Some other) is = once

put-once : (table : Table Meaning) (name : Named) (meaning : Meaning) → IsOnce table → IsOnce (put table name meaning)
put-once table (Word bytes) meaning once = (added-once bytes_eq table.words bytes meaning once.0, once.1)
put-once table (Symbol op) meaning once = (once.0, added-once same_symbol table.symbols op meaning once.1)

-- ---- what modules are named

module _ {Known : Type 0} (says : Known → Type 0) where
  pub found-known : (modules : Environment Known) (name : List ℕ) (P : Option (Option Known) → Type 0) → P None → ((found : Option Known) → OfKnown says found → P (Some found)) → OfAllKnown says modules → P (module_meaning modules name)
  found-known [] name P nothing some all = nothing
  found-known (entry ∷ rest) name P nothing some all = by_name (bytes_eq name entry.0) (found-known rest name P nothing some all.1)
    where
      by_name : (b : Bool) → P (lookup bytes_eq rest name) → P (cond b (Some entry.1) (lookup bytes_eq rest name))
      by_name true others = some entry.1 all.0
      by_name false others = others

  pub added-known : (modules : Environment Known) (name : List ℕ) (known : Option Known) → OfAllKnown says modules → OfKnown says known → OfAllKnown says (added bytes_eq modules name known)
  added-known modules name known all one = by_there (is_some (lookup bytes_eq modules name))
    where
      by_there : (b : Bool) → OfAllKnown says (cond b modules (modules ++ (name, known) ∷ []))
      by_there true = all
      by_there false = all-both (λ (entry : List ℕ × Option Known). OfKnown says entry.1) modules ((name, known) ∷ []) all (one, tt)

-- what is read of names is read beside what stands for them
pub read-same : (text : Text) (files : List ℕ → Outside) (words : List ℕ) (state : KindState) (units : List UnitTree) → (read_all text files words state units).read ≡ read_names text (views text files words) words state.read units
read-same text files words state [] = refl
read-same text files words state (unit ∷ units) = read-same text files words (after text files words state unit) units

-- ---- declarations

module _ (declares : Declarations) where
  -- what is declared as a definition is not what is declared as none
  declared-apart : (meaning other : Meaning) (name : Named) → IsNoDefinition declares meaning → IsDeclared declares name other → is_meant stands_behind other ≡ true → same_meaning meaning other ≡ false
  declared-apart BuiltIn BuiltIn name none declared behind = cc
  declared-apart BuiltIn (Declared f y) name none declared behind = refl
  declared-apart (Declared e x) BuiltIn name none declared behind = refl
  declared-apart (Declared e x) (Declared f y) name none declared behind = by_same (same_decl x.decl y.decl) refl
    where
      by_same : (b : Bool) → same_decl x.decl y.decl ≡ b → (b && same_units x.via y.via) ≡ false
      by_same false is = refl
      by_same true is =
          let decl : x.decl ≡ y.decl = decl-equal x.decl y.decl is in
          let as_here : (declares x.decl).1 ≡ f = ap (λ d. (declares d).1) decl ∙ ap (λ (p : Named × Entity). p.1) declared in
          let both : stands_behind (declares x.decl).1 ≡ true = ap stands_behind as_here ∙ behind in
          absurd (cc)

  apart : (meaning other : Meaning) (name : Named) → IsNoDefinition declares meaning → IsDeclared declares name other → is_meant stands_behind other ≡ true → same_standing meaning other ≡ false
  apart meaning other name none declared behind = standing-unlike meaning other (declared-apart meaning other name none declared behind)

  -- ---- entries

  -- an entry is declared as a definition or an instance
  abbrev IsDefinition : Named × Meaning → Type 0
  IsDefinition entry = IsDeclared declares entry.0 entry.1 × (is_meant stands_behind entry.1 ≡ true)

  definitions-none : (entries : Exports) (meaning : Meaning) → IsNoDefinition declares meaning → AllByRecursion IsDefinition entries → name_among entries meaning ≡ None
  definitions-none [] meaning none all = refl
  definitions-none (entry ∷ rest) meaning none all =
      ap (λ b. cond b (Some entry.0) (name_among rest meaning)) (apart meaning entry.1 entry.0 none all.0.0 all.0.1) ∙ definitions-none rest meaning none all.1

  instantiable-definitions : (entries : Exports) → AreDeclared declares entries → AllByRecursion IsDefinition (instantiable entries)
  instantiable-definitions [] all = tt
  instantiable-definitions (entry ∷ rest) all = by_kind (is_meant stands_behind entry.1) refl (instantiable-definitions rest all.1)
    where
      by_kind : (b : Bool) → is_meant stands_behind entry.1 ≡ b → AllByRecursion IsDefinition (instantiable rest) → AllByRecursion IsDefinition (cond b (entry ∷ instantiable rest) (instantiable rest))
      by_kind true is others = ((all.0, is), others)
      by_kind false is others = others

  through-declared : (unit : UnitId) (name : Named) (meaning : Meaning) → IsDeclared declares name meaning → IsDeclared declares name (through unit meaning)
  through-declared unit name BuiltIn declared = tt
  through-declared unit name (Declared e callee) declared = declared

  through-kind : (unit : UnitId) (meaning : Meaning) → is_meant stands_behind (through unit meaning) ≡ is_meant stands_behind meaning
  through-kind unit BuiltIn = refl
  through-kind unit (Declared e callee) = refl

  passed-declared : (unit : UnitId) (parameters entries : Exports) → AllByRecursion IsDefinition entries → AllByRecursion IsDefinition (brought_entries unit parameters entries)
  passed-declared unit [] entries all = all
  passed-declared unit (parameter ∷ parameters) [] all = tt
  passed-declared unit (parameter ∷ parameters) (entry ∷ rest) all =
      ((through-declared unit entry.0 entry.1 all.0.0, through-kind unit entry.1 ∙ all.0.1), passed-declared unit (parameter ∷ parameters) rest all.1)

  brought-definitions : (unit : UnitId) (view : ModuleView) → IsViewDeclared declares view → AllByRecursion IsDefinition (brought_by unit view)
  brought-definitions unit view all = passed-declared unit view.parameters (instantiable (exported view)) (instantiable-definitions (exported view) all)

  definitions-declared : (entries : Exports) → AllByRecursion IsDefinition entries → AreDeclared declares entries
  definitions-declared entries all = all-weaker IsDefinition (λ (entry : Named × Meaning). IsDeclared declares entry.0 entry.1) (λ entry one. one.0) entries all

  -- ---- tables

  parts-declared : (words : List (List ℕ × Meaning)) (symbols : List (Op × Meaning)) → AreDeclared declares (of_words words ++ of_symbols symbols) → AreDeclared declares (of_words words) × AreDeclared declares (of_symbols symbols)
  parts-declared [] symbols all = (tt, all)
  parts-declared (word ∷ words) symbols all = let rest = parts-declared words symbols all.1 in ((all.0, rest.0), rest.1)

  words-declared : (words : List (List ℕ × Meaning)) (bytes : List ℕ) (meaning : Meaning) → AreDeclared declares (of_words words) → IsDeclared declares (Word bytes) meaning → AreDeclared declares (of_words (words ++ (bytes, meaning) ∷ []))
  words-declared [] bytes meaning all one = (one, tt)
  words-declared (word ∷ words) bytes meaning all one = (all.0, words-declared words bytes meaning all.1 one)

  symbols-declared : (symbols : List (Op × Meaning)) (op : Op) (meaning : Meaning) → AreDeclared declares (of_symbols symbols) → IsDeclared declares (Symbol op) meaning → AreDeclared declares (of_symbols (symbols ++ (op, meaning) ∷ []))
  symbols-declared [] op meaning all one = (one, tt)
  symbols-declared (symbol ∷ symbols) op meaning all one = (all.0, symbols-declared symbols op meaning all.1 one)

  put-declared : (table : Table Meaning) (name : Named) (meaning : Meaning) → AreDeclared declares (exports_of table) → IsDeclared declares name meaning → AreDeclared declares (exports_of (put table name meaning))
  put-declared table (Word bytes) meaning all one = by_there (is_some (lookup bytes_eq table.words bytes))
    where
      by_there : (b : Bool) → AreDeclared declares (of_words (cond b table.words (table.words ++ (bytes, meaning) ∷ [])) ++ of_symbols table.symbols)
      by_there true = all
      by_there false =
          let parts = parts-declared table.words table.symbols all in
          all-both (λ (entry : Named × Meaning). IsDeclared declares entry.0 entry.1) (of_words (table.words ++ (bytes, meaning) ∷ [])) (of_symbols table.symbols) (words-declared table.words bytes meaning parts.0 one) parts.1
  put-declared table (Symbol op) meaning all one = by_there (is_some (lookup same_symbol table.symbols op))
    where
      by_there : (b : Bool) → AreDeclared declares (of_words table.words ++ of_symbols (cond b table.symbols (table.symbols ++ (op, meaning) ∷ [])))
      by_there true = all
      by_there false =
          let parts = parts-declared table.words table.symbols all in
          all-both (λ (entry : Named × Meaning). IsDeclared declares entry.0 entry.1) (of_words table.words) (of_symbols (table.symbols ++ (op, meaning) ∷ [])) parts.0 (symbols-declared table.symbols op meaning parts.1 one)

  -- ---- readings

  reading-either : (b : Bool) (reading other : Reading) → IsReadingDeclared declares reading → IsReadingDeclared declares other → IsReadingDeclared declares (cond b reading other)
  reading-either true reading other one two = one
  reading-either false reading other one two = two

  entry-declared : (local : Bool) (reading : Reading) (name : Named) (meaning : Meaning) → IsReadingDeclared declares reading → IsDeclared declares name meaning → IsReadingDeclared declares (with_entry local reading name meaning)
  entry-declared true reading name meaning all one = record { once = all.once; exports = all.exports; modules = all.modules }
  entry-declared false reading name meaning all one = record { once = put-once reading.exports name meaning all.once; exports = put-declared reading.exports name meaning all.exports one; modules = all.modules }

  joined-declared : (local : Bool) (reading : Reading) (entries : Exports) → IsReadingDeclared declares reading → AreDeclared declares entries → IsReadingDeclared declares (joined local reading entries)
  joined-declared local reading [] all one = all
  joined-declared local reading (entry ∷ rest) all more =
      let other : Reading = with_entry local reading entry.0 entry.1 in
      joined-declared local (cond (clashes reading.context entry) reading other) rest
      (reading-either (clashes reading.context entry) reading other all (entry-declared local reading entry.0 entry.1 all more.0)) more.1

  module _ (text : Text) where
    names-declared : (local : Bool) (reading : Reading) (binders : List Binder) → IsReadingDeclared declares reading → AreNamesDeclared declares text binders → IsReadingDeclared declares (declare_all text local reading binders)
    names-declared local reading [] all one = all
    names-declared local reading (binder ∷ rest) all more =
        let name : Named = name_of text.source binder.name in
        let other : Reading = with_entry local reading name (meant text binder) in
        names-declared local (cond (has reading.context name) reading other) rest
        (reading-either (has reading.context name) reading other all (entry-declared local reading name (meant text binder) all more.0)) more.1

    -- what a definition declares is not what is declared as none
    defined-apart : (meaning : Meaning) (what : Defines) (parts : Trees) → IsNoDefinition declares meaning → AreNamesDeclared declares text (defined_as what parts) → is_among (map (meant text) (defined_as what parts)) meaning ≡ false
    defined-apart meaning Nothing parts none all = refl
    defined-apart meaning (Operator l) parts none all = ap (λ b. b || false) (apart meaning (meant text (record { name = l; entity = entity.Definition (orders parts) })) (name_of text.source l) none all.0 refl)
    defined-apart meaning (Function l) parts none all = ap (λ b. b || false) (apart meaning (meant text (record { name = l; entity = entity.Definition [] })) (name_of text.source l) none all.0 refl)
    defined-apart meaning (Module l) parts none all = ap (λ b. b || false) (apart meaning (meant text (record { name = l; entity = entity.Instance (orders parts) })) (name_of text.source l) none all.0 refl)

    definition-apart : (meaning : Meaning) (x : Tree) → IsNoDefinition declares meaning → AreNamesDeclared declares text (definition x) → is_among (map (meant text) (definition x)) meaning ≡ false
    definition-apart meaning (Node form s parts) none all = defined-apart meaning (defines form) parts none all

    module _ (files : List ℕ → Outside) (words : List ℕ) (files_declared : (name : List ℕ) → IsOutsideDeclared declares (files name)) where
      outside-declared : (modules : Environment Outside) (name : List ℕ) → OfAllKnown (IsOutsideDeclared declares) modules → IsOutsideDeclared declares (module_under files (module_meaning modules name) name)
      outside-declared modules name all = found-known (IsOutsideDeclared declares) modules name (λ (found : Option (Option Outside)). IsOutsideDeclared declares (module_under files found name)) (files_declared name) some all
        where
          some : (found : Option Outside) → OfKnown (IsOutsideDeclared declares) found → IsOutsideDeclared declares (module_under files (Some found) name)
          some None one = tt
          some (Some known) one = one

      view-declared : (modules : Environment ModuleView) (name : List ℕ) → OfAllKnown (IsViewDeclared declares) modules → IsViewDeclared declares (view_under (views text files words) (module_meaning modules name) name)
      view-declared modules name all = found-known (IsViewDeclared declares) modules name (λ (found : Option (Option ModuleView)). IsViewDeclared declares (view_under (views text files words) found name)) (files_declared name) some all
        where
          some : (found : Option ModuleView) → OfKnown (IsViewDeclared declares) found → IsViewDeclared declares (view_under (views text files words) (Some found) name)
          some None one = tt
          some (Some view) one = one

      brings-declared : (modules : Environment ModuleView) (name : List ℕ) → OfAllKnown (IsViewDeclared declares) modules → AreDeclared declares (exports_under (exports_by (views text files words)) (module_meaning modules name) name)
      brings-declared modules name all = found-known (IsViewDeclared declares) modules name (λ (found : Option (Option ModuleView)). AreDeclared declares (exports_under (exports_by (views text files words)) found name)) (files_declared name) some all
        where
          some : (found : Option ModuleView) → OfKnown (IsViewDeclared declares) found → AreDeclared declares (exports_under (exports_by (views text files words)) (Some found) name)
          some None one = tt
          some (Some view) one = one

      extends-declared : (reading : Reading) (names : List Lexeme) → IsReadingDeclared declares reading → IsReadingDeclared declares (extends_all text (exports_by (views text files words)) reading names)
      extends-declared reading [] all = all
      extends-declared reading (l ∷ rest) all =
          let brings : Exports = exports_under (exports_by (views text files words)) (module_meaning reading.modules (spelled text.source l)) (spelled text.source l) in
          extends-declared (joined false reading brings) rest (joined-declared false reading brings all (brings-declared reading.modules (spelled text.source l) all.modules))

      -- ---- what units leave

      none-extended : (modules : Scope Outside) (names : List Lexeme) (meaning : Meaning) → OfAllKnown (IsOutsideDeclared declares) modules.here → IsNoDefinition declares meaning → BringNone text files words modules names meaning
      none-extended modules [] meaning all none = tt
      none-extended modules (l ∷ rest) meaning all none =
          let outside : Outside = named_in text files words modules (spelled text.source l) in
          (definitions-none (instantiable (exported outside.view)) meaning none (instantiable-definitions (exported outside.view) (outside-declared modules.here (spelled text.source l) all)), none-extended modules rest meaning all none)

      brings-definitions : (state : KindState) (x : Tree) → IsStateDeclared declares state → AllByRecursion IsDefinition (instance_brings text (views text files words) words state.read x)
      brings-definitions state (Node (Form.Instance l) s parts) all =
          brought-definitions (unit_of text words l) (view_under (views text files words) (module_meaning state.read.place.here.modules (spelled text.source l)) (spelled text.source l))
          (view-declared state.read.place.here.modules (spelled text.source l) all.here.modules)
      brings-definitions state (Node _ s parts) all = tt

      begun-declared : (modules : Environment Outside) (name : List ℕ) → OfAllKnown (IsOutsideDeclared declares) modules → OfAllKnown (IsOutsideDeclared declares) (added bytes_eq modules name None)
      begun-declared modules name all = added-known (IsOutsideDeclared declares) modules name None all tt

      -- a unit leaves what is no definition and no instance
      pub unit-leaves : (state : KindState) (unit : UnitTree) (meaning : Meaning) → IsStateDeclared declares state → AreNamesDeclared declares text (declared_names unit) → IsNoDefinition declares meaning → Leaves text files words state unit meaning
      unit-leaves state (OperatorDefinition local x) meaning all names none = definition-apart meaning x none names
      unit-leaves state (FunctionDefinition local x) meaning all names none = definition-apart meaning x none names
      unit-leaves state (ModuleDefinition local x) meaning all names none = definition-apart meaning x none names
      unit-leaves state (Instance local x) meaning all names none = definitions-none (instance_brings text (views text files words) words state.read x) meaning none (brings-definitions state x all)
      unit-leaves state (ModuleBegin dashes name extends) meaning all names none = none-extended (begun state.modules (spelled text.source name)) extends meaning (begun-declared state.modules.here (spelled text.source name) all.modules) none
      unit-leaves state (Variables names) meaning all declared none = tt
      unit-leaves state (Constants declarations) meaning all declared none = tt
      unit-leaves state (Assumption word name x) meaning all declared none = tt
      unit-leaves state (Theorem word name x) meaning all declared none = tt
      unit-leaves state (Line dashes) meaning all declared none = tt
      unit-leaves state (ModuleEnd closing) meaning all declared none = tt

      -- ---- states

      -- behind a unit that begins and ends no nested module
      with-reading : (state : KindState) (unit : UnitTree) (reading : Reading) → IsStateDeclared declares state → IsReadingDeclared declares reading → (after text files words state unit).read.place ≡ record { here = reading; round = state.read.place.round } → (after text files words state unit).modules ≡ state.modules → IsStateDeclared declares (after text files words state unit)
      with-reading state unit reading all here place modules =
          record {
            here = subst (λ p. IsReadingDeclared declares p.here) (sym place) here;
            round = subst (λ p. AllByRecursion (IsReadingDeclared declares) p.round) (sym place) all.round;
            modules = subst (λ s. OfAllKnown (IsOutsideDeclared declares) s.here) (sym modules) all.modules;
            modules_round = subst (λ s. AllByRecursion (λ (nested : List ℕ × Environment Outside). OfAllKnown (IsOutsideDeclared declares) nested.1) s.round) (sym modules) all.modules_round;
          }

      nested-declared : (state : KindState) (round : List Reading) → IsReadingDeclared declares state.read.place.here → IsOutsideDeclared declares (nested_outside state round)
      nested-declared state [] all = tt
      nested-declared state (outer ∷ round) all = all.exports

      -- behind a nested module, in the environments before it
      ended-declared : (known : Outside) (here : Environment Outside) (round : List (List ℕ × Environment Outside)) → IsOutsideDeclared declares known → OfAllKnown (IsOutsideDeclared declares) here → AllByRecursion (λ (nested : List ℕ × Environment Outside). OfAllKnown (IsOutsideDeclared declares) nested.1) round
          → OfAllKnown (IsOutsideDeclared declares) (ended known here round).here × AllByRecursion (λ (nested : List ℕ × Environment Outside). OfAllKnown (IsOutsideDeclared declares) nested.1) (ended known here round).round
      ended-declared known here [] one all others = (all, tt)
      ended-declared known here (nested ∷ round) one all others = (added-known (IsOutsideDeclared declares) nested.1 nested.0 (Some known) others.0 one, others.1)

      left-declared : (known : Known) (inner : Reading) (round : List Reading) → IsReadingDeclared declares inner → AllByRecursion (IsReadingDeclared declares) round → IsReadingDeclared declares (left known inner round).here × AllByRecursion (IsReadingDeclared declares) (left known inner round).round
      left-declared known inner [] one all = (one, tt)
      left-declared known inner (outer ∷ round) one all = (
        record {
          once = all.0.once;
          exports = all.0.exports;
          modules = added-known (IsViewDeclared declares) outer.modules inner.name (Some (nested_view known outer.context (exports_of inner.exports))) all.0.modules one.exports;
        },
        all.1,
      )

      pub state-declared : (state : KindState) (unit : UnitTree) → AreNamesDeclared declares text (declared_names unit) → IsStateDeclared declares state → IsStateDeclared declares (after text files words state unit)
      state-declared state (Variables names) declared all = with-reading state (Variables names) _ all (names-declared false state.read.place.here (variables names) all.here declared) refl refl
      state-declared state (Constants declarations) declared all = with-reading state (Constants declarations) _ all (names-declared false state.read.place.here (constants declarations) all.here declared) refl refl
      state-declared state (OperatorDefinition local x) declared all = with-reading state (OperatorDefinition local x) _ all (names-declared (is_some local) state.read.place.here (definition x) all.here declared) refl refl
      state-declared state (FunctionDefinition local x) declared all = with-reading state (FunctionDefinition local x) _ all (names-declared (is_some local) state.read.place.here (definition x) all.here declared) refl refl
      state-declared state (ModuleDefinition local x) declared all = with-reading state (ModuleDefinition local x) _ all (names-declared (is_some local) state.read.place.here (definition x) all.here declared) refl refl
      state-declared state (Instance local x) declared all =
          let brings : Exports = instance_brings text (views text files words) words state.read x in
          with-reading state (Instance local x) _ all (joined-declared (is_some local) state.read.place.here brings all.here (definitions-declared brings (brings-definitions state x all))) refl refl
      state-declared state (Assumption word name x) declared all = with-reading state (Assumption word name x) _ all all.here refl refl
      state-declared state (Theorem word name x) declared all = with-reading state (Theorem word name x) _ all all.here refl refl
      state-declared state (Line dashes) declared all = with-reading state (Line dashes) _ all all.here refl refl
      state-declared state (ModuleBegin dashes name extends) declared all =
          let title : List ℕ = spelled text.source name in
          let begins : IsReadingDeclared declares (begun_in state.read.place.here title) = record { once = (tt, tt); exports = tt; modules = added-known (IsViewDeclared declares) state.read.place.here.modules title None all.here.modules tt } in
          record {
            here = extends-declared (begun_in state.read.place.here title) extends begins;
            round = (all.here, all.round);
            modules = begun-declared state.modules.here title all.modules;
            modules_round = (all.modules, all.modules_round);
          }
      state-declared state (ModuleEnd closing) declared all =
          let readings = left-declared state.read.known state.read.place.here state.read.place.round all.here all.round in
          let modules = ended-declared (nested_outside state state.read.place.round) state.modules.here state.modules.round (nested-declared state state.read.place.round all.here) all.modules all.modules_round in
          record { here = readings.0; round = readings.1; modules = modules.0; modules_round = modules.1 }

      pub states-declared : (state : KindState) (units : List UnitTree) → AreUnitsDeclared declares text units → IsStateDeclared declares state → IsStateDeclared declares (read_all text files words state units)
      states-declared state [] declared all = all
      states-declared state (unit ∷ units) declared all = states-declared (after text files words state unit) units declared.1 (state-declared state unit declared.0 all)

      -- ---- what passes

      -- behind a unit
      pub keeps-after : (state : KindState) (unit : UnitTree) → AreNamesDeclared declares text (declared_names unit) → KeepsDeclarations declares state → KeepsDeclarations declares (after text files words state unit)
      keeps-after state unit declared keeps =
          record {
            declared = state-declared state unit declared keeps.declared;
            passes = λ meaning none parameters.
                meaning-left text files words state unit meaning (unit-leaves state unit meaning keeps.declared declared none) parameters ∙ keeps.passes meaning none parameters;
          }

      -- behind these units
      pub keeps-all : (state : KindState) (units : List UnitTree) → AreUnitsDeclared declares text units → KeepsDeclarations declares state → KeepsDeclarations declares (read_all text files words state units)
      keeps-all state [] declared keeps = keeps
      keeps-all state (unit ∷ units) declared keeps = keeps-all (after text files words state unit) units declared.1 (keeps-after state unit declared.0 keeps)

  module _ (files : List ℕ → Outside) (source : List ℕ) (units : ModuleUnits) (files_declared : (name : List ℕ) → IsOutsideDeclared declares (files name)) where
    -- behind what a module extends
    pub keeps-first : KeepsDeclarations declares (first files source units)
    keeps-first =
        let text : Text = text_of source units in
        let words : List ℕ = words_of units in
        let begins : IsReadingDeclared declares (unread text) = record { once = (tt, tt); exports = tt; modules = (tt, tt) } in
        record {
          declared = record {
            here = extends-declared text files words files_declared (unread text) units.extends begins;
            round = tt;
            modules = (tt, tt);
            modules_round = tt;
          };
          passes = λ meaning none parameters.
              extended-left text files words (first_scope text.file) parameters parameters units.extends meaning
              (none-extended text files words files_declared (first_scope text.file) units.extends meaning (tt, tt) none);
        }

    -- what a module is to those that name it
    pub module-declared : AreUnitsDeclared declares (text_of source units) units.units → IsOutsideDeclared declares (outside files source units)
    module-declared declared =
        let text : Text = text_of source units in
        let words : List ℕ = words_of units in
        subst (λ (state : ReadState). AreDeclared declares (exports_of state.place.here.exports)) (read-same text files words (first files source units) units.units)
        (keeps-all text files words files_declared (first files source units) units.units declared keeps-first).declared.here.exports

  -- ---- symbols of nested modules

  -- what means the same is declared the same
  none-alike : (a b : Meaning) → same_meaning a b ≡ true → IsNoDefinition declares b → IsNoDefinition declares a
  none-alike BuiltIn b same none = tt
  none-alike (Declared e x) BuiltIn same none = cc
  none-alike (Declared e x) (Declared f y) same none =
      ap (λ d. stands_behind (declares d).1) (decl-equal x.decl y.decl (and_parts (same_decl x.decl y.decl) (same_units x.via y.via) same).0) ∙ none

  none-among : (symbols : List Meaning) (other : Meaning) → AllByRecursion (IsNoDefinition declares) symbols → is_among symbols other ≡ true → IsNoDefinition declares other
  none-among [] other all among = cc
  none-among (meaning ∷ rest) other all among = by_same (none-among rest other all.1) (same_standing other meaning) refl among
    where
      by_same : (is_among rest other ≡ true → IsNoDefinition declares other) → (b : Bool) → same_standing other meaning ≡ b → (b || is_among rest other) ≡ true → IsNoDefinition declares other
      by_same others true is among = none-alike other meaning (standing-means other meaning is) all.0
      by_same others false is among = others among

  -- own symbols that are declared so are new
  pub symbols-new : (state : KindState) (symbols : Meaning → Stand) (layout : Layout) (own : List Meaning) → KeepsDeclarations declares state → ((meaning : Meaning) → StandsBefore layout.places (symbols meaning)) → AllByRecursion (IsNoDefinition declares) own → SaysNothing symbols own → AreNew symbols layout state (symbols_at (λ (meaning : Meaning). Unsaid) own layout.places)
  symbols-new state symbols layout own keeps before all nothing =
      record {
        before = before;
        new = λ meaning. by_among meaning (is_among own meaning) refl;
      }
    where
      by_among : (meaning : Meaning) (b : Bool) → is_among own meaning ≡ b → (symbols_at (λ (m : Meaning). Unsaid) own layout.places meaning ≡ Unsaid) ⊎ ((symbols meaning ≡ Unsaid) × ((parameters : Standing) → state.standing parameters meaning ≡ parameters meaning))
      by_among meaning true is = inr (nothing meaning is, keeps.passes meaning (none-among own meaning all is))
      by_among meaning false is = inl (symbols-none (λ (m : Meaning). Unsaid) own layout.places meaning is)
