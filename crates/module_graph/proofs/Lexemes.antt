-- The module names of a module are among its names and symbols.
use Rattle.std.proofs.Common.{ℕ, Bool, true, false, List, [], ◌∷◌}
use Rattle.std.specs.Prelude.{⊤, filter, cond}
use Rattle.std.specs.List.{All, AllByRecursion, Contains}
use Rattle.std.proofs.lemmas.List.Elements.{All-contains_itself, All-from_recursion, recursion_from_All}
use Rattle.tla_symbols.specs.declared.lexeme.Lexeme.{Lexeme}
use Rattle.tla_tree.specs.declared.form.Form.TheVariants as Form
use Rattle.tla_tree.specs.Syntax.{Tree, Trees, Node, Nil, Cons}
use Rattle.tla_model.specs.Lexemes.{LexemesLie, form_lexemes, lexemes, all_lexemes, unit_lexemes, units_lexemes, module_lexemes}
use Rattle.unit_grammar.specs.Units.{UnitTree, Variables, Constants, OperatorDefinition, FunctionDefinition, ModuleDefinition, Instance, Assumption, Theorem, Line, ModuleBegin, ModuleEnd, ModuleUnits}
use Rattle.tla_model.specs.ModuleNames.{instantiated, instances, instances_in, module_names}
use Rattle.list_laws.proofs.Lists.{all-both, all-left, all-right}
use Rattle.module_scope.specs.Environments.{Scope, first}
use Rattle.module_scope.specs.Imports.{enclosing_from, enclosing_of, imports_from, imports_of, is_enclosing, is_needed, scope_at}
use Rattle.module_graph.specs.Imports.{LiesIn, AreNamesPlaced, compared, spelled}
use Rattle.module_graph.proofs.Needs.{names-compared}

module _ (P : Lexeme → Type 0) where
  held-instantiated : (form : Form.the_data) → AllByRecursion P (form_lexemes form) → AllByRecursion P (instantiated form)
  held-instantiated (Form.Instance name) all = all
  held-instantiated _ all = tt

  mutual
    tree-instances : (x : Tree) → AllByRecursion P (lexemes x) → AllByRecursion P (instances x)
    tree-instances (Node form s parts) all =
        all-both P (instantiated form) (instances_in parts) (held-instantiated form (all-left P (form_lexemes form) (all_lexemes parts) all)) (trees-instances parts (all-right P (form_lexemes form) (all_lexemes parts) all))

    trees-instances : (xs : Trees) → AllByRecursion P (all_lexemes xs) → AllByRecursion P (instances_in xs)
    trees-instances Nil all = tt
    trees-instances (Cons x rest) all =
        all-both P (instances x) (instances_in rest) (tree-instances x (all-left P (lexemes x) (all_lexemes rest) all)) (trees-instances rest (all-right P (lexemes x) (all_lexemes rest) all))

  unit-compared : (unit : UnitTree) → AllByRecursion P (unit_lexemes unit) → AllByRecursion P (compared unit)
  unit-compared (ModuleBegin dashes name extends) all = all
  unit-compared (Variables names) all = tt
  unit-compared (Constants declarations) all = tt
  unit-compared (OperatorDefinition local x) all = tree-instances x all
  unit-compared (FunctionDefinition local x) all = tree-instances x all
  unit-compared (ModuleDefinition local x) all = tree-instances x all
  unit-compared (Instance local x) all = tree-instances x all
  unit-compared (Assumption word name x) all = tree-instances x all
  unit-compared (Theorem word name x) all = tree-instances x all
  unit-compared (Line dashes) all = tt
  unit-compared (ModuleEnd closing) all = tt

  unit-named : (unit : UnitTree) → AllByRecursion P (unit_lexemes unit) → AllByRecursion P (module_names unit)
  unit-named unit all = names-compared P unit (unit-compared unit all)

  units-compared : (units : List UnitTree) → AllByRecursion P (units_lexemes units) → AllByRecursion (λ unit. AllByRecursion P (compared unit)) units
  units-compared [] all = tt
  units-compared (unit ∷ units) all =
      (unit-compared unit (all-left P (unit_lexemes unit) (units_lexemes units) all), units-compared units (all-right P (unit_lexemes unit) (units_lexemes units) all))

  kept : (test : Lexeme → Bool) (names : List Lexeme) → AllByRecursion P names → AllByRecursion P (filter test names)
  kept test [] all = tt
  kept test (name ∷ names) all = by (test name) (kept test names all.1)
    where
      by : (b : Bool) → AllByRecursion P (filter test names) → AllByRecursion P (cond b (name ∷ filter test names) (filter test names))
      by true rest = (all.0, rest)
      by false rest = rest

  from-needed : (text outermost : List ℕ) (scope : Scope ⊤) (units : List UnitTree) → AllByRecursion P (units_lexemes units) → AllByRecursion P (imports_from text outermost scope units)
  from-needed text outermost scope [] all = tt
  from-needed text outermost scope (unit ∷ units) all =
      let inner : Scope ⊤ = scope_at text scope unit in
      all-both P (filter (is_needed text outermost inner) (module_names unit)) (imports_from text outermost inner units)
      (kept (is_needed text outermost inner) (module_names unit) (unit-named unit (all-left P (unit_lexemes unit) (units_lexemes units) all)))
      (from-needed text outermost inner units (all-right P (unit_lexemes unit) (units_lexemes units) all))

  from-enclosed : (text : List ℕ) (scope : Scope ⊤) (units : List UnitTree) → AllByRecursion P (units_lexemes units) → AllByRecursion P (enclosing_from text scope units)
  from-enclosed text scope [] all = tt
  from-enclosed text scope (unit ∷ units) all =
      let inner : Scope ⊤ = scope_at text scope unit in
      all-both P (filter (is_enclosing text inner) (module_names unit)) (enclosing_from text inner units)
      (kept (is_enclosing text inner) (module_names unit) (unit-named unit (all-left P (unit_lexemes unit) (units_lexemes units) all)))
      (from-enclosed text inner units (all-right P (unit_lexemes unit) (units_lexemes units) all))

  needed-named : (source : List ℕ) (units : ModuleUnits) → AllByRecursion P (module_lexemes units) → AllByRecursion P (imports_of source units)
  needed-named source units all =
      all-both P units.extends (imports_from source (spelled source units.name) (first (spelled source units.name)) units.units) (all-left P units.extends (units_lexemes units.units) all.1)
      (from-needed source (spelled source units.name) (first (spelled source units.name)) units.units (all-right P units.extends (units_lexemes units.units) all.1))

  enclosed-named : (source : List ℕ) (units : ModuleUnits) → AllByRecursion P (module_lexemes units) → AllByRecursion P (enclosing_of source units)
  enclosed-named source units all = from-enclosed source (first (spelled source units.name)) units.units (all-right P units.extends (units_lexemes units.units) all.1)

-- each stands among themselves
among : (lexemes : List Lexeme) → AllByRecursion (Contains lexemes) lexemes
among lexemes = recursion_from_All (Contains lexemes) lexemes (All-contains_itself lexemes)

pub imports-lexemes : (source : List ℕ) (units : ModuleUnits) → All (Contains (module_lexemes units)) (imports_of source units)
imports-lexemes source units =
    All-from_recursion (Contains (module_lexemes units)) (imports_of source units) (needed-named (Contains (module_lexemes units)) source units (among (module_lexemes units)))

pub enclosing-lexemes : (source : List ℕ) (units : ModuleUnits) → All (Contains (module_lexemes units)) (enclosing_of source units)
enclosing-lexemes source units =
    All-from_recursion (Contains (module_lexemes units)) (enclosing_of source units) (enclosed-named (Contains (module_lexemes units)) source units (among (module_lexemes units)))

pub placed-names : (source : List ℕ) (units : ModuleUnits) → LexemesLie source units → AreNamesPlaced source units
placed-names source units all =
    record { name = all.0; units = units-compared (LiesIn source) units.units (all-right (LiesIn source) units.extends (units_lexemes units.units) all.1) }
