-- What holds of the lexemes of trees holds of the names that they place, define, bind and declare.
use Rattle.std.proofs.Common.{ℕ, List, [], ◌∷◌, ◌++◌, Bool, true, false, if◌then◌else◌}
use Rattle.std.specs.List.{AllByRecursion}
use Rattle.tla_symbols.specs.declared.lexeme.Lexeme.{Lexeme}
use Rattle.tla_tree.specs.declared.form.Form.TheVariants as Form
use Rattle.tla_tree.specs.Syntax.{Tree, Trees, Node, Nil, Cons}
use Rattle.unit_grammar.specs.Units.{UnitTree, Variables, Constants, OperatorDefinition, FunctionDefinition, ModuleDefinition, Instance, Assumption, Theorem, ModuleBegin}
use Rattle.list_laws.proofs.Lists.{all-both, all-either, all-left, all-right, all-three}
use Rattle.tla_model.specs.declared.names.Binder.{Binder}
use Rattle.tla_model.specs.declared.names.Binding.TheVariants as as_binding
use Rattle.tla_model.specs.Entities.{Binding, all_placed, binding_in, binding_of, bound_as, declared_among, declared_by, declared_in, declared_round, declaring, defined, follows_first, is_group, placed, variables}
use Rattle.tla_model.specs.Lexemes.{all_lexemes, form_lexemes, lexemes, unit_lexemes, units_lexemes}
use Rattle.tla_model.specs.Scopes.{all_grouped, binders, names_in}

module _ (P : Lexeme → Type 0) where
  abbrev pub Binds : Binder → Type 0
  Binds binder = P binder.name

  abbrev pub Places : Lexeme × ℕ → Type 0
  Places name = P name.0

  placed-at : (form : Form.the_data) → AllByRecursion P (form_lexemes form) → AllByRecursion Places (placed form)
  placed-at (Form.Name l) all = all
  placed-at (Form.OperatorParameter l places) all = all
  placed-at (Form.PrefixParameter l) all = all
  placed-at (Form.InfixParameter l) all = all
  placed-at (Form.PostfixParameter l) all = all
  placed-at _ all = tt

  pub defined-at : (form : Form.the_data) (parts : Trees) → AllByRecursion P (form_lexemes form) → AllByRecursion Binds (defined form parts)
  defined-at (Form.OperatorDefinition l) parts all = all
  defined-at (Form.PrefixDefinition l) parts all = all
  defined-at (Form.InfixDefinition l) parts all = all
  defined-at (Form.PostfixDefinition l) parts all = all
  defined-at (Form.FunctionDefinition l) parts all = all
  defined-at (Form.ModuleDefinition l) parts all = all
  defined-at _ parts all = tt

  pub bound-at : (binding : Binding) (names : List (Lexeme × ℕ)) → AllByRecursion Places names → AllByRecursion Binds (bound_as binding names)
  bound-at binding [] all = tt
  bound-at binding (name ∷ names) all = (all.0, bound-at binding names all.1)

  pub all-placed-at : (parts : Trees) → AllByRecursion P (all_lexemes parts) → AllByRecursion Places (all_placed parts)
  all-placed-at Nil all = tt
  all-placed-at (Cons (Node form span parts) rest) all =
      let here : AllByRecursion P (form_lexemes form ++ all_lexemes parts) = all-left P (form_lexemes form ++ all_lexemes parts) (all_lexemes rest) all in
      all-both Places (placed form) (all_placed rest) (placed-at form (all-left P (form_lexemes form) (all_lexemes parts) here)) (all-placed-at rest (all-right P (form_lexemes form ++ all_lexemes parts) (all_lexemes rest) all))

  names-at : (group : Bool) (parts : Trees) → AllByRecursion P (all_lexemes parts) → AllByRecursion Places (names_in group parts)
  names-at true parts all = all-placed-at parts all
  names-at false parts all = tt

  grouped-at : (parts : Trees) → AllByRecursion P (all_lexemes parts) → AllByRecursion Places (all_grouped parts)
  grouped-at Nil all = tt
  grouped-at (Cons (Node form span parts) rest) all =
      let here : AllByRecursion P (form_lexemes form ++ all_lexemes parts) = all-left P (form_lexemes form ++ all_lexemes parts) (all_lexemes rest) all in
      all-both Places (names_in (is_group form) parts) (all_grouped rest) (names-at (is_group form) parts (all-right P (form_lexemes form) (all_lexemes parts) here))
      (grouped-at rest (all-right P (form_lexemes form ++ all_lexemes parts) (all_lexemes rest) all))

  pub binders-at : (form : Form.the_data) (parts : Trees) → AllByRecursion P (all_lexemes parts) → AllByRecursion Binds (binders form parts)
  binders-at form parts all =
      all-either Binds (is_group form) [] (bound_as (binding_of form) (all_placed parts ++ all_grouped parts)) tt
      (bound-at (binding_of form) (all_placed parts ++ all_grouped parts) (all-both Places (all_placed parts) (all_grouped parts) (all-placed-at parts all) (grouped-at parts all)))

  -- the names that a part declares
  mutual
    declared-at : (binding : Binding) (x : Tree) → AllByRecursion P (lexemes x) → AllByRecursion Binds (declared_in binding x)
    declared-at binding (Node form span parts) all =
        let own : AllByRecursion P (form_lexemes form) = all-left P (form_lexemes form) (all_lexemes parts) all in
        let inner : AllByRecursion P (all_lexemes parts) = all-right P (form_lexemes form) (all_lexemes parts) all in
        all-both Binds (bound_as binding (placed form)) (if follows_first form then declared_round form parts else defined form parts ++ declared_among (binding_in binding form) parts)
        (bound-at binding (placed form) (placed-at form own))
        (all-either Binds (follows_first form) (declared_round form parts) (defined form parts ++ declared_among (binding_in binding form) parts) (round-at form parts own inner)
        (all-both Binds (defined form parts) (declared_among (binding_in binding form) parts) (defined-at form parts own) (among-at (binding_in binding form) parts inner)))

    round-at : (form : Form.the_data) (parts : Trees) → AllByRecursion P (form_lexemes form) → AllByRecursion P (all_lexemes parts) → AllByRecursion Binds (declared_round form parts)
    round-at form Nil own all = defined-at form Nil own
    round-at form (Cons x rest) own all =
        all-three Binds (declared_in (binding_of form) x) (defined form (Cons x rest)) (declared_among (binding_of form) rest) (declared-at (binding_of form) x (all-left P (lexemes x) (all_lexemes rest) all)) (defined-at form (Cons x rest) own)
        (among-at (binding_of form) rest (all-right P (lexemes x) (all_lexemes rest) all))

    among-at : (binding : Binding) (parts : Trees) → AllByRecursion P (all_lexemes parts) → AllByRecursion Binds (declared_among binding parts)
    among-at binding Nil all = tt
    among-at binding (Cons x rest) all =
        all-both Binds (declared_in binding x) (declared_among binding rest) (declared-at binding x (all-left P (lexemes x) (all_lexemes rest) all)) (among-at binding rest (all-right P (lexemes x) (all_lexemes rest) all))

  pub variables-at : (names : List Lexeme) → AllByRecursion P names → AllByRecursion Binds (variables names)
  variables-at [] all = tt
  variables-at (name ∷ names) all = (all.0, variables-at names all.1)

  unit-at : (unit : UnitTree) → AllByRecursion P (unit_lexemes unit) → AllByRecursion Binds (declared_by unit)
  unit-at (Variables names) all = variables-at names all
  unit-at (Constants declarations) all = among-at as_binding.Constant declarations all
  unit-at (OperatorDefinition local x) all = declared-at (as_binding.Bound false) x all
  unit-at (FunctionDefinition local x) all = declared-at (as_binding.Bound false) x all
  unit-at (ModuleDefinition local x) all = declared-at (as_binding.Bound false) x all
  unit-at (Instance local x) all = declared-at (as_binding.Bound false) x all
  unit-at (Assumption word name x) all = declared-at (as_binding.Bound false) x all
  unit-at (Theorem word name x) all = declared-at (as_binding.Bound false) x all
  unit-at (ModuleBegin dashes name extends) all = (all.0, tt)
  unit-at _ all = tt

  -- what holds of the lexemes of units holds of the names that they declare
  pub declaring-at : (units : List UnitTree) → AllByRecursion P (units_lexemes units) → AllByRecursion Binds (declaring units)
  declaring-at [] all = tt
  declaring-at (unit ∷ units) all =
      all-both Binds (declared_by unit) (declaring units) (unit-at unit (all-left P (unit_lexemes unit) (units_lexemes units) all)) (declaring-at units (all-right P (unit_lexemes unit) (units_lexemes units) all))
