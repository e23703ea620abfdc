-- The names that trees declare, and those of instances, are among their lexemes.
use Rattle.std.proofs.Common.{◌≡◌, List, [], ◌∷◌, ◌++◌, Option, subst, sym}
use Rattle.std.specs.Prelude.{IfSome, map}
use Rattle.std.specs.List.{AllByRecursion}
use Rattle.std.proofs.lemmas.List.{map-append}
use Rattle.tla_symbols.specs.declared.lexeme.Lexeme.{Lexeme}
use Rattle.tla_tree.specs.declared.form.Form.TheVariants as Form
use Rattle.tla_tree.specs.Syntax.{Tree, Trees, Node, Nil, Cons}
use Rattle.unit_grammar.specs.Units.{UnitTree, Variables, Constants, OperatorDefinition, FunctionDefinition, ModuleDefinition, Instance, Assumption, Theorem, Line, ModuleBegin, ModuleEnd}
use Rattle.tla_model.specs.declared.names.Binder.{Binder}
use Rattle.tla_model.specs.Entities.{Binding, all_placed, bound_as, defined, placed, variables}
use Rattle.tla_model.specs.Lexemes.{all_lexemes, form_lexemes, lexemes, unit_lexemes}
use Rattle.tla_model.specs.Scopes.{definition}
use Rattle.module_model.specs.Instances.{all_named_instances, instance_among, named_instance, named_instances, unit_trees}
use Rattle.instance_names.specs.Named.{named_as}
use Rattle.instance_names.specs.declared.named.NamedInstance.{NamedInstance}
use Rattle.list_laws.proofs.Lists.{all-both, all-left, all-right}

module _ (P : Lexeme → Type 0) where
  abbrev Named : List Binder → Type 0
  Named binders = AllByRecursion (λ binder. P binder.name) binders

  placed-held : (binding : Binding) (form : Form.the_data) → AllByRecursion P (form_lexemes form) → Named (bound_as binding (placed form))
  placed-held binding (Form.Name l) all = all
  placed-held binding (Form.OperatorParameter l places) all = all
  placed-held binding (Form.PrefixParameter l) all = all
  placed-held binding (Form.InfixParameter l) all = all
  placed-held binding (Form.PostfixParameter l) all = all
  placed-held binding _ all = tt

  defined-held : (form : Form.the_data) (parts : Trees) → AllByRecursion P (form_lexemes form) → Named (defined form parts)
  defined-held (Form.OperatorDefinition l) parts all = all
  defined-held (Form.PrefixDefinition l) parts all = all
  defined-held (Form.InfixDefinition l) parts all = all
  defined-held (Form.PostfixDefinition l) parts all = all
  defined-held (Form.FunctionDefinition l) parts all = all
  defined-held (Form.ModuleDefinition l) parts all = all
  defined-held _ parts all = tt

  pub definition-lies : (tree : Tree) → AllByRecursion P (lexemes tree) → Named (definition tree)
  definition-lies (Node form s parts) all = defined-held form parts (all-left P (form_lexemes form) (all_lexemes parts) all)

  pub placed-lie : (binding : Binding) (parts : Trees) → AllByRecursion P (all_lexemes parts) → Named (bound_as binding (all_placed parts))
  placed-lie binding Nil all = tt
  placed-lie binding (Cons (Node form s inner) rest) all =
      let own : AllByRecursion P (form_lexemes form) = all-left P (form_lexemes form) (all_lexemes inner) (all-left P (form_lexemes form ++ all_lexemes inner) (all_lexemes rest) all) in
      subst Named (sym (map-append _ (placed form) (all_placed rest)))
      (all-both (λ (binder : Binder). P binder.name) (bound_as binding (placed form)) (bound_as binding (all_placed rest)) (placed-held binding form own) (placed-lie binding rest (all-right P (form_lexemes form ++ all_lexemes inner) (all_lexemes rest) all)))

  pub variables-lie : (names : List Lexeme) → AllByRecursion P names → Named (variables names)
  variables-lie [] all = tt
  variables-lie (l ∷ names) all = (all.0, variables-lie names all.1)

  -- ---- instances

  abbrev Both : Lexeme × Option Lexeme → Type 0
  Both instance = P instance.0 × IfSome instance.1 P

  among-lies : (parts : Trees) → AllByRecursion P (all_lexemes parts) → IfSome (instance_among parts) P
  among-lies Nil all = tt
  among-lies (Cons (Node (Form.Instance l) s inner) rest) all = all.0
  among-lies (Cons (Node form s inner) rest) all = among-lies rest (all-right P (lexemes (Node form s inner)) (all_lexemes rest) all)

  own-lies : (form : Form.the_data) (parts : Trees) → AllByRecursion P (form_lexemes form) → AllByRecursion P (all_lexemes parts) → AllByRecursion Both (named_instance form parts)
  own-lies (Form.ModuleDefinition l) parts own all = ((own.0, among-lies parts all), tt)
  own-lies form parts own all = tt

  mutual
    named-lie : (tree : Tree) → AllByRecursion P (lexemes tree) → AllByRecursion Both (named_instances tree)
    named-lie (Node form s parts) all =
        let own : AllByRecursion P (form_lexemes form) = all-left P (form_lexemes form) (all_lexemes parts) all in
        let inner : AllByRecursion P (all_lexemes parts) = all-right P (form_lexemes form) (all_lexemes parts) all in
        all-both Both (named_instance form parts) (all_named_instances parts) (own-lies form parts own inner) (all-named-lie parts inner)

    all-named-lie : (parts : Trees) → AllByRecursion P (all_lexemes parts) → AllByRecursion Both (all_named_instances parts)
    all-named-lie Nil all = tt
    all-named-lie (Cons x rest) all =
        all-both Both (named_instances x) (all_named_instances rest) (named-lie x (all-left P (lexemes x) (all_lexemes rest) all)) (all-named-lie rest (all-right P (lexemes x) (all_lexemes rest) all))

  one-tree : (x : Tree) → AllByRecursion P (lexemes x) → AllByRecursion Both (all_named_instances (Cons x Nil))
  one-tree x all = all-both Both (named_instances x) [] (named-lie x all) tt

  in-unit : (unit : UnitTree) → AllByRecursion P (unit_lexemes unit) → AllByRecursion Both (all_named_instances (unit_trees unit))
  in-unit (Variables names) all = tt
  in-unit (Constants declarations) all = tt
  in-unit (OperatorDefinition local x) all = one-tree x all
  in-unit (FunctionDefinition local x) all = one-tree x all
  in-unit (ModuleDefinition local x) all = one-tree x all
  in-unit (Instance local x) all = one-tree x all
  in-unit (Assumption word name x) all = one-tree x all
  in-unit (Theorem word name x) all = one-tree x all
  in-unit (Line dashes) all = tt
  in-unit (ModuleBegin dashes name extends) all = tt
  in-unit (ModuleEnd closing) all = tt

  names-of : (found : List NamedInstance) → AllByRecursion Both (map named_as found) → AllByRecursion (λ (i : NamedInstance). P i.name) found
  names-of [] all = tt
  names-of (i ∷ found) all = (all.0.0, names-of found all.1)

  modules-of : (found : List NamedInstance) → AllByRecursion Both (map named_as found) → AllByRecursion (λ (i : NamedInstance). IfSome i.«module» P) found
  modules-of [] all = tt
  modules-of (i ∷ found) all = (all.0.1, modules-of found all.1)

  module _ (unit : UnitTree) (found : List NamedInstance) (is : map named_as found ≡ all_named_instances (unit_trees unit)) (all : AllByRecursion P (unit_lexemes unit)) where
    pub instance-names-lie : AllByRecursion (λ (i : NamedInstance). P i.name) found
    instance-names-lie = names-of found (subst (AllByRecursion Both) (sym is) (in-unit unit all))

    pub instance-modules-lie : AllByRecursion (λ (i : NamedInstance). IfSome i.«module» P) found
    instance-modules-lie = modules-of found (subst (AllByRecursion Both) (sym is) (in-unit unit all))
