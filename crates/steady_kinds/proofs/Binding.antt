-- Trees whose names are declared bind such as are no definitions, or are bound names.
use Rattle.std.proofs.Common.{◌≡◌, ℕ, Bool, true, false, cond, List, [], ◌∷◌, ◌++◌, inl, inr, refl, ap, ◌∙◌}
use Rattle.std.specs.List.{AllByRecursion}
use Rattle.tla_symbols.specs.declared.lexeme.Lexeme.{Lexeme}
use Rattle.tla_tree.specs.declared.form.Form.TheVariants as Form
use Rattle.tla_tree.specs.Syntax.{Tree, Trees, Node, Nil, Cons}
use Rattle.tla_model.specs.declared.names.Binder.{Binder}
use Rattle.tla_model.specs.declared.names.Binding.{Binding}
use Rattle.tla_model.specs.declared.names.Binding.TheVariants as as_binding
use Rattle.tla_model.specs.EntityKinds.{stands_behind}
use Rattle.tla_model.specs.Entities.{Text, all_placed, binding_in, binding_of, bound_as, declared_among, declared_in, declared_round, defined, entity_of, follows_first, is_group, meant, name_of, placed, within}
use Rattle.tla_model.specs.Scopes.{all_grouped, names_in}
use Rattle.list_laws.proofs.Lists.{all-both, all-left, all-right}
use Rattle.flat_kinds.specs.Declarations.{AreNamesDeclared, Declarations, IsDeclared}
use Rattle.steady_kinds.specs.Steady.{BindAll, BindsAll, BindsOwn, BindsSo, IsOpen}

module _ (declares : Declarations) (text : Text) where
  abbrev Declared : Binder → Type 0
  Declared b = IsDeclared declares (name_of text.source b.name) (meant text b)

  abbrev Open : Binder → Type 0
  Open b = IsOpen declares (meant text b)

  bound-entity : (binding : Binding) (n : ℕ) → stands_behind (entity_of binding n) ≡ false
  bound-entity as_binding.Constant n = refl
  bound-entity as_binding.Parameter n = refl
  bound-entity (as_binding.Bound state) n = refl

  bound-open : (binding : Binding) (xs : List (Lexeme × ℕ)) → AllByRecursion Declared (bound_as binding xs) → AllByRecursion Open (bound_as binding xs)
  bound-open binding [] all = tt
  bound-open binding (x ∷ xs) all = (inl (ap (λ p. stands_behind p.1) all.0 ∙ bound-entity binding x.1), bound-open binding xs all.1)

  both-bound : (binding : Binding) (xs ys : List (Lexeme × ℕ)) → AllByRecursion Declared (bound_as binding xs) → AllByRecursion Declared (bound_as binding ys) → AllByRecursion Declared (bound_as binding (xs ++ ys))
  both-bound binding [] ys front back = back
  both-bound binding (x ∷ xs) ys front back = (front.0, both-bound binding xs ys front.1 back)

  -- the names of parts, and those of groups among them
  placed-names : (binding : Binding) (parts : Trees) → AllByRecursion Declared (declared_among binding parts) → AllByRecursion Declared (bound_as binding (all_placed parts))
  placed-names binding Nil all = tt
  placed-names binding (Cons (Node form s parts) rest) all =
      both-bound binding (placed form) (all_placed rest)
      (all-left Declared (bound_as binding (placed form)) _ (all-left Declared (declared_in binding (Node form s parts)) (declared_among binding rest) all))
      (placed-names binding rest (all-right Declared (declared_in binding (Node form s parts)) (declared_among binding rest) all))

  group-names : (binding : Binding) (form : Form.the_data) (parts : Trees) → AllByRecursion Declared (cond (follows_first form) (declared_round form parts) (defined form parts ++ declared_among (binding_in binding form) parts)) → AllByRecursion Declared (bound_as binding (names_in (is_group form) parts))
  group-names binding Form.Names parts all = placed-names binding parts all
  group-names binding Form.TupleNames parts all = placed-names binding parts all
  group-names binding Form.Bound parts all = placed-names binding parts all
  group-names binding Form.TupleBound parts all = placed-names binding parts all
  group-names binding Form.Bounds parts all = placed-names binding parts all
  group-names binding form parts all = tt

  grouped-names : (binding : Binding) (parts : Trees) → AllByRecursion Declared (declared_among binding parts) → AllByRecursion Declared (bound_as binding (all_grouped parts))
  grouped-names binding Nil all = tt
  grouped-names binding (Cons (Node form s parts) rest) all =
      both-bound binding (names_in (is_group form) parts) (all_grouped rest)
      (group-names binding form parts (all-right Declared (bound_as binding (placed form)) _ (all-left Declared (declared_in binding (Node form s parts)) (declared_among binding rest) all)))
      (grouped-names binding rest (all-right Declared (declared_in binding (Node form s parts)) (declared_among binding rest) all))

  own-open : (form : Form.the_data) → BindsOwn (IsOpen declares) text form
  own-open (Form.FunctionDefinition l) = inr refl
  own-open form = tt

  -- what a form binds, by the names of its parts
  form-binds : (binding : Binding) (form : Form.the_data) (parts : Trees) → AllByRecursion Declared (declared_among (binding_in binding form) parts) → BindsSo (IsOpen declares) text form parts
  form-binds binding form parts all = (by (is_group form) all, own-open form)
    where
      by : (b : Bool) → AllByRecursion Declared (declared_among (cond b binding (binding_of form)) parts) → AllByRecursion Open (cond b [] (bound_as (binding_of form) (all_placed parts ++ all_grouped parts)))
      by true all = tt
      by false all = bound-open (binding_of form) (all_placed parts ++ all_grouped parts) (both-bound (binding_of form) (all_placed parts) (all_grouped parts) (placed-names (binding_of form) parts all) (grouped-names (binding_of form) parts all))

  -- the names of parts of a definition that its name stands among
  round-names : (form : Form.the_data) (parts : Trees) → AllByRecursion Declared (declared_round form parts) → AllByRecursion Declared (declared_among (binding_of form) parts)
  round-names form Nil all = tt
  round-names form (Cons x rest) all = all-both Declared (declared_in (binding_of form) x) (declared_among (binding_of form) rest)
      (all-left Declared (declared_in (binding_of form) x) (defined form (Cons x rest)) (all-left Declared (declared_in (binding_of form) x ++ defined form (Cons x rest)) (declared_among (binding_of form) rest) all))
      (all-right Declared (declared_in (binding_of form) x ++ defined form (Cons x rest)) (declared_among (binding_of form) rest) all)

  parts-names : (binding : Binding) (form : Form.the_data) (parts : Trees) → AllByRecursion Declared (cond (follows_first form) (declared_round form parts) (defined form parts ++ declared_among (binding_in binding form) parts)) → AllByRecursion Declared (declared_among (binding_in binding form) parts)
  parts-names binding (Form.InfixDefinition l) parts all = round-names (Form.InfixDefinition l) parts all
  parts-names binding (Form.PostfixDefinition l) parts all = round-names (Form.PostfixDefinition l) parts all
  parts-names binding form parts all = all-right Declared (defined form parts) (declared_among (binding_in binding form) parts) all

  mutual
    part-binds : (binding : Binding) (x : Tree) → AllByRecursion Declared (declared_in binding x) → BindsAll (IsOpen declares) text x
    part-binds binding (Node form s parts) all =
        let names = parts-names binding form parts (all-right Declared (bound_as binding (placed form)) _ all) in
        (form-binds binding form parts names, parts-bind (binding_in binding form) parts names)

    parts-bind : (binding : Binding) (parts : Trees) → AllByRecursion Declared (declared_among binding parts) → BindAll (IsOpen declares) text parts
    parts-bind binding Nil all = tt
    parts-bind binding (Cons x rest) all = (part-binds binding x (all-left Declared (declared_in binding x) (declared_among binding rest) all), parts-bind binding rest (all-right Declared (declared_in binding x) (declared_among binding rest) all))

  pub tree-binds : (x : Tree) → AreNamesDeclared declares text (within x) → BindsAll (IsOpen declares) text x
  tree-binds x all = part-binds (as_binding.Bound false) x all
