-- The names of a text, which begin at places of their own, have declarations of their own.
use Rattle.std.proofs.Common.{◌≡◌, ℕ, zero, suc, Bool, true, false, cond, List, [], ◌∷◌, ◌++◌, Some, nat_eq, refl, ap, ◌∙◌}
use Rattle.std.specs.Prelude.{slice_get}
use Rattle.std.specs.List.{AllByRecursion}
use Rattle.std.proofs.lemmas.Bool.Decides.{Decides-eqb}
use Rattle.tla_symbols.specs.declared.lexeme.Lexeme.{Lexeme}
use Rattle.tla_tree.specs.declared.form.Form.{Form}
use Rattle.tla_tree.specs.Syntax.{Tree, Trees, Node, Nil, Cons}
use Rattle.unit_grammar.specs.Units.{UnitTree, Variables, Constants, OperatorDefinition, FunctionDefinition, ModuleDefinition, Instance, Assumption, Theorem, Line, ModuleBegin, ModuleEnd, ModuleUnits}
use Rattle.tla_model.specs.declared.names.Binder.{Binder}
use Rattle.tla_model.specs.declared.names.Binding.TheVariants as as_binding
use Rattle.tla_model.specs.Entities.{Binding, all_placed, binding_in, binding_of, bound_as, declared_among, declared_by, declared_in, declared_round, declaring, defined, follows_first, meant, name_of, place_in, placed, within}
use Rattle.tla_model.specs.Lexemes.{spelled}
use Rattle.tla_model.specs.Scopes.{definition}
use Rattle.module_model.specs.Modules.{text_of}
use Rattle.list_laws.proofs.Lists.{at-map}
use Rattle.flat_kinds.specs.Declarations.{AreUnitsDeclared, Declarations, HasPlaces, IsDeclared, StandApart, declared_names}

-- ---- numbers at places

place-found : (starts : List ℕ) (i x : ℕ) → slice_get starts i ≡ Some x → slice_get starts (place_in starts x) ≡ Some x
place-found [] i x at = cc at
place-found (first ∷ starts) zero x at =
    let same : first ≡ x = cc in
    ap (λ b. slice_get (first ∷ starts) (cond b zero (suc (place_in starts x)))) ((Decides-eqb first x).1 same) ∙ at
place-found (first ∷ starts) (suc i) x at = by_first (nat_eq first x) refl (place-found starts i x at)
  where
    by_first : (b : Bool) → nat_eq first x ≡ b → slice_get starts (place_in starts x) ≡ Some x → slice_get (first ∷ starts) (cond b zero (suc (place_in starts x))) ≡ Some x
    by_first true is rest = ap Some ((Decides-eqb first x).0 is)
    by_first false is rest = rest

-- ---- names of units

module _ (P : Binder → Type 0) where
  all-at : (xs : List Binder) → ((i : ℕ) (x : Binder) → slice_get xs i ≡ Some x → P x) → AllByRecursion P xs
  all-at [] each = tt
  all-at (x ∷ xs) each = (each zero x refl, all-at xs (λ i y at. each (suc i) y at))

  all-front : (xs ys : List Binder) → AllByRecursion P (xs ++ ys) → AllByRecursion P xs
  all-front [] ys all = tt
  all-front (x ∷ xs) ys all = (all.0, all-front xs ys all.1)

  all-back : (xs ys : List Binder) → AllByRecursion P (xs ++ ys) → AllByRecursion P ys
  all-back [] ys all = all
  all-back (x ∷ xs) ys all = all-back xs ys all.1

  both-bound : (binding : Binding) (xs ys : List (Lexeme × ℕ)) → AllByRecursion P (bound_as binding xs) → AllByRecursion P (bound_as binding ys) → AllByRecursion P (bound_as binding (xs ++ ys))
  both-bound binding [] ys front back = back
  both-bound binding (x ∷ xs) ys front back = (front.0, both-bound binding xs ys front.1 back)

  -- the constants of a declaration
  placed-names : (binding : Binding) (parts : Trees) → AllByRecursion P (declared_among binding parts) → AllByRecursion P (bound_as binding (all_placed parts))
  placed-names binding Nil all = tt
  placed-names binding (Cons (Node form s parts) rest) all =
      both-bound binding (placed form) (all_placed rest)
      (all-front (bound_as binding (placed form)) _ (all-front (declared_in binding (Node form s parts)) (declared_among binding rest) all))
      (placed-names binding rest (all-back (declared_in binding (Node form s parts)) (declared_among binding rest) all))

  defined-round : (form : Form) (parts : Trees) → AllByRecursion P (declared_round form parts) → AllByRecursion P (defined form parts)
  defined-round form Nil all = all
  defined-round form (Cons x rest) all =
      all-back (declared_in (binding_of form) x) (defined form (Cons x rest)) (all-front (declared_in (binding_of form) x ++ defined form (Cons x rest)) (declared_among (binding_of form) rest) all)

  -- the name of a definition
  definition-names : (x : Tree) → AllByRecursion P (within x) → AllByRecursion P (definition x)
  definition-names (Node form s parts) all = by_first (follows_first form) (all-back (bound_as (as_binding.Bound false) (placed form)) _ all)
    where
      by_first : (b : Bool) → AllByRecursion P (cond b (declared_round form parts) (defined form parts ++ declared_among (binding_in (as_binding.Bound false) form) parts)) → AllByRecursion P (defined form parts)
      by_first true names = defined-round form parts names
      by_first false names = all-front (defined form parts) (declared_among (binding_in (as_binding.Bound false) form) parts) names

  unit-names : (unit : UnitTree) → AllByRecursion P (declared_by unit) → AllByRecursion P (declared_names unit)
  unit-names (Variables names) all = all
  unit-names (Constants declarations) all = placed-names as_binding.Constant declarations all
  unit-names (OperatorDefinition local x) all = definition-names x all
  unit-names (FunctionDefinition local x) all = definition-names x all
  unit-names (ModuleDefinition local x) all = definition-names x all
  unit-names (Instance local x) all = tt
  unit-names (Assumption word name x) all = tt
  unit-names (Theorem word name x) all = tt
  unit-names (Line dashes) all = tt
  unit-names (ModuleBegin dashes name extends) all = tt
  unit-names (ModuleEnd closing) all = tt

  units-names : (units : List UnitTree) → AllByRecursion P (declaring units) → AllByRecursion (λ (unit : UnitTree). AllByRecursion P (declared_names unit)) units
  units-names [] all = tt
  units-names (unit ∷ units) all =
      (unit-names unit (all-front (declared_by unit) (declaring units) all), units-names units (all-back (declared_by unit) (declaring units) all))

-- names at places of their own are declared as what stands there
pub places-declared : (declares : Declarations) (source : List ℕ) (units : ModuleUnits) → StandApart (text_of source units).starts → HasPlaces declares source units → AreUnitsDeclared declares (text_of source units) units.units
places-declared declares source units apart places =
    units-names (λ (binder : Binder). IsDeclared declares (name_of source binder.name) (meant (text_of source units) binder)) units.units
    (all-at (λ (binder : Binder). IsDeclared declares (name_of source binder.name) (meant (text_of source units) binder)) (declaring units.units) one)
  where
    one : (i : ℕ) (binder : Binder) → slice_get (declaring units.units) i ≡ Some binder → IsDeclared declares (name_of source binder.name) (meant (text_of source units) binder)
    one i binder at =
        let starts : List ℕ = (text_of source units).starts in
        let there = at-map (λ (b : Binder). b.name.span.start) (declaring units.units) i binder at in
        let found = place-found starts i binder.name.span.start there in
        ap (λ n. declares (record { «module» = spelled source units.name; place = n })) (apart (place_in starts binder.name.span.start) i binder.name.span.start found there) ∙ places i binder at
