-- All names that units declare are declared as what stands at their places, and trees bind such as are open.
use Rattle.std.proofs.Common.{◌≡◌, ℕ, zero, suc, Bool, true, false, cond, List, [], ◌∷◌, ◌++◌, Some, nat_eq, refl, ap, subst, ◌∙◌}
use Rattle.std.specs.Prelude.{slice_get}
use Rattle.std.specs.List.{AllByRecursion}
use Rattle.std.proofs.lemmas.Bool.Decides.{Decides-eqb}
use Rattle.list_laws.proofs.Lists.{all-left, all-right, at-map}
use Rattle.tla_tree.specs.Syntax.{Tree, Nil, Cons}
use Rattle.unit_grammar.specs.Units.{ModuleUnits, UnitTree}
use Rattle.tla_model.specs.declared.names.Binder.{Binder}
use Rattle.tla_model.specs.Entities.{Text, declared_by, declaring, meant, name_of, place_in}
use Rattle.tla_model.specs.Lexemes.{spelled}
use Rattle.module_model.specs.Instances.{unit_trees}
use Rattle.module_model.specs.Modules.{text_of}
use Rattle.flat_kinds.specs.Declarations.{Declarations, HasPlaces, IsDeclared, StandApart}
use Rattle.fresh_names.proofs.Kept.{tree-names}
use Rattle.steady_kinds.specs.Steady.{BindsAll, IsOpen}
use Rattle.steady_kinds.proofs.Binding.{tree-binds}

place-found : (starts : List ℕ) (i x : ℕ) → slice_get starts i ≡ Some x → slice_get starts (place_in starts x) ≡ Some x
place-found [] i x at = cc at
place-found (first ∷ starts) zero x at =
    let same : first ≡ x = cc in
    ap (λ b. slice_get (first ∷ starts) (cond b zero (suc (place_in starts x)))) ((Decides-eqb first x).1 same) ∙ at
place-found (first ∷ starts) (suc i) x at = by_first (nat_eq first x) refl (place-found starts i x at)
  where
    by_first : (b : Bool) → nat_eq first x ≡ b → slice_get starts (place_in starts x) ≡ Some x → slice_get (first ∷ starts) (cond b zero (suc (place_in starts x))) ≡ Some x
    by_first true is rest = ap Some ((Decides-eqb first x).0 is)
    by_first false is rest = rest

all-at : (P : Binder → Type 0) (xs : List Binder) → ((i : ℕ) (x : Binder) → slice_get xs i ≡ Some x → P x) → AllByRecursion P xs
all-at P [] each = tt
all-at P (x ∷ xs) each = (each zero x refl, all-at P xs (λ i y at. each (suc i) y at))

module _ (declares : Declarations) (source : List ℕ) (units : ModuleUnits) (apart : StandApart (text_of source units).starts) (places : HasPlaces declares source units) where
  abbrev text : Text
  text = text_of source units

  abbrev Declared : Binder → Type 0
  Declared b = IsDeclared declares (name_of source b.name) (meant text b)

  all-declared : AllByRecursion Declared (declaring units.units)
  all-declared = all-at Declared (declaring units.units) one
    where
      one : (i : ℕ) (binder : Binder) → slice_get (declaring units.units) i ≡ Some binder → IsDeclared declares (name_of source binder.name) (meant (text_of source units) binder)
      one i binder at =
          let starts : List ℕ = (text_of source units).starts in
          let there = at-map (λ (b : Binder). b.name.span.start) (declaring units.units) i binder at in
          let found = place-found starts i binder.name.span.start there in
          ap (λ n. declares (record { «module» = spelled source units.name; place = n })) (apart (place_in starts binder.name.span.start) i binder.name.span.start found there) ∙ places i binder at

  unit-declared : (before behind : List UnitTree) (unit : UnitTree) → AllByRecursion Declared (declaring (before ++ unit ∷ behind)) → AllByRecursion Declared (declared_by unit)
  unit-declared [] behind unit all = all-left Declared (declared_by unit) (declaring behind) all
  unit-declared (other ∷ before) behind unit all = unit-declared before behind unit (all-right Declared (declared_by other) (declaring (before ++ unit ∷ behind)) all)

  -- each tree of a unit binds open names
  pub unit-binds : (before behind : List UnitTree) (unit : UnitTree) (x : Tree) → units.units ≡ before ++ unit ∷ behind → unit_trees unit ≡ Cons x Nil → BindsAll (IsOpen declares) text x
  unit-binds before behind unit x split tree =
      tree-binds declares text x
      (subst (AllByRecursion Declared) (tree-names unit x tree) (unit-declared before behind unit (subst (λ (us : List UnitTree). AllByRecursion Declared (declaring us)) split all-declared)))
