-- The meanings of names, as they are noted.
use Rattle.std.proofs.Common.{◌≡◌, ◌↔◌, ◌||◌, ℕ, zero, suc, min, drop, length, List, [], ◌∷◌, Bool, true, false, Option, Some, None, nat_eq, refl, ap, sym, ◌∙◌, arith, true≢false}
use Rattle.std.specs.Prelude.{Contains, map}
use Rattle.std.specs.Option.{option_or}
use Rattle.std.specs.List.{list_any}
use Rattle.std.specs.Map.{lookup}
use Rattle.std.proofs.lemmas.List.Folds.{list_any_at}
use Rattle.std.specs.Cmp.{both_ways}
use Rattle.unit_grammar.specs.Units.{ModuleUnits}
use Rattle.tla_model.specs.declared.entity.Use.{Use}
use Rattle.tla_model.specs.Entities.{Entity}
use Rattle.tla_model.specs.Scopes.{Finding}
use Rattle.module_model.specs.declared.bound.Bound.{Bound}
use Rattle.module_model.specs.Bindings.{IsBoundBy, Resolved, faults, resolved}
use Rattle.arity_rules.specs.Arities.{declared, is_unknown, meaning, or_built_in, says_unknown}
use Rattle.arity_rules.specs.Noted.{declarations, meaning_by}

-- uses with their entities, taken apart and put together
pub together : (all : List Resolved) → declarations (map (λ r. r.«use») all) (map (λ r. r.entity) all) ≡ map (λ r. (r.«use».name.start, r.entity)) all
together [] = refl
together (r ∷ all) = ap (λ z. (r.«use».name.start, r.entity) ∷ z) (together all)

-- ---- faults in another order

some-of : {A : Type 0} (p : A → Bool) (xs : List A) → list_any p xs ≡ true → (x : A) × Contains xs x × (p x ≡ true)
some-of p [] any = absurd (true≢false (sym any))
some-of {A} p (x ∷ xs) any = by (p x) refl (some-of p xs) any
  where
    by : (b : Bool) → p x ≡ b → (list_any p xs ≡ true → (y : A) × Contains xs y × (p y ≡ true)) → (b || list_any p xs) ≡ true → (y : A) × Contains (x ∷ xs) y × (p y ≡ true)
    by true is rest any = (x, (0, omega arith, refl), is)
    by false is rest any = let found = rest any in (found.0, (suc found.1.0, omega (arith, found.1.1), found.1.2), found.2)

any-of : {A : Type 0} (p : A → Bool) (xs : List A) (x : A) → Contains xs x → p x ≡ true → list_any p xs ≡ true
any-of p xs x there is = list_any_at p xs there.0 x there.1 (ap p there.2 ∙ is)

-- lists with the same elements have one that passes, or none
pub same-any : {A : Type 0} (p : A → Bool) (xs ys : List A) → ((x : A) → Contains xs x ↔ Contains ys x) → list_any p xs ≡ list_any p ys
same-any p xs ys same = both_ways (list_any p xs) (list_any p ys)
    (λ any. let found = some-of p xs any in any-of p ys found.0 ((same found.0).0 found.1) found.2)
    (λ any. let found = some-of p ys any in any-of p xs found.0 ((same found.0).1 found.1) found.2)

-- what names mean by what is bound is what is found
pub meaning-found : (found : List Finding) (source : List ℕ) (units : ModuleUnits) (bound : Bound) → IsBoundBy found source units bound → (start : ℕ) → meaning_by bound.uses bound.entities bound.faults start ≡ meaning found start
meaning-found found source units bound is start =
    ap (λ z. or_built_in (lookup (nat_eq start) (declarations z bound.entities)) (is_unknown bound.faults start)) is.uses
    ∙ ap (λ z. or_built_in (lookup (nat_eq start) (declarations (map (λ r. r.«use») (resolved found)) z)) (is_unknown bound.faults start)) is.entities
    ∙ ap (λ z. or_built_in (lookup (nat_eq start) z) (is_unknown bound.faults start)) (together (resolved found))
    ∙ ap (or_built_in (lookup (nat_eq start) (declared found))) (same-any (says_unknown start) bound.faults (faults found) is.faults.same)

-- ---- declarations, one after another

drop-nil : {A : Type 0} (n : ℕ) → drop {A = A} n [] ≡ []
drop-nil zero = refl
drop-nil (suc n) = refl

nothing : (uses : List Use) → declarations uses [] ≡ []
nothing [] = refl
nothing (u ∷ uses) = refl

-- behind the last of them none is left
pub none-left : (uses : List Use) (entities : List Entity) (n : ℕ) → n ≡ min (length uses) (length entities) → declarations (drop n uses) (drop n entities) ≡ []
none-left [] entities n is = rw (drop-nil n) refl
none-left (u ∷ uses) [] n is = rw (drop-nil n) (nothing (drop n (u ∷ uses)))
none-left (u ∷ uses) (e ∷ entities) zero is = absurd (omega (arith, is))
none-left (u ∷ uses) (e ∷ entities) (suc n) is = none-left uses entities n (omega (arith, is))

pub either-none : (o : Option Entity) → option_or o None ≡ o
either-none None = refl
either-none (Some e) = refl
