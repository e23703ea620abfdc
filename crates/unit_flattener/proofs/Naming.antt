-- What modules that can be named are to their instances, where nested modules begin and end, and where there is one more.
use Rattle.std.proofs.Common.{◌≡◌, ℕ, zero, suc, ◌<◌, Bool, true, false, cond, List, [], ◌∷◌, ◌++◌, Option, Some, None, if◌then◌else◌, length, take, refl, sym, ap, subst, ◌∙◌, arith}
use Rattle.std.specs.Prelude.{IfSome, is_some, map, nat_eq, option_map}
use Rattle.std.specs.Str.{bytes_eq}
use Rattle.std.proofs.lemmas.List.{map-append}
use Rattle.list_laws.proofs.Lists.{all-both, all-weaker}
use Rattle.tla_model.specs.Tables.{added}
use Rattle.module_scope.specs.Environments.{Environment, Scope, begun, behind, ended, meaning}
use Rattle.module_scope.specs.Kept.{AreFronts}
use Rattle.flattened_trees.specs.Leads.{FlatFace}
use Rattle.module_leads.specs.Leading.{Leading, with_face}
use Rattle.module_leads.specs.Ways.{face_at}
use Rattle.unit_flattener.specs.Numbers.{AreBelow, KeepsFaces, faces_named, file_faces, scope_faces}

abbrev Round : Type 0
Round = List (List ℕ × Environment ℕ)

-- a module with its number below this one
abbrev IsBelow : ℕ → List ℕ × Option ℕ → Type 0
IsBelow count entry = IfSome entry.1 (λ number. number < count)

-- ---- names that come

module _ (faces : ℕ → FlatFace) where
  is-named : (modules : Environment ℕ) (name : List ℕ) → is_some (meaning (faces_named faces modules) name) ≡ is_some (meaning modules name)
  is-named [] name = refl
  is-named (entry ∷ modules) name = by (bytes_eq name entry.0) (is-named modules name)
    where
      by : (b : Bool) → is_some (meaning (faces_named faces modules) name) ≡ is_some (meaning modules name)
          → is_some (cond b (Some (option_map faces entry.1)) (meaning (faces_named faces modules) name)) ≡ is_some (cond b (Some entry.1) (meaning modules name))
      by true rest = refl
      by false rest = rest

  named-added : (modules : Environment ℕ) (name : List ℕ) (known : Option ℕ) → faces_named faces (added bytes_eq modules name known) ≡ added bytes_eq (faces_named faces modules) name (option_map faces known)
  named-added modules name known =
      by (is_some (meaning modules name))
      ∙ ap (λ b. cond b (faces_named faces modules) (faces_named faces modules ++ (name, option_map faces known) ∷ [])) (sym (is-named modules name))
    where
      by : (b : Bool) → faces_named faces (cond b modules (modules ++ (name, known) ∷ [])) ≡ cond b (faces_named faces modules) (faces_named faces modules ++ (name, option_map faces known) ∷ [])
      by true = refl
      by false = map-append (λ (entry : List ℕ × Option ℕ). (entry.0, option_map faces entry.1)) modules ((name, known) ∷ [])

  -- a nested module begins
  pub faces-begun : (scope : Scope ℕ) (name : List ℕ) → scope_faces faces (begun scope name) ≡ begun (scope_faces faces scope) name
  faces-begun scope name = λ i. record { here = named-added scope.here name None i; round = (scope_faces faces (begun scope name)).round }

  -- a nested module ends
  pub faces-ended : (number : ℕ) (scope : Scope ℕ) → scope_faces faces (ended number scope.here scope.round) ≡ ended (faces number) (scope_faces faces scope).here (scope_faces faces scope).round
  faces-ended number scope = by scope.round
    where
      by : (round : Round) → scope_faces faces (ended number scope.here round) ≡ ended (faces number) (faces_named faces scope.here) (map (λ (nested : List ℕ × Environment ℕ). (nested.0, faces_named faces nested.1)) round)
      by [] = refl
      by (nested ∷ round) = λ i. record { here = named-added nested.1 nested.0 (Some number) i; round = map (λ (nested : List ℕ × Environment ℕ). (nested.0, faces_named faces nested.1)) round }

-- ---- numbers that come

module _ (count : ℕ) where
  -- one more module can be named
  pub below-added : (modules : Environment ℕ) (name : List ℕ) (known : Option ℕ) → AreBelow count modules → IfSome known (λ number. number < count) → AreBelow count (added bytes_eq modules name known)
  below-added modules name known below one = by (is_some (meaning modules name))
    where
      by : (b : Bool) → AreBelow count (cond b modules (modules ++ (name, known) ∷ []))
      by true = below
      by false = all-both (IsBelow count) modules ((name, known) ∷ []) below (one, tt)

  below-more : (entry : List ℕ × Option ℕ) → IsBelow count entry → IsBelow (suc count) entry
  below-more entry below = by entry.1 below
    where
      by : (known : Option ℕ) → IfSome known (λ number. number < count) → IfSome known (λ number. number < suc count)
      by None below = tt
      by (Some number) below = omega arith

  -- there is one number more
  pub below-one-more : (modules : Environment ℕ) → AreBelow count modules → AreBelow (suc count) modules
  below-one-more modules below = all-weaker (IsBelow count) (IsBelow (suc count)) below-more modules below

  below-first : (n : ℕ) (modules : Environment ℕ) → AreBelow count modules → AreBelow count (take n modules)
  below-first zero modules below = tt
  below-first (suc n) [] below = tt
  below-first (suc n) (entry ∷ modules) below = (below.0, below-first n modules below.1)

  -- so are those of the environment before a nested module
  pub below-front : (here front : Environment ℕ) → take (length front) here ≡ front → AreBelow count here → AreBelow count front
  below-front here front is below = subst (AreBelow count) is (below-first (length front) here below)

  below-latest : (modules : Environment ℕ) (name : List ℕ) → AreBelow count modules → AreBelow (suc count) (behind modules name count)
  below-latest modules name below = by (is_some (meaning modules name))
    where
      by : (b : Bool) → AreBelow (suc count) (cond b modules (modules ++ (name, Some count) ∷ []))
      by true = below-one-more modules below
      by false = all-both (IsBelow (suc count)) modules ((name, Some count) ∷ []) (below-one-more modules below) (omega arith, tt)

  -- the module that has ended has the next number
  pub below-ended : (scope : Scope ℕ) → AreBelow count scope.here → AreFronts scope.here scope.round → AreBelow (suc count) (ended count scope.here scope.round).here
  below-ended scope below fronts = by scope.round fronts
    where
      by : (round : Round) → AreFronts scope.here round → AreBelow (suc count) (ended count scope.here round).here
      by [] fronts = below-one-more scope.here below
      by (nested ∷ round) fronts = below-latest nested.1 nested.0 (below-front scope.here nested.1 fronts.0 below)

-- ---- faces by numbers below one

module _ (count : ℕ) (faces others : ℕ → FlatFace) (same : (number : ℕ) → number < count → others number ≡ faces number) where
  named-same : (modules : Environment ℕ) → AreBelow count modules → faces_named others modules ≡ faces_named faces modules
  named-same [] below = refl
  named-same (entry ∷ modules) below = λ i. (entry.0, by entry.1 below.0 i) ∷ named-same modules below.1 i
    where
      by : (known : Option ℕ) → IfSome known (λ number. number < count) → option_map others known ≡ option_map faces known
      by None one = refl
      by (Some number) one = ap Some (same number one)

  round-same : (here : Environment ℕ) (round : Round) → AreBelow count here → AreFronts here round
      → map {B = List ℕ × Environment FlatFace} (λ (nested : List ℕ × Environment ℕ). (nested.0, faces_named others nested.1)) round ≡ map {B = List ℕ × Environment FlatFace} (λ (nested : List ℕ × Environment ℕ). (nested.0, faces_named faces nested.1)) round
  round-same here [] below fronts = refl
  round-same here (nested ∷ round) below fronts =
      let front : AreBelow count nested.1 = below-front count here nested.1 fronts.0 below in
      λ i. (nested.0, named-same nested.1 front i) ∷ round-same nested.1 round front fronts.1 i

  -- modules that can be named are what they were
  pub scope-same : (scope : Scope ℕ) → AreBelow count scope.here → AreFronts scope.here scope.round → scope_faces others scope ≡ scope_faces faces scope
  scope-same scope below fronts = λ i. record { here = named-same scope.here below i; round = round-same scope.here scope.round below fronts i }

  -- and so are files
  pub files-same : (files : List ℕ → Option ℕ) → ((name : List ℕ) → IfSome (files name) (λ number. number < count)) → file_faces others files ≡ file_faces faces files
  files-same files below = λ i name. by (files name) (below name) i
    where
      by : (known : Option ℕ) → IfSome known (λ number. number < count) → face_at others known ≡ face_at faces known
      by None one = refl
      by (Some number) one = same number one

-- ---- one more face

module _ (known : Leading) (face : FlatFace) where
  -- the others stay
  pub others-stay : (number : ℕ) → number < known.count → (with_face known face).faces number ≡ known.faces number
  others-stay number below = let other : nat_eq number known.count ≡ false = grind arith in ap (λ b. if b then face else known.faces number) other

  -- all faces stay
  pub one-more-face : KeepsFaces known (with_face known face)
  one-more-face = record { count = omega arith; faces = others-stay }

  -- and it has the next number
  pub face-there : (with_face known face).faces known.count ≡ face
  face-there = let itself : nat_eq known.count known.count ≡ true = grind arith in ap (λ b. if b then face else known.faces known.count) itself

-- faces that stay stay
pub keeps-faces-on : (a b c : Leading) → KeepsFaces a b → KeepsFaces b c → KeepsFaces a c
keeps-faces-on a b c first second = record {
  count = omega (arith, first.count, second.count);
  faces = λ number below. second.faces number (omega (arith, first.count)) ∙ first.faces number below;
}
