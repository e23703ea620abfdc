-- Scopes of numbers as they are kept.
use Rattle.std.proofs.Common.{◌≡◌, ℕ, ◌≤◌, Bool, true, false, cond, List, [], ◌∷◌, ◌++◌, Option, Some, length, take, ap, ◌∙◌, arith}
use Rattle.std.specs.Prelude.{is_some}
use Rattle.std.specs.Str.{bytes_eq}
use Rattle.std.proofs.lemmas.List.{length-take, take-append-le}
use Rattle.tla_model.specs.Tables.{added, lookup}
use Rattle.module_scope.specs.Environments.{Environment, ended}
use Rattle.module_scope.specs.Kept.{AreFronts}
use Rattle.unit_flattener.specs.Scopes.{left_behind}

abbrev Frame : Type 0
Frame = List ℕ × ℕ

abbrev frame_of : List Frame → Frame
frame_of [] = ([], 0)
frame_of (frame ∷ frames) = frame

abbrev frames_of : List Frame → List Frame
frames_of [] = []
frames_of (frame ∷ frames) = frames

front-added : (front modules : Environment ℕ) (name : List ℕ) (known : Option ℕ) → take (length front) modules ≡ front → take (length front) (added bytes_eq modules name known) ≡ front
front-added front modules name known is = by (is_some (lookup bytes_eq modules name))
  where
    within : length front ≤ length modules
    within = let long : length (take (length front) modules) ≡ length front = ap (λ z. length z) is in omega (arith, long, length-take (length front) modules)

    by : (b : Bool) → take (length front) (cond b modules (modules ++ (name, known) ∷ [])) ≡ front
    by true = is
    by false = take-append-le (length front) modules ((name, known) ∷ []) within ∙ is

fronts-added : (modules : Environment ℕ) (round : List (List ℕ × Environment ℕ)) (name : List ℕ) (known : Option ℕ) → AreFronts modules round → AreFronts (added bytes_eq modules name known) round
fronts-added modules [] name known fronts = tt
fronts-added modules (nested ∷ round) name known fronts = (front-added nested.1 modules name known fronts.0, fronts.1)

-- behind the innermost nested module
pub out : (here : Environment ℕ) (round : List (List ℕ × Environment ℕ)) (name : List ℕ) (modules : ℕ) (rest : List Frame) (number : ℕ) (cut after : Environment ℕ)
    → (name, modules) ∷ rest ≡ left_behind round → AreFronts here round → cut ≡ take modules here → after ≡ added bytes_eq cut name (Some number)
    → let scope = ended number here round in (after ≡ scope.here) × (rest ≡ left_behind scope.round) × AreFronts scope.here scope.round
out here [] name modules rest number cut after is fronts cuts adds = cc is
out here (nested ∷ outer) name modules rest number cut after is fronts cuts adds =
    let same : cut ≡ nested.1 = cuts ∙ ap (λ z. take (frame_of z).1 here) is ∙ fronts.0 in (
      adds ∙ ap (λ z. added bytes_eq cut (frame_of z).0 (Some number)) is ∙ ap (λ z. added bytes_eq z nested.0 (Some number)) same,
      ap frames_of is,
      fronts-added nested.1 outer nested.0 (Some number) fronts.1,
    )
