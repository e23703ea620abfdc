-- The names of a scope as they are kept.
use Rattle.std.proofs.Common.{◌≡◌, ℕ, ◌≤◌, Bool, true, false, cond, List, [], ◌∷◌, ◌++◌, Option, Some, length, take, refl, ap, ◌∙◌, arith}
use Rattle.std.specs.Prelude.{◌||◌, is_some}
use Rattle.std.specs.Borrow.{Bor}
use Rattle.std.specs.List.{list_any}
use Rattle.std.specs.Map as entries
use Rattle.std.specs.Str.{bytes_eq}
use Rattle.std.proofs.lemmas.List.{length-take, map-append, take-append-le}
use Rattle.std.proofs.lemmas.List.Folds.{list_any-append}
use Rattle.std.proofs.lemmas.Slice.Eq.{bytes_eq-Decides}
use Rattle.std.proofs.Math.Seq.{take-length}
use Rattle.tla_model.specs.Tables.{added, lookup}
use Rattle.module_scope.specs.Entries.{environment_of}
use Rattle.module_scope.specs.Environments.{Environment, ended, is_round}
use Rattle.module_scope.specs.Kept.{AreFronts, each_once, left_behind, names_of, once}

-- ---- names, each once

-- a test on what keys stand for is one on the keys
pub any-names : (name : List ℕ) (keys : List (Bor (List ℕ))) → list_any (bytes_eq name) (names_of keys) ≡ list_any (λ (key : Bor (List ℕ)). bytes_eq name key.now) keys
any-names name [] = refl
any-names name (key ∷ keys) = rw (any-names name keys) refl

-- the names with one more
pub names-once : (keys : List (Bor (List ℕ))) (key : Bor (List ℕ)) → names_of (cond (list_any (λ (other : Bor (List ℕ)). bytes_eq key.now other.now) keys) keys (keys ++ key ∷ [])) ≡ once (names_of keys) key.now
names-once keys key = rw (any-names key.now keys) (by (list_any (λ (other : Bor (List ℕ)). bytes_eq key.now other.now) keys))
  where
    by : (b : Bool) → names_of (cond b keys (keys ++ key ∷ [])) ≡ cond b (names_of keys) (names_of keys ++ key.now ∷ [])
    by true = refl
    by false = map-append (λ (other : Bor (List ℕ)). other.now) keys (key ∷ [])

take-once : (names : List (List ℕ)) (name : List ℕ) → take (length names) (once names name) ≡ names
take-once names name = by (list_any (bytes_eq name) names)
  where
    by : (b : Bool) → take (length names) (cond b names (names ++ name ∷ [])) ≡ names
    by true = take-length names
    by false = take-append-le (length names) names (name ∷ []) (omega arith) ∙ take-length names

-- a name that is among others passes no test that they all fail
any-among : (name other : List ℕ) (names : List (List ℕ)) → list_any (bytes_eq other) names ≡ true → list_any (bytes_eq name) names ≡ (bytes_eq name other || list_any (bytes_eq name) names)
any-among name other names among = by (bytes_eq name other) refl
  where
    by : (b : Bool) → bytes_eq name other ≡ b → list_any (bytes_eq name) names ≡ (b || list_any (bytes_eq name) names)
    by true same = rw ((bytes_eq-Decides name other).0 same) among
    by false same = refl

or-last : (a b : Bool) → (a || (b || false)) ≡ (b || a)
or-last true true = refl
or-last true false = refl
or-last false true = refl
or-last false false = refl

-- one more name
any-once : (name other : List ℕ) (names : List (List ℕ)) → list_any (bytes_eq name) (once names other) ≡ (bytes_eq name other || list_any (bytes_eq name) names)
any-once name other names = by (list_any (bytes_eq other) names) refl
  where
    by : (b : Bool) → list_any (bytes_eq other) names ≡ b → list_any (bytes_eq name) (cond b names (names ++ other ∷ [])) ≡ (bytes_eq name other || list_any (bytes_eq name) names)
    by true among = any-among name other names among
    by false among = list_any-append (bytes_eq name) names (other ∷ []) ∙ or-last (list_any (bytes_eq name) names) (bytes_eq name other)

-- ---- names with what is known of their modules

abbrev Rows : Type 0 → Type 0
Rows Known = List (Bor (List ℕ) × Option Known)

abbrev Round : Type 0 → Type 0
Round Known = List (List ℕ × Environment Known)

abbrev Frame : Type 0
Frame = List ℕ × ℕ × ℕ

abbrev frame_of : List Frame → Frame
frame_of [] = ([], 0, 0)
frame_of (frame ∷ frames) = frame

abbrev frames_of : List Frame → List Frame
frames_of [] = []
frames_of (frame ∷ frames) = frames

module _ {Known : Type 0} where
  pub found-kept : (rows : Rows Known) (name : List ℕ) → entries.lookup (λ (key : Bor (List ℕ)). bytes_eq name key.now) rows ≡ lookup bytes_eq (environment_of rows) name
  found-kept [] name = refl
  found-kept (row ∷ rows) name = ap (λ z. cond (bytes_eq name row.0.now) (Some row.1) z) (found-kept rows name)

  pub kept-there : (modules : Environment Known) (name : List ℕ) (known : Option Known) → is_some (lookup bytes_eq modules name) ≡ true → modules ≡ added bytes_eq modules name known
  kept-there modules name known there = rw there refl

  pub kept-new : (rows new : Rows Known) (name : Bor (List ℕ)) (known : Option Known) → new ≡ rows ++ (name, known) ∷ [] → is_some (lookup bytes_eq (environment_of rows) name.now) ≡ false → environment_of new ≡ added bytes_eq (environment_of rows) name.now known
  kept-new rows new name known more absent = ap environment_of more ∙ map-append (λ (entry : Bor (List ℕ) × Option Known). (entry.0.now, entry.1)) rows ((name, known) ∷ []) ∙ rw absent refl

  -- ---- what stays of them

  pub take-added : (modules : Environment Known) (name : List ℕ) (known : Option Known) → take (length modules) (added bytes_eq modules name known) ≡ modules
  take-added modules name known = by (is_some (lookup bytes_eq modules name))
    where
      by : (b : Bool) → take (length modules) (cond b modules (modules ++ (name, known) ∷ [])) ≡ modules
      by true = take-length modules
      by false = take-append-le (length modules) modules ((name, known) ∷ []) (omega arith) ∙ take-length modules

  front-added : (front modules : Environment Known) (name : List ℕ) (known : Option Known) → take (length front) modules ≡ front → take (length front) (added bytes_eq modules name known) ≡ front
  front-added front modules name known is = by (is_some (lookup bytes_eq modules name))
    where
      within : length front ≤ length modules
      within = let long : length (take (length front) modules) ≡ length front = ap (λ z. length z) is in omega (arith, long, length-take (length front) modules)

      by : (b : Bool) → take (length front) (cond b modules (modules ++ (name, known) ∷ [])) ≡ front
      by true = is
      by false = take-append-le (length front) modules ((name, known) ∷ []) within ∙ is

  fronts-added : (here : Environment Known) (round : Round Known) (name : List ℕ) (known : Option Known) → AreFronts here round → AreFronts (added bytes_eq here name known) round
  fronts-added here [] name known fronts = tt
  fronts-added here (nested ∷ round) name known fronts = (front-added nested.1 here name known fronts.0, fronts.1)

  -- ---- nested modules round a place

  -- out of the innermost one
  pub out : (here : Environment Known) (round : Round Known) (name : List ℕ) (modules names : ℕ) (rest : List Frame) (known : Known) (cut after : Environment Known) (kept : List (List ℕ))
      → (name, modules, names) ∷ rest ≡ left_behind round → AreFronts here round → cut ≡ take modules here → kept ≡ take names (each_once round) → after ≡ added bytes_eq cut name (Some known)
      → let scope = ended known here round in (after ≡ scope.here) × (kept ≡ each_once scope.round) × (rest ≡ left_behind scope.round) × AreFronts scope.here scope.round
  out here [] name modules names rest known cut after kept is fronts cuts keeps adds = cc is
  out here (nested ∷ outer) name modules names rest known cut after kept is fronts cuts keeps adds =
      let same : cut ≡ nested.1 = cuts ∙ ap (λ z. take (frame_of z).1 here) is ∙ fronts.0 in (
        adds ∙ ap (λ z. added bytes_eq cut (frame_of z).0 (Some known)) is ∙ ap (λ z. added bytes_eq z nested.0 (Some known)) same,
        keeps ∙ ap (λ z. take (frame_of z).2 (once (each_once outer) nested.0)) is ∙ take-once (each_once outer) nested.0,
        ap frames_of is,
        fronts-added nested.1 outer nested.0 (Some known) fronts.1,
      )

  -- whether one of them has a name
  pub round-kept : (name : List ℕ) (round : Round Known) → list_any (bytes_eq name) (each_once round) ≡ is_round round name
  round-kept name [] = refl
  round-kept name (nested ∷ round) = any-once name nested.0 (each_once round) ∙ ap (λ z. bytes_eq name nested.0 || z) (round-kept name round)
