-- Scopes of modules, in a flat module and by resolved trees.
use Rattle.std.proofs.Common.{◌≡◌, ℕ, Bool, true, false, List, [], ◌∷◌, ◌++◌, Option, Some, None, refl, sym, ap, ◌∙◌, map}
use Rattle.std.specs.Prelude.{if◌then◌else◌, is_some, option_map}
use Rattle.std.specs.Str.{bytes_eq}
use Rattle.std.proofs.lemmas.List.{map-append}
use Rattle.tla_model.specs.Tables.{added, lookup}
use Rattle.module_scope.specs.Environments.{Environment, Scope, begun, ended, meaning}
use Rattle.kind_text.specs.FlatModule.{FlatModule}
use Rattle.flattened_trees.specs.Leads.{FlatFace}
use Rattle.flattened_units.specs.Units as units
use Rattle.written_trees.specs.Leading.{Face}
use Rattle.written_trees.specs.Leading as leading
use Rattle.written_modules.specs.Faces.{faces_in, scope_in}
use Rattle.written_modules.specs.Modules.{face_under}

module _ (flat : FlatModule) where
  lookup-told : (modules : Environment FlatFace) (name : List ℕ) → lookup bytes_eq (faces_in flat modules) name ≡ option_map (option_map (leading.face_in flat)) (lookup bytes_eq modules name)
  lookup-told [] name = refl
  lookup-told (entry ∷ modules) name = by (bytes_eq name entry.0) (lookup-told modules name)
    where
      by : (b : Bool) → lookup bytes_eq (faces_in flat modules) name ≡ option_map (option_map (leading.face_in flat)) (lookup bytes_eq modules name)
          → (if b then Some (option_map (leading.face_in flat) entry.1) else lookup bytes_eq (faces_in flat modules) name) ≡ option_map (option_map (leading.face_in flat)) (if b then Some entry.1 else lookup bytes_eq modules name)
      by true more = refl
      by false more = more

  under-told : (files : List ℕ → FlatFace) (found : Option (Option FlatFace)) (name : List ℕ)
      → face_under (λ n. leading.face_in flat (files n)) (option_map (option_map (leading.face_in flat)) found) name ≡ leading.face_in flat (units.face_under files found name)
  under-told files None name = refl
  under-told files (Some None) name = refl
  under-told files (Some (Some face)) name = refl

  -- the module of a name
  pub face-told : (files : List ℕ → FlatFace) (scope : Scope FlatFace) (name : List ℕ)
      → face_under (λ n. leading.face_in flat (files n)) (meaning (scope_in flat scope).here name) name ≡ leading.face_in flat (units.face_under files (meaning scope.here name) name)
  face-told files scope name = ap (λ found. face_under (λ n. leading.face_in flat (files n)) found name) (lookup-told scope.here name) ∙ under-told files (meaning scope.here name) name

  added-told : (modules : Environment FlatFace) (name : List ℕ) (known : Option FlatFace) → faces_in flat (added bytes_eq modules name known) ≡ added bytes_eq (faces_in flat modules) name (option_map (leading.face_in flat) known)
  added-told modules name known = by (lookup bytes_eq modules name) ∙ sym (ap (λ found. if is_some found then faces_in flat modules else faces_in flat modules ++ (name, option_map (leading.face_in flat) known) ∷ []) (lookup-told modules name))
    where
      by : (found : Option (Option FlatFace)) → faces_in flat (if is_some found then modules else modules ++ (name, known) ∷ [])
          ≡ (if is_some (option_map (option_map (leading.face_in flat)) found) then faces_in flat modules else faces_in flat modules ++ (name, option_map (leading.face_in flat) known) ∷ [])
      by None = map-append _ modules ((name, known) ∷ [])
      by (Some known) = refl

  pub begun-told : (scope : Scope FlatFace) (name : List ℕ) → scope_in flat (begun scope name) ≡ begun (scope_in flat scope) name
  begun-told scope name =
      let here = added-told scope.here name None in
      λ i. record { here = here i; round = (name, faces_in flat scope.here) ∷ map (λ nested. (nested.0, faces_in flat nested.1)) scope.round }

  pub ended-told : (face : FlatFace) (here : Environment FlatFace) (round : List (List ℕ × Environment FlatFace))
      → scope_in flat (ended face here round) ≡ ended (leading.face_in flat face) (faces_in flat here) (map (λ nested. (nested.0, faces_in flat nested.1)) round)
  ended-told face here [] = refl
  ended-told face here (nested ∷ round) =
      let behind = added-told nested.1 nested.0 (Some face) in
      λ i. record { here = behind i; round = map (λ nested. (nested.0, faces_in flat nested.1)) round }
