-- What modules are to their instances, by the numbers of their faces.
use Rattle.std.specs.Prelude.{◌≡◌, ℕ, ◌<◌, ◌≤◌, List, Option, Some, None, IfSome, map, option_map}
use Rattle.std.specs.List.{AllByRecursion}
use Rattle.module_scope.specs.Environments.{Environment, Scope, meaning}
use Rattle.flattened_trees.specs.Leads.{FlatFace}
use Rattle.module_leads.specs.Leading.{Leading}
use Rattle.module_leads.specs.Ways.{face_at}

-- a nested module that can be named, or else the file; a module round the place has no number
abbrev pub number_under : Option ℕ → Option (Option ℕ) → Option ℕ
number_under file None = file
number_under file (Some named) = named

-- the number of the face of the module of a name
abbrev pub number_of : (List ℕ → Option ℕ) → Environment ℕ → List ℕ → Option ℕ
number_of files modules name = number_under (files name) (meaning modules name)

-- all nested modules that can be named have numbers below this one
abbrev pub AreBelow : ℕ → Environment ℕ → Type 0
AreBelow count modules = AllByRecursion (λ entry. IfSome entry.1 (λ number. number < count)) modules

-- all faces that there were are there, by the same numbers
pub record KeepsFaces (old new : Leading) : Type 0 where
  pub count : old.count ≤ new.count
  pub faces : (number : ℕ) → number < old.count → new.faces number ≡ old.faces number

module _ (faces : ℕ → FlatFace) where
  -- what files are to their instances
  abbrev pub file_faces : (List ℕ → Option ℕ) → List ℕ → FlatFace
  file_faces files name = face_at faces (files name)

  -- what the module of a name is
  abbrev pub faces_in : (List ℕ → Option ℕ) → Environment ℕ → List ℕ → FlatFace
  faces_in files modules name = face_at faces (number_of files modules name)

  -- the modules that can be named, with the faces of the nested ones
  abbrev pub faces_named : Environment ℕ → Environment FlatFace
  faces_named modules = map (λ entry. (entry.0, option_map faces entry.1)) modules

  -- the same of a place, and before each nested module round it
  abbrev pub scope_faces : Scope ℕ → Scope FlatFace
  scope_faces scope = record { here = faces_named scope.here; round = map (λ nested. (nested.0, faces_named nested.1)) scope.round }
