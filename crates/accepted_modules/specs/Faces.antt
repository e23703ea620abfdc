-- Faces of modules that can be named are what the modules are to those that name them.
use Rattle.std.specs.Prelude.{◌≡◌, ℕ, List, [], ◌∷◌, Option, Some, None}
use Rattle.module_scope.specs.Environments.{Environment, Scope}
use Rattle.tree_kinds.specs.Standing.{Outside}
use Rattle.flattened_trees.specs.Leads.{FlatFace}

-- a face has the parameters of a module, and is constant where that is
pub record ReadsAs (face : FlatFace) (outside : Outside) : Type 0 where
  pub parameters : face.parameters ≡ outside.view.parameters
  pub constant : face.is_constant ≡ outside.is_constant

-- the same of what is known of a module, if something is
abbrev pub IsReadAs : Option FlatFace → Option Outside → Type 0
IsReadAs None None = Unit {0}
IsReadAs (Some face) (Some outside) = ReadsAs face outside
IsReadAs face outside = ⊥

-- of all modules that can be named, which have the same names
abbrev pub AreReadAs : Environment FlatFace → Environment Outside → Type 0
AreReadAs [] [] = Unit {0}
AreReadAs (face ∷ faces) (named ∷ modules) = (face.0 ≡ named.0) × IsReadAs face.1 named.1 × AreReadAs faces modules
AreReadAs faces modules = ⊥

-- and of those before nested modules round a place
abbrev pub AreRoundReadAs : List (List ℕ × Environment FlatFace) → List (List ℕ × Environment Outside) → Type 0
AreRoundReadAs [] [] = Unit {0}
AreRoundReadAs (face ∷ faces) (nested ∷ modules) = (face.0 ≡ nested.0) × AreReadAs face.1 nested.1 × AreRoundReadAs faces modules
AreRoundReadAs faces modules = ⊥

-- faces at a place are those of the modules that can be named there
pub record FacesReadAs (faces : Scope FlatFace) (modules : Scope Outside) : Type 0 where
  pub here : AreReadAs faces.here modules.here
  pub round : AreRoundReadAs faces.round modules.round
