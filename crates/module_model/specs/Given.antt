-- What is asked of a module whose names are resolved, and of the faces of those that it names.
use Rattle.std.specs.Prelude.{◌≡◌, ◌<◌, ◌^◌, ℕ, List, false, Option, None, Some, is_some, true, length}
use Rattle.std.specs.Arc.{arc_value}
use Rattle.std.specs.Str.{bytes_eq}
use Rattle.tla_tree.specs.declared.unit.ModuleTree.{ModuleTree}
use Rattle.unit_grammar.specs.UnitNodes.{HasNodes, module_of}
use Rattle.tla_model.specs.Entities.{Entity, declaring}
use Rattle.tla_model.specs.EntityKinds.{is_instance}
use Rattle.tla_model.specs.Lexemes.{LexemesLie}
use Rattle.tla_model.specs.Tables.{Named}
use Rattle.tla_model.specs.declared.ids.Callee.{Callee}
use Rattle.tla_model.specs.declared.ids.DeclId.{DeclId}
use Rattle.tla_model.specs.declared.names.Meaning.TheVariants.{Declared}
use Rattle.module_model.specs.declared.face.Face.{Face}
use Rattle.module_model.specs.declared.imported.Import.{Import}
use Rattle.module_model.specs.Exports.{Exports, Instances, entry_of, face_exports, face_instances}
use Rattle.module_model.specs.Imports.{Imports, import_of}

-- its nodes are there, its names lie in its source, and it declares fewer than 2^32 of them
pub record IsReadable (tree : ModuleTree) : Type 0 where
  pub nodes : HasNodes tree
  pub lie : LexemesLie tree.source (module_of tree)
  pub few : length (declaring (module_of tree).units) < 2 ^ 32

-- ---- faces

-- each instance that one of these entries names stands among those of which something is said
abbrev pub AreReached : {A : Type 0} → (DeclId → Option A) → Exports → Type 0
AreReached instances entries = (name : Named) (entity : Entity) (callee : Callee) → entry_of entries name ≡ Some (Declared entity callee) → is_instance entity ≡ true → is_some (instances callee.decl) ≡ true

-- a face holds each instance that its exports reach
pub record IsWhole (face : Face) : Type 0 where
  pub exports : AreReached (face_instances face) (face_exports face)
  pub behind : (decl : DeclId) (entries : Exports) → face_instances face decl ≡ Some entries → AreReached (face_instances face) entries

-- the module of an instance that both reach exports the same
abbrev pub AgreeOn : Instances → Instances → Type 0
AgreeOn one other = (decl : DeclId) (a b : Exports) → one decl ≡ Some a → other decl ≡ Some b → a ≡ b

-- none of the instances is declared in the text of this module
abbrev pub AreForeign : Instances → List ℕ → Type 0
AreForeign instances title = (decl : DeclId) (entries : Exports) → instances decl ≡ Some entries → bytes_eq decl.«module» title ≡ false

-- the face of an import, if it is accepted
abbrev pub face_of : Option Import → Option Face
face_of (Some (Import.Module face)) = Some (arc_value face)
face_of _ = None

-- the face of the imported module of a name
abbrev pub imported : Imports → List ℕ → Option Face
imported imports name = face_of (import_of imports name)

-- the faces of imports go together: each is that of its name, none lacks an instance, two say the same of one, and none has one of this module
pub record AreFaces (imports : Imports) (title : List ℕ) : Type 0 where
  pub named : (name : List ℕ) (face : Face) → imported imports name ≡ Some face → face.«module» ≡ name
  pub whole : (name : List ℕ) (face : Face) → imported imports name ≡ Some face → IsWhole face
  pub agree : (name other : List ℕ) (one two : Face) → imported imports name ≡ Some one → imported imports other ≡ Some two → AgreeOn (face_instances one) (face_instances two)
  pub foreign : (name : List ℕ) (face : Face) → imported imports name ≡ Some face → AreForeign (face_instances face) title

-- where an instance of a face comes from: the text of its module, or the face of one that the module names
pub data ComesFrom (imports : Imports) (title : List ℕ) (decl : DeclId) (entries : Exports) : Type 0 where
  Text : bytes_eq decl.«module» title ≡ true → ComesFrom imports title decl entries
  Reached : (name : List ℕ) (face : Face) → imported imports name ≡ Some face → face_instances face decl ≡ Some entries → ComesFrom imports title decl entries

-- the face of a module of this title over these imports: it holds what its exports reach, and nothing from elsewhere
pub record IsFaceOver (imports : Imports) (title : List ℕ) (face : Face) : Type 0 where
  pub named : face.«module» ≡ title
  pub whole : IsWhole face
  pub from : (decl : DeclId) (entries : Exports) → face_instances face decl ≡ Some entries → ComesFrom imports title decl entries
