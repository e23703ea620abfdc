-- Which instances entries reach, and faces that hold these and no others.
use Rattle.std.specs.Prelude.{◌≡◌, Option, Some, true}
use Rattle.tla_model.specs.Entities.{Entity}
use Rattle.tla_model.specs.EntityKinds.{is_instance}
use Rattle.tla_model.specs.Tables.{Named}
use Rattle.tla_model.specs.declared.ids.Callee.{Callee}
use Rattle.tla_model.specs.declared.ids.DeclId.{DeclId}
use Rattle.tla_model.specs.declared.names.Meaning.TheVariants.{Declared}
use Rattle.module_model.specs.Exports.{Exports, Instances, entry_of, face_exports, face_instances}
use Rattle.module_model.specs.Exports.{face_outside, instantiable}
use Rattle.module_model.specs.Given.{IsWhole}
use Rattle.module_model.specs.declared.face.Face.{Face}

-- one of these entries names the instance of a declaration
pub record IsNamed (entries : Exports) (decl : DeclId) : Type 0 where
  pub name : Named
  pub entity : Entity
  pub callee : Callee
  pub found : entry_of entries name ≡ Some (Declared entity callee)
  pub leads : is_instance entity ≡ true
  pub is : callee.decl ≡ decl

-- an instance is reached from entries: one of them names it, or one of those behind an instance that is reached
pub data IsReached (instances : Instances) (entries : Exports) : DeclId → Type 0 where
  First : {decl : DeclId} → IsNamed entries decl → IsReached instances entries decl
  Behind : {from decl : DeclId} (behind : Exports) → IsReached instances entries from → instances from ≡ Some behind → IsNamed behind decl → IsReached instances entries decl

-- a face holds what its exports reach and no more: of each instance the definitions and instances that stand behind it
pub record IsExact (face : Face) : Type 0 where
  pub reached : (decl : DeclId) (entries : Exports) → face_instances face decl ≡ Some entries → IsReached (face_instances face) (face_exports face) decl
  pub behind : (decl : DeclId) (entries : Exports) → face_instances face decl ≡ Some entries → instantiable entries ≡ entries

-- these are the definitions and instances of what the module of an instance exports
pub record IsBehindOf (was : Option Exports) (entries : Exports) : Type 0 where
  pub exported : Exports
  pub stands : was ≡ Some exported
  pub is : entries ≡ instantiable exported

-- a face is that of the same module, it is the same to those that name the module, and it holds exactly what its exports reach
pub record IsExactOf (face made : Face) : Type 0 where
  pub exact : IsExact made
  pub whole : IsWhole made
  pub named : made.«module» ≡ face.«module»
  pub outside : face_outside made ≡ face_outside face
  pub from : (decl : DeclId) (entries : Exports) → face_instances made decl ≡ Some entries → IsBehindOf (face_instances face decl) entries
