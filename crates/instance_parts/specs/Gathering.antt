-- The instances that exports reach, while they are gathered.
use Rattle.std.specs.Prelude.{◌≡◌, ⊤, ℕ, Bool, List, [], ◌∷◌, Some, false, is_some, true, slice_get}
use Rattle.std.specs.Option.{option_or}
use Rattle.std.specs.Str.{bytes_eq}
use Rattle.tla_model.specs.declared.ids.Callee.{Callee}
use Rattle.tla_model.specs.declared.ids.DeclId.{DeclId}
use Rattle.tla_model.specs.declared.names.Meaning.TheVariants.{Declared}
use Rattle.tla_model.specs.Entities.{Entity, same_decl}
use Rattle.tla_model.specs.EntityKinds.{is_instance}
use Rattle.tla_model.specs.Tables.{Named, lookup}
use Rattle.module_model.specs.declared.face.Face.{Face}
use Rattle.module_model.specs.Exports.{Exports, Instances, entry_of, exports_of, face_exports, face_instances, standing}
use Rattle.module_model.specs.Given.{imported}
use Rattle.module_model.specs.Imports.{Imports}
use Rattle.module_model.specs.Parts.{ByText, InText, reached}
use Rattle.tree_tasks.specs.declared.held.Held.{Held}
use Rattle.tree_tasks.specs.declared.held.Held.TheVariants.{Nowhere, Imported, Reached, Nested}
use Rattle.instance_leads.specs.declared.ended.Ended.{Ended}
use Rattle.instance_scope.specs.declared.scope.Scope.{Scope}
use Rattle.instance_leads.specs.Leading.{exports_shown}

-- all that the module of an instance exports which leads here
abbrev pub exported_at : List Ended → Held → Exports
exported_at nested Nowhere = []
exported_at nested (Imported face) = face_exports face.now
exported_at nested (Reached face exports) = exports_of exports.now
exported_at nested (Nested number) = exports_shown (slice_get nested number)

-- what is told of instances, by parts of other texts and by that of the text
abbrev pub told_by : List ℕ → InText → ByText → Instances
told_by title own parts decl = standing (option_or (reached parts decl) (reached ((title, own) ∷ []) decl))

-- all that a face says of instances is told
abbrev pub IsTold : Instances → Face → Type 0
IsTold told face = (decl : DeclId) (entries : Exports) → face_instances face decl ≡ Some entries → told decl ≡ Some entries

-- of each import whose module is noted, all is told
abbrev pub AreTaken : Imports → List (List ℕ × ⊤) → Instances → Type 0
AreTaken imports noted told = (name : List ℕ) (face : Face) → is_some (lookup bytes_eq noted name) ≡ true → imported imports name ≡ Some face → IsTold told face

-- of what stands behind a place it is told, or its nested module is seen
abbrev pub IsClosed : Instances → List Bool → Held → Type 0
IsClosed told seen Nowhere = ⊤
IsClosed told seen (Imported face) = IsTold told face.now
IsClosed told seen (Reached face exports) = IsTold told face.now
IsClosed told seen (Nested number) = slice_get seen number ≡ Some true

-- it is told of an instance what its module exports, and of what stands behind it
pub record IsGained (nested : List Ended) (told : Instances) (seen : List Bool) (decl : DeclId) (held : Held) : Type 0 where
  pub is : told decl ≡ Some (exported_at nested held)
  pub closed : IsClosed told seen held

-- an instance is known, and told of
pub record IsRoot (scope : Scope) (told : Instances) (seen : List Bool) (decl : DeclId) : Type 0 where
  pub held : Held
  pub known : lookup same_decl scope.known decl ≡ Some held
  pub gained : IsGained scope.nested.items told seen decl held

-- the same of each instance that these name
abbrev pub AreRoots : Scope → Instances → List Bool → Exports → Type 0
AreRoots scope told seen shown = (name : Named) (entity : Entity) (callee : Callee) → entry_of shown name ≡ Some (Declared entity callee) → is_instance entity ≡ true → IsRoot scope told seen callee.decl

-- an instance of the text that is told of is known, and of what stands behind it is told
pub record IsOwn (scope : Scope) (told : Instances) (seen : List Bool) (decl : DeclId) (entries : Exports) : Type 0 where
  pub held : Held
  pub known : lookup same_decl scope.known decl ≡ Some held
  pub same : entries ≡ exported_at scope.nested.items held
  pub closed : IsClosed told seen held

-- an instance of another text that is told of is that of an import, all of whose instances are told
pub record IsForeign (scope : Scope) (told : Instances) (decl : DeclId) (entries : Exports) : Type 0 where
  pub name : List ℕ
  pub face : Face
  pub import : imported scope.imported.now name ≡ Some face
  pub stands : face_instances face decl ≡ Some entries
  pub all : IsTold told face

-- what was gathered: instances of the text by themselves, and those of imports all together
pub record AreGathered (scope : Scope) (mine : InText) (parts : ByText) (seen : List Bool) : Type 0 where
  pub own : (decl : DeclId) (entries : Exports) → bytes_eq decl.«module» scope.title.now ≡ true → told_by scope.title.now mine parts decl ≡ Some entries → IsOwn scope (told_by scope.title.now mine parts) seen decl entries
  pub foreign : (decl : DeclId) (entries : Exports) → bytes_eq decl.«module» scope.title.now ≡ false → told_by scope.title.now mine parts decl ≡ Some entries → IsForeign scope (told_by scope.title.now mine parts) decl entries
  pub apart : (decl : DeclId) (entries : Exports) → standing (reached parts decl) ≡ Some entries → bytes_eq decl.«module» scope.title.now ≡ false

-- what was told is told, and what was seen is seen
pub record HaveGrown (before after : Instances) (some more : List Bool) : Type 0 where
  pub told : (decl : DeclId) (entries : Exports) → before decl ≡ Some entries → after decl ≡ Some entries
  pub seen : (number : ℕ) → slice_get some number ≡ Some true → slice_get more number ≡ Some true
