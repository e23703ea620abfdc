-- What is kept of the modules and instances of a text, as what is said of them.
use Rattle.std.specs.Prelude.{◌≡◌, ◌<◌, ℕ, List, Some, false, length, slice_get, suc}
use Rattle.std.specs.Borrow.{Bor}
use Rattle.std.specs.Str.{bytes_eq}
use Rattle.tla_model.specs.declared.ids.DeclId.{DeclId}
use Rattle.tla_model.specs.Entities.{Meaning, same_decl}
use Rattle.tla_model.specs.Tables.{Table, lookup}
use Rattle.module_model.specs.declared.face.Face.{Face}
use Rattle.module_model.specs.Given.{AreFaces, imported}
use Rattle.module_model.specs.Imports.{Imports}
use Rattle.tree_tasks.specs.declared.held.Held.{Held}
use Rattle.tree_tasks.specs.declared.held.Held.TheVariants.{Reached}
use Rattle.module_scope.specs.Environments.{Environment}
use Rattle.module_model.specs.Exports.{Known, ModuleView, exports_of, face_instances, files_of}
use Rattle.module_model.specs.NamedModules.{module_at}
use Rattle.module_model.specs.TreeFindings.{Surroundings}
use Rattle.instance_leads.specs.declared.ended.Ended.{Ended}
use Rattle.instance_scope.specs.declared.scope.Scope.{Scope}
use Rattle.instance_leads.specs.Found.{AreTold}
use Rattle.instance_leads.specs.Leading.{AreThere, IsNoted, Leads, known_in, view_at, views}

-- what stands behind the instances that are known
abbrev pub known_of : Scope → Known
known_of scope = known_in scope.nested.items scope.known

-- what the module of a name is, by the numbers of the nested modules that can be named
abbrev pub module_in : Scope → Environment ℕ → List ℕ → ModuleView
module_in scope modules = module_at (files_of scope.imported.now) (views scope.nested.items modules)

-- what is round a tree
abbrev pub around_in : Scope → Environment ℕ → Surroundings
around_in scope modules = record { named = module_in scope modules; known = known_of scope; paths = scope.paths }

-- an instance leads to what the face of an import says of it
pub record IsBroughtBy (imports : Imports) (decl : DeclId) (held : Held) : Type 0 where
  pub name : List ℕ
  pub face : Bor Face
  pub table : Bor (Table Meaning)
  pub imported : imported imports name ≡ Some face.now
  pub is : held ≡ Reached face table
  pub stands : face_instances face.now decl ≡ Some (exports_of table.now)

-- where instances lead that may be noted: all places are there, and those of other texts are what the faces say
pub record AreGiven (scope : Scope) (leads : Leads) : Type 0 where
  pub there : AreThere scope.imported.now (length scope.nested.items) leads
  pub foreign : (decl : DeclId) (held : Held) → lookup same_decl leads decl ≡ Some held → bytes_eq decl.«module» scope.title.now ≡ false → IsBroughtBy scope.imported.now decl held

-- the faces of the imports go together; all places to which instances lead are there; what nested modules say of instances
-- is what is known, and they say it of each that they export; and what is known of those of other texts is what the faces say
pub record IsSound (scope : Scope) : Type 0 where
  pub faces : AreFaces scope.imported.now scope.title.now
  pub known : AreThere scope.imported.now (length scope.nested.items) scope.known
  pub there : (number : ℕ) (ended : Ended) → slice_get scope.nested.items number ≡ Some ended → AreThere scope.imported.now number ended.instances
  pub noted : (number : ℕ) (ended : Ended) → slice_get scope.nested.items number ≡ Some ended → IsNoted scope.known ended
  pub told : (number : ℕ) (ended : Ended) → slice_get scope.nested.items number ≡ Some ended → AreTold (lookup same_decl ended.instances) (exports_of ended.exports)
  pub foreign : (decl : DeclId) (held : Held) → lookup same_decl scope.known decl ≡ Some held → bytes_eq decl.«module» scope.title.now ≡ false → IsBroughtBy scope.imported.now decl held

-- the nested modules, the imports and the places of a text are the same
pub record IsSame (old new : Scope) : Type 0 where
  pub nested : new.nested.items ≡ old.nested.items
  pub title : new.title.now ≡ old.title.now
  pub imported : new.imported.now ≡ old.imported.now
  pub words : new.words ≡ old.words
  pub paths : new.paths ≡ old.paths

-- a nested module more is kept; those that were kept stay what they are
pub record IsEnded (old new : Scope) : Type 0 where
  pub count : length new.nested.items ≡ suc (length old.nested.items)
  pub views : (number : ℕ) → number < length old.nested.items → view_at new.nested.items number ≡ view_at old.nested.items number
  pub title : new.title.now ≡ old.title.now
  pub imported : new.imported.now ≡ old.imported.now
  pub words : new.words ≡ old.words
  pub paths : new.paths ≡ old.paths
