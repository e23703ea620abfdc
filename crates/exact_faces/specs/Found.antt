-- Instances that are found, each with the table of what its module exports.
use Rattle.std.specs.Prelude.{◌≡◌, ◌++◌, ℕ, List, Option, None, Some, if◌then◌else◌, map, slice_get}
use Rattle.std.specs.Arc.{arc_value}
use Rattle.std.specs.Borrow.{Bor}
use Rattle.std.specs.Str.{bytes_eq}
use Rattle.std.specs.declared.sync.Arc.{Arc}
use Rattle.tla_model.specs.declared.ids.DeclId.{DeclId}
use Rattle.tla_model.specs.Entities.{Meaning, same_decl}
use Rattle.tla_model.specs.Tables.{Named, Table, lookup}
use Rattle.module_model.specs.Exports.{Exports, Instances, entry_of, face_exports, face_instances}
use Rattle.module_model.specs.Exports.{standing}
use Rattle.module_model.specs.Given.{AreReached}
use Rattle.module_model.specs.declared.face.Face.{Face}
use Rattle.exact_faces.specs.Exact.{IsReached}

-- instances by the declarations of their names, each with the table of what its module exports
abbrev pub Tables : Type 0
Tables = List (DeclId × Table Meaning)

-- the declaration at a place of a module's text
abbrev pub decl_of : List ℕ → ℕ → DeclId
decl_of title place = record { «module» = title; place = place }

-- instances as they are kept: by the name of the module whose text declares one, and by its place there
abbrev pub tables_of : {Z : Type 0} → List ((Bor (List ℕ) × ℕ) × Bor (Arc (Table Meaning) Z)) → Tables
tables_of entries = map (λ entry. (decl_of entry.0.0.now entry.0.1, arc_value entry.1.now)) entries

-- what the modules of instances export
abbrev pub told : Tables → Instances
told found decl = standing (lookup same_decl found decl)

-- the table of an instance, if its name is declared in the text of this module
abbrev pub of_text : List ℕ → Option (DeclId × Table Meaning) → Option (Table Meaning)
of_text title None = None
of_text title (Some entry) = if bytes_eq entry.0.«module» title then Some entry.1 else None

-- some were found, and then others
pub record HasMore (new old : Tables) : Type 0 where
  pub more : Tables
  pub is : new ≡ old ++ more

-- each entry is what is found under its name
abbrev pub AreOnce : Exports → Type 0
AreOnce entries = (index : ℕ) (entry : Named × Meaning) → slice_get entries index ≡ Some entry → entry_of entries entry.0 ≡ Some entry.1

-- what is found are instances of a face which its exports reach; in what their modules export no name stands twice
pub record AreFound (face : Face) (found : Instances) : Type 0 where
  pub stands : (decl : DeclId) (entries : Exports) → found decl ≡ Some entries → face_instances face decl ≡ Some entries
  pub reached : (decl : DeclId) (entries : Exports) → found decl ≡ Some entries → IsReached found (face_exports face) decl
  pub once : (decl : DeclId) (entries : Exports) → found decl ≡ Some entries → AreOnce entries

-- all instances are found which the exports of a face reach
pub record AreAllFound (face : Face) (found : Instances) : Type 0 where
  pub exports : AreReached found (face_exports face)
  pub behind : (decl : DeclId) (entries : Exports) → found decl ≡ Some entries → AreReached found entries
