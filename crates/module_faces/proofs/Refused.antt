-- The face of a module that is not accepted holds all that its exports reach, over any imports.
use Rattle.std.proofs.Common.{◌≡◌, ℕ, List, Option, Some, None, ap}
use Rattle.tla_model.specs.declared.ids.DeclId.{DeclId}
use Rattle.tla_model.specs.declared.names.Meaning.TheVariants.{Declared}
use Rattle.tla_model.specs.Entities.{Meaning}
use Rattle.tla_model.specs.Tables.{Named}
use Rattle.module_model.specs.declared.face.Face.{Face}
use Rattle.module_model.specs.Exports.{Exports, entry_of, face_exports, face_instances, instances_in}
use Rattle.module_model.specs.Given.{IsFaceOver, IsWhole}
use Rattle.module_model.specs.Imports.{Imports}
use Rattle.module_faces.specs.Faces.{IsRefusedFace}

none-some : {A : Type 0} (o : Option A) (x : A) → o ≡ None → o ≡ Some x → ⊥
none-some None x none some = cc
none-some (Some y) x none some = cc

module _ (title : List ℕ) (face : Face) (is : IsRefusedFace title face) where
  -- it reaches no instance
  no-instance : (decl : DeclId) (entries : Exports) → face_instances face decl ≡ Some entries → ⊥
  no-instance decl entries some = none-some (face_instances face decl) entries (ap (λ parts. instances_in parts decl) is.parts) some

  -- and exports nothing
  no-entry : (name : Named) (meaning : Meaning) → entry_of (face_exports face) name ≡ Some meaning → ⊥
  no-entry name meaning some = none-some (entry_of (face_exports face) name) meaning (ap (λ entries. entry_of entries name) is.exports) some

  refused-whole : IsWhole face
  refused-whole = record {
    exports = λ name entity callee there instance. absurd (no-entry name (Declared entity callee) there);
    behind = λ decl entries there. absurd (no-instance decl entries there);
  }

  pub refused-over : (imports : Imports) → IsFaceOver imports title face
  refused-over imports = record {
    named = is.named;
    whole = refused-whole;
    from = λ decl entries there. absurd (no-instance decl entries there);
  }
