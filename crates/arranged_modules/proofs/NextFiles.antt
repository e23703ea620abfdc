-- Files that lead as deep as they are do so to the next module too, with one more.
use Rattle.std.proofs.Common.{ℕ, Bool, true, false, cond, List, ◌∷◌}
use Rattle.std.specs.Str.{bytes_eq}
use Rattle.tla_model.specs.Tables.{Named}
use Rattle.module_model.specs.Exports.{none_known}
use Rattle.kind_text.specs.FlatModule.{Extends, FlatModule, IsOrdered}
use Rattle.tree_kinds.specs.Standing.{Outside}
use Rattle.flat_trees.specs.Stands.{Stand}
use Rattle.flat_depths.proofs.Growing.{has-kept}
use Rattle.flat_kinds.specs.Declarations.{Declarations}
use Rattle.flattened_trees.specs.Leads.{FlatFace}
use Rattle.flattened_depths.proofs.Knowing.{takes-kept}
use Rattle.given_modules.specs.Passed.{IsFaceWithin}
use Rattle.given_modules.proofs.Passed.{names-within}
use Rattle.given_modules.specs.Good.{with_file}
use Rattle.given_modules.specs.Passed.{AreSymbolsPlain, GivenDepths, IsGivenOutside}
use Rattle.given_modules.specs.Others.{BringsOthers}
use Rattle.arranged_modules.specs.Files.{AreDeepFiles, IsDeepFace}

module _ (flat more : FlatModule) (extends : Extends flat more) (ordered : IsOrdered flat) where
  -- a file leads as deep as it is in a flat module that has more
  pub face-grows : (inner : Named → Stand) (face : FlatFace) (outside : Outside) → IsFaceWithin flat face → IsDeepFace flat inner face outside → IsDeepFace more inner face outside
  face-grows inner face outside there is =
      let within = names-within flat inner face.leads is.leads there in
      record {
        leads = is.leads;
        deep = λ name. has-kept flat more extends ordered (inner name) 0 (λ path. outside.depths (name ∷ path)) (within name) (is.deep name);
        parameters = λ name. takes-kept flat none_known more extends (inner name) (within name) (is.parameters name);
        takes = is.takes;
      }

  -- files do so to the next module
  pub next-deep : (declares : Declarations) (given own : GivenDepths) (inside : List ℕ → Named → Stand) (title next : List ℕ) (files : List ℕ → FlatFace) (outsides : List ℕ → Outside) (inner : Named → Stand) (face : FlatFace) (outside : Outside) → AreDeepFiles flat declares given inside title files outsides
      → ((name : List ℕ) → IsFaceWithin flat (files name)) → ((name : List ℕ) → IsGivenOutside own (outsides name)) → AreSymbolsPlain declares own → ((name : List ℕ) → BringsOthers next (outsides name)) → IsDeepFace more inner face outside → IsGivenOutside own outside → BringsOthers next outside
      → AreDeepFiles more declares own (with_file title inner inside) next (with_file title face files) (with_file title outside outsides)
  next-deep declares given own inside title next files outsides inner face outside is there gives plain others deep own-gives own-others = record {
    each = λ name. each name (bytes_eq name title);
    gives = λ name. given_by name (bytes_eq name title);
    others = λ name. others_by name (bytes_eq name title);
    plain = plain;
  }
    where
      each : (name : List ℕ) (b : Bool) → IsDeepFace more (cond b inner (inside name)) (cond b face (files name)) (cond b outside (outsides name))
      each name true = deep
      each name false = face-grows (inside name) (files name) (outsides name) (there name) (is.each name)

      given_by : (name : List ℕ) (b : Bool) → IsGivenOutside own (cond b outside (outsides name))
      given_by name true = own-gives
      given_by name false = gives name

      others_by : (name : List ℕ) (b : Bool) → BringsOthers next (cond b outside (outsides name))
      others_by name true = own-others
      others_by name false = others name
