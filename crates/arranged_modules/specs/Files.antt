-- What is asked of the files that a module names so that it is arranged: their names lead to what is as deep as they are outside of them,
-- and that is how deep their declarations are.
use Rattle.std.specs.Prelude.{◌≡◌, ℕ, List, [], ◌∷◌, Some}
use Rattle.tla_model.specs.Entities.{Meaning}
use Rattle.tla_model.specs.Tables.{Named}
use Rattle.module_model.specs.Exports.{behind_instance, entry_of, onward}
use Rattle.kind_text.specs.FlatModule.{FlatModule}
use Rattle.tree_kinds.specs.Standing.{Outside}
use Rattle.flat_trees.specs.Stands.{Stand}
use Rattle.flat_depths.specs.Depths.{IsDeepModule}
use Rattle.flat_kinds.specs.Declarations.{Declarations}
use Rattle.flattened_trees.specs.Agreeing.{TakesBehind, lead_by}
use Rattle.flattened_trees.specs.Leads.{FlatFace}
use Rattle.flattened_depths.specs.Rounds.{TakesParameters}
use Rattle.given_modules.specs.Passed.{AreSymbolsPlain, GivenDepths, IsGivenOutside}
use Rattle.given_modules.specs.Others.{BringsOthers}

-- the names of a module lead where these stand, as deep as outside of it, and take what it has behind an instance
pub record IsDeepFace (flat : FlatModule) (inner : Named → Stand) (face : FlatFace) (outside : Outside) : Type 0 where
  pub leads : (name : Named) (names : List Named) → face.leads (name ∷ names) ≡ lead_by (inner name) names
  pub deep : IsDeepModule flat inner outside
  pub parameters : (name : Named) → TakesParameters flat (inner name)
  pub takes : (name : Named) (next : Meaning) → entry_of (behind_instance outside.view []) name ≡ Some next → TakesBehind (inner name) (onward (behind_instance outside.view) name) next

-- all files are so to the module of this title: their names lead where these stand, and are as deep as is given; none is of that module; and
-- symbols have no depth
pub record AreDeepFiles (flat : FlatModule) (declares : Declarations) (given : GivenDepths) (inside : List ℕ → Named → Stand) (title : List ℕ) (files : List ℕ → FlatFace) (outsides : List ℕ → Outside) : Type 0 where
  pub each : (name : List ℕ) → IsDeepFace flat (inside name) (files name) (outsides name)
  pub gives : (name : List ℕ) → IsGivenOutside given (outsides name)
  pub others : (name : List ℕ) → BringsOthers title (outsides name)
  pub plain : AreSymbolsPlain declares given
