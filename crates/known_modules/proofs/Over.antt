-- Files that are known are what laws on one module ask for.
use Rattle.std.proofs.Common.{◌≡◌, ℕ, List, refl}
use Rattle.unit_grammar.specs.Units.{ModuleUnits}
use Rattle.tla_model.specs.declared.names.Meaning.TheVariants.{BuiltIn, Declared}
use Rattle.tla_model.specs.Entities.{Meaning}
use Rattle.tla_model.specs.Tables.{Named}
use Rattle.module_model.specs.Modules.{text_of}
use Rattle.kind_text.specs.FlatModule.{FlatModule}
use Rattle.tree_kinds.specs.Standing.{Outside}
use Rattle.flat_kinds.specs.Declarations.{Declarations, IsNoDefinition}
use Rattle.flattened_trees.specs.Leads.{FlatFace}
use Rattle.flattened_trees.specs.Questions.{Question}
use Rattle.arranged_modules.specs.Passed.{Reader}
use Rattle.arranged_modules.specs.Passed.{AreGoodFiles}
use Rattle.arranged_modules.specs.Passed.{declared_depth, no_reach}
use Rattle.arranged_modules.specs.Files.{AreDeepFiles}
use Rattle.known_modules.specs.Known.{IsMadeOver, Knowledge, no_knowledge}

module _ (declares : Declarations) (flat : FlatModule) (knowledge : Knowledge) (files : List ℕ → FlatFace) (outsides : List ℕ → Outside) (name bytes : List ℕ) (units : ModuleUnits) (symbols : List Meaning) (final : Reader) (asked : List Question)
    (is : IsMadeOver declares flat knowledge files outsides name bytes units symbols final asked) where
  -- they are good
  pub good-files : AreGoodFiles flat declares knowledge.behinds (text_of bytes units).file files outsides
  good-files = record { each = λ title. (is.known.each title).good; foreign = λ title. (is.foreign title).0 }

  -- they lead to what is as deep as they are
  pub deep-files : AreDeepFiles flat declares knowledge.depths (λ title. (is.known.each title).inner) (text_of bytes units).file files outsides
  deep-files = record { each = λ title. (is.known.each title).deep; gives = λ title. (is.known.each title).given; others = λ title. (is.foreign title).1; plain = is.known.plain }

-- where nothing is known nothing has a depth
pub nothing-plain : (declares : Declarations) (m : Meaning) → IsNoDefinition declares m → (path : List Named) → declared_depth no_knowledge.depths m path ≡ no_reach
nothing-plain declares BuiltIn none path = refl
nothing-plain declares (Declared e callee) none path = refl
