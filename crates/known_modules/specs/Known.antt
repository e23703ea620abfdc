-- What is known of the modules of a family, one after another: of each its names, what these give and how deep they are, with the face that
-- a flat module has for it.
use Rattle.std.specs.Prelude.{◌≡◌, ℕ, List, [], None}
use Rattle.unit_grammar.specs.Units.{ModuleUnits}
use Rattle.tla_model.specs.Entities.{Meaning}
use Rattle.tla_model.specs.Scopes.{Finding}
use Rattle.tla_model.specs.Tables.{Named}
use Rattle.module_model.specs.Modules.{text_of}
use Rattle.module_model.specs.Resolution.{findings, words_of}
use Rattle.kind_text.specs.ExpandedKind.{Given}
use Rattle.kind_text.specs.FlatModule.{FlatModule, IsOrdered}
use Rattle.tree_kinds.specs.Standing.{Outside}
use Rattle.module_kinds.specs.ModuleKinds.{last, outside, views}
use Rattle.flat_trees.specs.Instances.{symbols_of}
use Rattle.flat_trees.specs.Stands.{Stand}
use Rattle.flat_kinds.specs.Declarations.{Declarations}
use Rattle.flat_kinds.specs.Yields.{IsYielding, Yields}
use Rattle.steady_kinds.specs.Steady.{IsOpen, IsSteady}
use Rattle.flattened_trees.specs.Leads.{FlatFace}
use Rattle.flattened_trees.specs.Questions.{Question}
use Rattle.arranged_modules.specs.Passed.{IsModuleMade}
use Rattle.arranged_modules.specs.Passed.{implied_by, means_by}
use Rattle.arranged_modules.specs.Passed.{Behinds, IsForeignView, with_own}
use Rattle.arranged_modules.specs.Passed.{IsFaultless, IsGoodFile}
use Rattle.arranged_modules.specs.Passed.{BringsOthers}
use Rattle.arranged_modules.specs.Passed.{with_own_yields}
use Rattle.arranged_modules.specs.Passed.{GivenDepths, IsGivenOutside, no_reach}
pub use Rattle.arranged_modules.specs.Passed.{AreSymbolsPlain, Reader, face_of}
use Rattle.arranged_modules.specs.Passed.{with_own_depths}
pub use Rattle.arranged_modules.specs.Files.{IsDeepFace}

-- what is known of declarations: what stands behind each, what it yields, and how deep it is
pub record Knowledge : Type 0 where
  pub behinds : Behinds
  pub yields : Yields
  pub depths : GivenDepths

-- nothing stands behind them, and they have no depth
abbrev pub no_knowledge : Knowledge
no_knowledge = record {
  behinds = λ decl path. [];
  yields = λ decl via parameters arguments path. Given None;
  depths = λ decl via path. no_reach;
}

-- with what is known of those of a module in the end
abbrev pub with_own_knowledge : Declarations → (List ℕ → Outside) → List ℕ → ModuleUnits → Knowledge → Knowledge
with_own_knowledge declares outsides bytes units knowledge = record {
  behinds = with_own (text_of bytes units).file (last outsides bytes units).read.known knowledge.behinds;
  yields = with_own_yields declares (text_of bytes units).file (last outsides bytes units) knowledge.yields;
  depths = with_own_depths outsides bytes units knowledge.depths;
}

-- a file is known, with its face: it is good, its names yield what is known and are as deep, what it gives depends on names alone that are
-- no definitions, and its face leads where its names stand
pub record IsKnownFile (declares : Declarations) (flat : FlatModule) (knowledge : Knowledge) (face : FlatFace) (file : Outside) : Type 0 where
  pub good : IsGoodFile flat declares knowledge.behinds face file
  pub yielding : IsYielding knowledge.yields file
  pub steady : IsSteady (IsOpen declares) file
  pub inner : Named → Stand
  pub deep : IsDeepFace flat inner face file
  pub given : IsGivenOutside knowledge.depths file

-- all files are known, and what is no definition has no depth
pub record AreKnownFiles (declares : Declarations) (flat : FlatModule) (knowledge : Knowledge) (files : List ℕ → FlatFace) (outsides : List ℕ → Outside) : Type 0 where
  pub each : (title : List ℕ) → IsKnownFile declares flat knowledge (files title) (outsides title)
  pub plain : AreSymbolsPlain declares knowledge.depths

-- no name of a file is declared in the module of this title, or came through an INSTANCE of it
abbrev pub IsForeignTo : List ℕ → Outside → Type 0
IsForeignTo title file = IsForeignView title file.view × BringsOthers title file

-- what is found of names in a module over these files
abbrev pub found_over : (List ℕ → Outside) → List ℕ → ModuleUnits → List Finding
found_over outsides bytes units = findings (views (text_of bytes units) outsides (words_of units)) bytes units

-- a module without faults comes in a flat module, over files that are known and have none of its names: with its symbols in their order, up
-- to this reader, and with what is asked of it
pub record IsMadeOver (declares : Declarations) (flat : FlatModule) (knowledge : Knowledge) (files : List ℕ → FlatFace) (outsides : List ℕ → Outside) (name bytes : List ℕ) (units : ModuleUnits) (symbols : List Meaning) (final : Reader) (asked : List Question) : Type 0 where
  pub made : IsModuleMade flat (means_by (found_over outsides bytes units)) (implied_by (found_over outsides bytes units)) files outsides bytes units symbols final asked
  pub ordered : IsOrdered flat
  pub known : AreKnownFiles declares flat knowledge files outsides
  pub foreign : (title : List ℕ) → IsForeignTo (text_of bytes units).file (outsides title)
  pub faultless : IsFaultless declares outsides name bytes units
  pub same : symbols ≡ symbols_of (outside outsides bytes units)
