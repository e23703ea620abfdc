-- What is known of a module without faults over good files that lead as deep as they are.
use Rattle.std.proofs.Common.{◌≡◌, ℕ, List, [], ◌∷◌, ◌++◌, Option, Some}
use Rattle.unit_grammar.specs.Units.{ModuleUnits, UnitTree}
use Rattle.tla_model.specs.Entities.{Meaning}
use Rattle.tla_model.specs.Tables.{Named}
use Rattle.module_model.specs.Modules.{text_of}
use Rattle.module_model.specs.Resolution.{words_of}
use Rattle.kind_text.specs.FlatModule.{FlatModule}
use Rattle.tree_kinds.specs.Standing.{Outside}
use Rattle.module_kinds.specs.ModuleKinds.{first}
use Rattle.flat_trees.specs.Stands.{Stand}
use Rattle.flat_kinds.specs.Declarations.{AreUnitsDeclared, Declarations}
use Rattle.flattened_trees.specs.Leads.{FlatFace}
use Rattle.given_modules.specs.Passed.{Behinds}
use Rattle.given_modules.specs.Good.{AreGoodFiles, IsFaultless}
use Rattle.given_modules.specs.Passed.{GivenDepths}
use Rattle.given_modules.specs.Passed.{AreOwnApart, IsOfNone, IsOfOthers, with_own_depths}
use Rattle.given_modules.proofs.Passed.{file-kept, gives-own, symbols-kept}
use Rattle.arranged_modules.specs.Files.{AreDeepFiles}
use Rattle.arranged_modules.proofs.Along.{IsKnownDeep}
use Rattle.given_modules.proofs.Others.{brought-others}

-- with the depths of its own names, where no two units have the same and no other module has any
pub known-deep : (flat : FlatModule) (declares : Declarations) (behinds : Behinds) (given : GivenDepths) (inside : List ℕ → Named → Stand) (files : List ℕ → FlatFace) (outsides : List ℕ → Outside) (name bytes : List ℕ) (units : ModuleUnits)
    → AreGoodFiles flat declares behinds (text_of bytes units).file files outsides → AreDeepFiles flat declares given inside (text_of bytes units).file files outsides → IsFaultless declares outsides name bytes units → AreUnitsDeclared declares (text_of bytes units) units.units
    → AreOwnApart (text_of bytes units) outsides (words_of units) (first outsides bytes units) units.units
    → ((m : Meaning) → IsOfOthers (text_of bytes units).file m → IsOfNone (text_of bytes units) outsides (words_of units) (first outsides bytes units) units.units m)
    → IsKnownDeep flat files outsides name bytes units declares inside (with_own_depths outsides bytes units given)
known-deep flat declares behinds given inside files outsides name bytes units good deep faultless names apart others = record {
  front = faultless.front;
  foreign = good.foreign;
  declared = λ title. (good.each title).given.names.entries;
  names = names;
  each = deep.each;
  give = λ title. file-kept given outsides bytes units (outsides title) (deep.gives title) (λ m used is. others m (brought-others (text_of bytes units).file (outsides title).view m used (deep.others title) is));
  symbols = symbols-kept given outsides bytes units declares (λ title. (good.each title).given.names.entries) names deep.plain;
  own = λ before unit behind split has. gives-own given outsides bytes units before unit behind split apart has;
}
