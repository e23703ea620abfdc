-- Laws of crates below, together, as proofs here take them.
use Rattle.std.specs.Prelude.{◌≡◌, ℕ, false, List, [], ◌∷◌, Option, Contains}
use Rattle.std.specs.Str.{bytes_eq}
use Rattle.unit_grammar.specs.Units.{ModuleUnits}
use Rattle.front_laws.specs.Fronts.{IsFront, Fault, Tree}
use Rattle.tla_model.specs.declared.Diagnostic.{Diagnostic}
use Rattle.tla_model.specs.Entities.{Meaning}
use Rattle.module_model.specs.Bindings.{AreInOrder}
use Rattle.module_model.specs.Modules.{text_of}
use Rattle.kind_text.specs.FlatModule.{Extends, FlatModule, IsOrdered}
use Rattle.tree_kinds.specs.Standing.{Outside}
use Rattle.module_kinds.specs.ModuleKinds.{level_findings, nowhere, outside, too_deep}
use Rattle.flat_kinds.specs.Declarations.{Declarations, HasPlaces}
use Rattle.flattened_trees.specs.Answers.{deep_answers, level_answers}
use Rattle.flattened_trees.specs.Leads.{FlatFace}
use Rattle.flattened_trees.specs.Questions.{Question}
use Rattle.flattened_units.specs.Units.{IsModuleMade, Reader, no_face}
use Rattle.written_trees.specs.Leading.{face_in}
use Rattle.alike_modules.specs.Known.{face_of}
use Rattle.alike_modules.specs.Known.{AreSymbolsPlain}
use Rattle.alike_modules.specs.Known.{IsForeignTo, IsKnownFile, IsMadeOver, Knowledge, with_own_knowledge}
use Rattle.family_facts.specs.Facts.{texts_of}
use Rattle.family_facts.specs.Family.{AreMembersDistinct, Member, Needs}
use Rattle.module_facts.specs.Checks.{all_faults}
use Rattle.module_facts.specs.Ordered.{in_order}
use Rattle.leveled_facts.specs.Families.{IsStatus, declares, leveled}
use Rattle.leveled_facts.specs.Modules.{Status, Unknown, front_refused, import_status, leveled_by, outside_by}
use Rattle.alike_modules.specs.Alike.{AreFoundAlike}

-- laws on modules that are known, one after another
pub record KnownLaws : Type 0 where
  pub levels :
      (declares : Declarations) (flat : FlatModule) (knowledge : Knowledge) (files : List ℕ → FlatFace) (outsides : List ℕ → Outside) (name bytes : List ℕ) (units : ModuleUnits) (symbols : List Meaning) (last : Reader) (asked : List Question)
      → IsMadeOver declares flat knowledge files outsides name bytes units symbols last asked → level_answers flat asked ≡ level_findings outsides bytes units
  pub depths :
      (declares : Declarations) (flat : FlatModule) (knowledge : Knowledge) (files : List ℕ → FlatFace) (outsides : List ℕ → Outside) (name bytes : List ℕ) (units : ModuleUnits) (symbols : List Meaning) (last : Reader) (asked : List Question)
      → IsMadeOver declares flat knowledge files outsides name bytes units symbols last asked → deep_answers flat asked ≡ too_deep outsides bytes units
  pub itself :
      (declares : Declarations) (flat : FlatModule) (knowledge : Knowledge) (files : List ℕ → FlatFace) (outsides : List ℕ → Outside) (name bytes : List ℕ) (units : ModuleUnits) (symbols : List Meaning) (last : Reader) (asked : List Question)
      → IsMadeOver declares flat knowledge files outsides name bytes units symbols last asked
      → IsKnownFile declares flat (with_own_knowledge declares outsides bytes units knowledge) (face_of outsides bytes units last) (outside outsides bytes units)
  pub plain :
      (declares : Declarations) (flat : FlatModule) (knowledge : Knowledge) (files : List ℕ → FlatFace) (outsides : List ℕ → Outside) (name bytes : List ℕ) (units : ModuleUnits) (symbols : List Meaning) (last : Reader) (asked : List Question)
      → IsMadeOver declares flat knowledge files outsides name bytes units symbols last asked → AreSymbolsPlain declares (with_own_knowledge declares outsides bytes units knowledge).depths
  pub others :
      (declares : Declarations) (flat : FlatModule) (knowledge : Knowledge) (outsides : List ℕ → Outside) (bytes : List ℕ) (units : ModuleUnits) (face : FlatFace) (file : Outside)
      → IsKnownFile declares flat knowledge face file → IsForeignTo (text_of bytes units).file file → IsKnownFile declares flat (with_own_knowledge declares outsides bytes units knowledge) face file
  pub grows :
      (declares : Declarations) (flat more : FlatModule) (knowledge : Knowledge) (face : FlatFace) (file : Outside) → Extends flat more → IsOrdered flat
      → IsKnownFile declares flat knowledge face file → IsKnownFile declares more knowledge face file
  pub nothing : (declares : Declarations) (flat : FlatModule) (knowledge : Knowledge) → IsKnownFile declares flat knowledge no_face nowhere
  pub foreign :
      (outsides : List ℕ → Outside) (bytes next : List ℕ) (units : ModuleUnits) → ((title : List ℕ) → IsForeignTo next (outsides title))
      → bytes_eq (text_of bytes units).file next ≡ false → IsForeignTo next (outside outsides bytes units)
  pub foreign_nothing : (title : List ℕ) → IsForeignTo title nowhere

-- laws on what is found of members of families
pub record FamilyLaws : Type 0 where
  pub checked :
      (family : List Member) (member : Member) (found : ModuleUnits) (given : List ℕ → Status) → AreMembersDistinct family → Contains family member
      → IsFront member.name member.bytes (Tree found) → ((need : List ℕ) → Needs family member.name need → IsStatus family member.name need (given need))
      → ((need : List ℕ) → (Needs family member.name need → ⊥) → given need ≡ Unknown) → leveled (texts_of family) member.name ≡ leveled_by given member.bytes found
  pub front :
      (family : List Member) (member : Member) (fault : Diagnostic) → AreMembersDistinct family → Contains family member → IsFront member.name member.bytes (Fault fault)
      → leveled (texts_of family) member.name ≡ front_refused fault
  pub places :
      (family : List Member) (member : Member) (found : ModuleUnits) → AreMembersDistinct family → Contains family member → IsFront member.name member.bytes (Tree found)
      → HasPlaces (declares (texts_of family)) member.bytes found
  pub one_order : (all found : List Diagnostic) → AreInOrder all found → found ≡ in_order all
  pub none : (all : List Diagnostic) → AreInOrder all [] → all ≡ []

-- laws on modules over others that are to them what those before were
pub record AlikeLaws : Type 0 where
  pub known :
      (before declares : Declarations) (flat : FlatModule) (then knowledge : Knowledge) (face other : FlatFace) (was file : Outside) → IsKnownFile before flat then face was → IsKnownFile declares flat knowledge other file
      → face_in flat face ≡ face_in flat other → IsKnownFile declares flat knowledge face file
  pub views :
      (flat : FlatModule) (means : ℕ → Option Meaning) (implied : ℕ → List Meaning) (files : List ℕ → FlatFace) (outsides others : List ℕ → Outside) (source : List ℕ) (units : ModuleUnits) (symbols : List Meaning) (last : Reader) (asked : List Question)
      → ((name : List ℕ) → (outsides name).view ≡ (others name).view) → IsModuleMade flat means implied files outsides source units symbols last asked → IsModuleMade flat means implied files others source units symbols last asked
  pub found :
      (given others : List ℕ → Status) (before declares : Declarations) (flat : FlatModule) (then knowledge : Knowledge) (files : List ℕ → FlatFace) (name source : List ℕ) (units : ModuleUnits) (symbols : List Meaning) (last : Reader) (asked : List Question)
      → ((other : List ℕ) → import_status (given other) ≡ import_status (others other))
      → IsMadeOver before flat then files (λ other. outside_by (given other)) name source units symbols last asked
      → IsMadeOver declares flat knowledge files (λ other. outside_by (others other)) name source units symbols last asked
      → AreFoundAlike (leveled_by given source units) (leveled_by others source units)
  pub refused :
      (given others : List ℕ → Status) (source : List ℕ) (units : ModuleUnits) (fault : Diagnostic) (rest : List Diagnostic)
      → ((other : List ℕ) → import_status (given other) ≡ import_status (others other))
      → all_faults (λ other. import_status (given other)) source units ≡ fault ∷ rest
      → AreFoundAlike (leveled_by given source units) (leveled_by others source units)
  pub faces :
      (given others : List ℕ → Status) (before declares : Declarations) (flat : FlatModule) (then knowledge : Knowledge) (files : List ℕ → FlatFace) (name source : List ℕ) (units : ModuleUnits) (symbols : List Meaning) (last : Reader) (asked : List Question)
      → ((other : List ℕ) → (outside_by (given other)).view ≡ (outside_by (others other)).view)
      → IsMadeOver before flat then files (λ other. outside_by (given other)) name source units symbols last asked
      → IsMadeOver declares flat knowledge files (λ other. outside_by (others other)) name source units symbols last asked
      → face_of (λ other. outside_by (given other)) source units last ≡ face_of (λ other. outside_by (others other)) source units last
