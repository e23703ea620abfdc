-- When a version of a module is the one that is asked for, and what is said of the next one.
use Rattle.std.specs.Prelude.{◌≡◌, ◌<◌, ◌+◌, ◌↔◌, ℕ, Bool, true, false, List, Contains, Option, Some, None, IfSome, IsSome, IsTrue, is_some, nat_eq, if◌then◌else◌}
use Rattle.std.specs.List.{AllZip, list_any}
use Rattle.tla_tree.specs.declared.unit.ModuleTree.{ModuleTree}
use Rattle.index_graph.specs.Leading.{LeadsBack}
use Rattle.family_facts.specs.Family.{Member}
use Rattle.exact_faces.specs.Exact.{IsExact}
use Rattle.face_views.specs.Same.{IsSameFace}
use Rattle.kind_text.specs.FlatModule.{Extends, FlatModule}
use Rattle.module_model.specs.declared.face.Face.{Face}
use Rattle.module_model.specs.Exports.{face_outside}
use Rattle.module_model.specs.Given.{IsWhole}
use Rattle.written_trees.specs.Leading.{face_in}
use Rattle.family_tables.specs.Agreement.{IsAgreed, accepted_face}
use Rattle.family_tables.specs.Modules.{Entry}
use Rattle.family_tables.specs.Plans as plans
use Rattle.family_tables.specs.Plans.{IsPlan}
use Rattle.family_tables.specs.Tables.{entry_of}
use Rattle.family_tables.specs.declared.order.Plan.{Plan}
use Rattle.family_tables.specs.declared.outcome.Outcome.{Outcome}
use Rattle.family_tables.specs.declared.outcome.Outcome.TheVariants as outcome
use Rattle.family_tables.specs.declared.reading.Module.{Module}
use Rattle.family_tables.specs.declared.reading.Reading.TheVariants as reading
use Rattle.leveled_modules.specs.Leveled.{LevelTables}
use Rattle.family_levels.specs.declared.«module».Found.{Found}
use Rattle.family_levels.specs.declared.versions.Need.{Need}
use Rattle.family_levels.specs.declared.versions.Need.TheVariants as need_as
use Rattle.family_levels.specs.declared.versions.Version.{Version}
use Rattle.family_tables.specs.declared.reading.Reading.{Reading}
use Rattle.family_tables.specs.Outcomes.{IsMember, faults_of}
use Rattle.family_levels.specs.Exactness.{IsExactOutcome}
use Rattle.family_levels.specs.Leveling.{HasNumber, IsNext, IsReady, face_count, faces_of}
use Rattle.family_levels.specs.Versions.{AreNeedsTold, AreVersions, Grows, IsCopy, IsFoundOver, IsVersion, Over, Shown, shown_by}

-- the number of a version that was accepted
abbrev pub version_by : Option Version → Option ℕ
version_by None = None
version_by (Some version) = if is_some version.found.number then Some version.id else None

-- what a need is by whether it leads back, by its outcome, and by the number of its version
abbrev pub need_by : Bool → Option Outcome → Option ℕ → Option Need
need_by true found id = Some need_as.Cyclic
need_by false None id = Some need_as.Unknown
need_by false (Some (outcome.Refused faults)) id = Some need_as.Refused
need_by false (Some (outcome.Accepted face)) None = None
need_by false (Some (outcome.Accepted face)) (Some id) = Some (need_as.Version id)

-- a need is this
pub record IsNeed (plan : Plan) (outcomes : List (List ℕ × Outcome)) (versions : List (List ℕ × Version)) (name need : List ℕ) (is : Need) : Type 0 where
  pub cyclic : Bool
  pub exactly : (modules : List Entry) → IsPlan modules plan → plans.Needs modules name need → IsTrue cyclic ↔ LeadsBack (plans.Needs modules) name need
  pub itself : need_by cyclic (entry_of outcomes need) (version_by (entry_of versions need)) ≡ Some is

-- so are all needs, in their order
abbrev pub AreNeeds : Plan → List (List ℕ × Outcome) → List (List ℕ × Version) → List ℕ → List (List ℕ) → List Need → Type 0
AreNeeds plan outcomes versions name needs are = AllZip (IsNeed plan outcomes versions name) needs are

-- a version is that of a tree over needs that are these
pub record IsVersionOf (version : Version) (tree : ModuleTree) (needs : List Need) : Type 0 where
  pub same : version.tree.source ≡ tree.source
  pub over : version.needs ≡ needs

-- it is the same version
pub record IsSameVersion (version copy : Version) : Type 0 where
  pub tree : copy.tree ≡ version.tree
  pub needs : copy.needs ≡ version.needs
  pub id : copy.id ≡ version.id
  pub found : IsCopy version.found copy.found

-- a version of a module was found before, over needs that are these
pub record IsFoundAgain (old : List (List ℕ × Version)) (name : List ℕ) («module» : Module) (needs : Option (List Need)) (version : Version) : Type 0 where
  pub tree : ModuleTree
  pub reads : «module».reading ≡ reading.Tree tree
  pub needed : List Need
  pub over : needs ≡ Some needed
  pub there : entry_of old name ≡ Some version
  pub is : IsVersionOf version tree needed

-- these modules need all that is needed
abbrev pub NeedAll : List Entry → List ℕ → List (List ℕ) → Type 0
NeedAll modules name needs = (need : List ℕ) → Contains needs need → plans.Needs modules name need

-- the version of a module is current: it is that of its text, and what it was found over is what its needs are
pub record IsCurrent (plan : Plan) (old versions : List (List ℕ × Version)) (outcomes : List (List ℕ × Outcome)) (name : List ℕ) («module» : Module) : Type 0 where
  pub tree : ModuleTree
  pub reads : «module».reading ≡ reading.Tree tree
  pub version : Version
  pub there : entry_of old name ≡ Some version
  pub same : version.tree.source ≡ tree.source
  pub needed : AreNeeds plan outcomes versions name «module».needs version.needs

-- a version of a module has just been found
pub record IsVersionAnew («module» : Module) (needs : Option (List Need)) (id : ℕ) (found : Found) (version : Version) : Type 0 where
  pub reads : «module».reading ≡ reading.Tree version.tree
  pub over : needs ≡ Some version.needs
  pub itself : version.id ≡ id
  pub copy : IsCopy found version.found

-- ---- in the place of a version

-- a version was to others what a module is of which this was found, in all that a flat module becomes
pub record IsLike (known : LevelTables) (version : Version) (found : Found) : Type 0 where
  pub face : Face
  pub before : Face
  pub number : ℕ
  pub was : ℕ
  pub face_is : accepted_face (Some found.outcome) ≡ Some face
  pub before_is : accepted_face (Some version.found.outcome) ≡ Some before
  pub number_is : found.number ≡ Some number
  pub was_is : version.found.number ≡ Some was
  pub same : IsSameFace before face
  pub alike : (more : FlatModule) → Extends known.tables.state.flat more → face_in more (faces_of known was) ≡ face_in more (faces_of known number)

-- a version was to others what a module is of which this was found: both have exact faces, which are the same to names, and which lead to the
-- same resolved trees
pub record IsSameTo (known : LevelTables) (version : Version) (found : Found) : Type 0 where
  pub face : Face
  pub before : Face
  pub number : ℕ
  pub was : ℕ
  pub face_is : accepted_face (Some found.outcome) ≡ Some face
  pub before_is : accepted_face (Some version.found.outcome) ≡ Some before
  pub number_is : found.number ≡ Some number
  pub was_is : version.found.number ≡ Some was
  pub exact : IsExact face
  pub exact_before : IsExact before
  pub whole : IsWhole face
  pub whole_before : IsWhole before
  pub named : before.«module» ≡ face.«module»
  pub view : face_outside before ≡ face_outside face
  pub trees : face_in known.tables.state.flat (faces_of known was) ≡ face_in known.tables.state.flat (faces_of known number)

-- this was found, with the face and the number of a version
pub record IsFoundAs (version : Version) (found taken : Found) : Type 0 where
  pub faults : faults_of (Some taken.outcome) ≡ faults_of (Some version.found.outcome)
  pub face : accepted_face (Some taken.outcome) ≡ accepted_face (Some version.found.outcome)
  pub number : taken.number ≡ version.found.number
  pub names : taken.names ≡ found.names

-- a version in the place of one before, of which this was found
pub record IsVersionAs (before anew : Version) (taken : Found) (version : Version) : Type 0 where
  pub tree : version.tree ≡ anew.tree
  pub needs : version.needs ≡ anew.needs
  pub id : version.id ≡ before.id
  pub copy : IsCopy taken version.found

-- whether a number is among these
abbrev pub has_id : List ℕ → ℕ → Bool
has_id ids id = list_any (nat_eq id) ids

-- all numbers of some are among these
abbrev pub HasMoreIds : List ℕ → List ℕ → Type 0
HasMoreIds new old = (id : ℕ) → has_id old id ≡ true → has_id new id ≡ true

-- the numbers of all versions among needs are among these
abbrev pub HasIdsOf : List Need → List ℕ → Type 0
HasIdsOf needs ids = (id : ℕ) → Contains needs (need_as.Version id) → has_id ids id ≡ true

-- the numbers of all versions are among these that one of some is over
abbrev pub AreIdsNeeded : List (List ℕ × Version) → List ℕ → Type 0
AreIdsNeeded versions ids = (name : List ℕ) (version : Version) → entry_of versions name ≡ Some version → HasIdsOf version.needs ids

-- the number of the version before stays: one is over it, and it was to others what the module is of which this was found
pub record Stays (old : List (List ℕ × Version)) (needed : List ℕ) (name : List ℕ) (known : LevelTables) (found : Found) (id : ℕ) : Type 0 where
  pub before : Version
  pub there : entry_of old name ≡ Some before
  pub itself : before.id ≡ id
  pub over : has_id needed id ≡ true
  pub same : IsSameTo known before found

-- what was found of a module, with its version: as they are, or in the place of the version before
pub data IsInPlace (old : List (List ℕ × Version)) (name : List ℕ) (known : LevelTables) (found : Found) (anew : Version) (taken : Found) (version : Version) : Type 0 where
  Anew : taken ≡ found → version ≡ anew → IsInPlace old name known found anew taken version
  Taken : (before : Version) → entry_of old name ≡ Some before → IsLike known before found → IsFoundAs before found taken → IsVersionAs before anew taken version → IsInPlace old name known found anew taken version

-- ---- what is kept

-- with what is kept under the next number
abbrev pub shown_with : (ℕ → Option Shown) → ℕ → Option Shown → ℕ → Option Shown
shown_with shown next own id = if nat_eq id next then own else shown id

-- behind a module of which this was found
abbrev pub shown_after : (ℕ → Option Shown) → ℕ → Found → ℕ → Option Shown
shown_after shown next found = shown_with shown next (shown_by found.outcome found.number)

-- of a version that is accepted that is kept which was found of its module
pub record IsPlaced (outcome : Option Outcome) (number : Option ℕ) (own : Option Shown) : Type 0 where
  pub shown : Shown
  pub is : own ≡ Some shown
  pub face : accepted_face outcome ≡ Some shown.face
  pub at : number ≡ Some shown.number

-- one of these versions has a number below the next one, and is so
pub record IsPlacedVersion (outcomes : List (List ℕ × Outcome)) (numbers : List (List ℕ × ℕ)) (shown : ℕ → Option Shown) (next : ℕ) (name : List ℕ) (version : Version) : Type 0 where
  pub below : version.id < next
  pub is : IsSome version.found.number → IsPlaced (entry_of outcomes name) (entry_of numbers name) (shown version.id)

-- so are all of these
abbrev pub ArePlaced : List (List ℕ × Outcome) → List (List ℕ × ℕ) → (ℕ → Option Shown) → ℕ → List (List ℕ × Version) → Type 0
ArePlaced outcomes numbers shown next versions = (name : List ℕ) (version : Version) → entry_of versions name ≡ Some version → IsPlacedVersion outcomes numbers shown next name version

-- ---- the next module

-- the face of the next module goes with those before it and is exact, it has the number of a face, and its version is what was found of it
pub record IsPlacedNext (outcomes : List (List ℕ × Outcome)) (shown : ℕ → Option Shown) (next : ℕ) (name : List ℕ) (known : LevelTables) (found : Found) (version : Option Version) : Type 0 where
  pub agreed : IsAgreed outcomes name found.outcome
  pub exact : IsExactOutcome found.outcome
  pub number : IfSome found.number (λ number. number < face_count known)
  pub below : IfSome version (λ v. v.id < next + 1)
  pub placed : IfSome version (λ v. IsSome v.found.number → IsPlaced (Some found.outcome) found.number (shown_after shown next found v.id))

-- what is found of the next module is what the texts give, and its version is one of those
pub record IsNextLeveled (family : List Member) (outcomes : List (List ℕ × Outcome)) (numbers : List (List ℕ × ℕ)) (shown : ℕ → Option Shown) (next : ℕ) (name : List ℕ) (known : LevelTables) (found : Found) (version : Option Version) : Type 0 where
  pub is : IsNext family outcomes numbers name known found
  pub held : IfSome version (IsVersion known (shown_after shown next found) (next + 1) name)

-- this is found of the next module by a check, over those before it: of whatever family they are
pub record IsFoundNext (plan : Plan) (outcomes : List (List ℕ × Outcome)) (numbers : List (List ℕ × ℕ)) (name : List ℕ) (read : Reading) (needs : List (List ℕ)) (known new : LevelTables) (found : Found) : Type 0 where
  pub number : IfSome found.number (λ number. number < face_count new)
  pub numbered : HasNumber found.outcome found.number
  pub agreed : IsAgreed outcomes name found.outcome
  pub grows : Grows known new
  pub next : (family : List Member) → IsReady family plan outcomes numbers known name → IsMember family name read needs → IsNext family outcomes numbers name new found
  pub so :
      (family : List Member) (over : Over) (tree : ModuleTree) → IsReady family plan outcomes numbers known name → IsMember family name read needs → read ≡ reading.Tree tree
      → AreNeedsTold family outcomes numbers name needs over → IsFoundOver new over (shown_by found.outcome found.number) name tree found

-- this is made of the next module, by its version or by a check: whatever is kept of those before it, and of whatever family they are
pub record IsMadeNext (plan : Plan) (old versions : List (List ℕ × Version)) (outcomes : List (List ℕ × Outcome)) (numbers : List (List ℕ × ℕ)) (next : ℕ) (name : List ℕ) («module» : Module) (known new : LevelTables) (found : Found) (version : Option Version) : Type 0 where
  pub grows : Grows known new
  pub placed : (shown : ℕ → Option Shown) → AreVersions known shown next old → ArePlaced outcomes numbers shown next versions → IsPlacedNext outcomes shown next name new found version
  pub leveled :
      (family : List Member) (shown : ℕ → Option Shown) → AreVersions known shown next old → ArePlaced outcomes numbers shown next versions → IsReady family plan outcomes numbers known name → IsMember family name «module».reading «module».needs
      → IsNextLeveled family outcomes numbers shown next name new found version
