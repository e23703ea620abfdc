-- What is found of the modules of a family, one after another.
use Rattle.std.specs.Prelude.{◌≡◌, ◌≢◌, ◌↔◌, ℕ, Bool, true, false, List, [], Option, Some, None, Contains, IsTrue, sum_by}
use Rattle.std.specs.Arc.{arc_value}
use Rattle.tla_model.specs.declared.Diagnostic.{Diagnostic}
use Rattle.module_model.specs.Exports.{ModuleView, face_outside}
use Rattle.module_model.specs.Imports.{Imports, import_of}
use Rattle.module_facts.specs.Checks.{ImportStatus, Unknown, Cyclic, Refused, Accepted}
use Rattle.index_graph.specs.Leading.{LeadsBack}
use Rattle.family_facts.specs.Family as families
use Rattle.family_facts.specs.Family.{Member}
use Rattle.family_tables.specs.Modules.{Entry, IsModule, IsReading, tree_count}
use Rattle.family_tables.specs.Plans as plans
use Rattle.family_facts.specs.Verdicts.{text_of}
use Rattle.family_tables.specs.Tables.{entry_of}
use Rattle.family_tables.specs.declared.reading.Module.{Module}
use Rattle.family_tables.specs.declared.reading.Reading.{Reading}
use Rattle.family_tables.specs.declared.outcome.Outcome.{Outcome}
use Rattle.family_facts.specs.declared.verdict.File.{File}
use Rattle.family_facts.specs.declared.verdict.Verdict.{Verdict}

-- an outcome says these faults, and what the module is to others where there are none
abbrev pub Matches : List Diagnostic → ModuleView → Outcome → Type 0
Matches faults outside (Outcome.Refused found) = (found ≡ faults) × (faults ≢ [])
Matches faults outside (Outcome.Accepted face) = (faults ≡ []) × (face_outside (arc_value face) ≡ outside)

-- ---- imports

-- nothing is imported but these modules
abbrev pub ImportsOnly : List (List ℕ) → Imports → Type 0
ImportsOnly needs imports = (need : List ℕ) → (Contains needs need → ⊥) → import_of imports need ≡ None

-- what a module is by whether it is the one that needs it or reaches it, and by its outcome, if it has one
abbrev pub status_by : Bool → Option Outcome → ImportStatus
status_by true outcome = Cyclic
status_by false None = Unknown
status_by false (Some (Outcome.Refused faults)) = Refused
status_by false (Some (Outcome.Accepted face)) = Accepted (face_outside (arc_value face))

-- a module is so to the one that needs it
pub record IsTold (IsCyclic : Type 0) (outcome : Option Outcome) (status : ImportStatus) : Type 0 where
  pub is_cyclic : Bool
  pub exactly : IsTrue is_cyclic ↔ IsCyclic
  pub is : status ≡ status_by is_cyclic outcome

-- so is the need of a name, by a plan of these modules
abbrev pub IsNeedTold : List Entry → List (List ℕ × Outcome) → List ℕ → List ℕ → ImportStatus → Type 0
IsNeedTold entries outcomes name need = IsTold (LeadsBack (plans.Needs entries) name need) (entry_of outcomes need)

-- ---- outcomes

-- a module that was read is the member of a name, and its needs are those of the name
pub record IsMember (family : List Member) (name : List ℕ) (reading : Reading) (needs : List (List ℕ)) : Type 0 where
  pub member : Member
  pub there : Contains family member
  pub named : member.name ≡ name
  pub is : IsReading name member.bytes reading
  pub own : (need : List ℕ) → Contains needs need → families.Needs family name need
  pub all : (need : List ℕ) → families.Needs family name need → Contains needs need

-- a name has some module
abbrev pub IsSomeModule : List ℕ → Module → Type 0
IsSomeModule name «module» = (bytes : List ℕ) × IsModule name bytes «module»

-- how many of these modules have a tree
abbrev pub trees_in : List Entry → ℕ
trees_in entries = sum_by (λ entry. tree_count entry.1.reading) entries

-- how many of the modules of a name have a tree, as far as it has a module
abbrev pub trees_of : Option Module → ℕ
trees_of None = 0
trees_of (Some «module») = tree_count «module».reading

-- ---- verdicts

-- the faults of a refused module; without an outcome, or accepted, it has none
abbrev pub faults_of : Option Outcome → List Diagnostic
faults_of (Some (Outcome.Refused faults)) = faults
faults_of _ = []

-- what is said of a file by its outcome
pub record IsSaid (outcomes : List (List ℕ × Outcome)) (file : File) (verdict : Verdict) : Type 0 where
  pub name : verdict.name ≡ file.name
  pub text : verdict.text ≡ text_of file.bytes
  pub faults : verdict.faults ≡ faults_of (entry_of outcomes file.name)
