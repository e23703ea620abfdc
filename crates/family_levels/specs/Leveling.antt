-- What is kept of the modules of a family while levels are found in them, one after another.
use Rattle.std.specs.Prelude.{◌≡◌, ◌<◌, ◌≤◌, ◌++◌, ◌∷◌, ℕ, List, [], true, false, Option, Some, None, IsSome}
use Rattle.std.specs.Str.{bytes_eq}
use Rattle.fact_values.specs.Names.{Texts}
use Rattle.family_facts.specs.Family as families
use Rattle.family_facts.specs.Family.{AreMembersDistinct, Member, is_there}
use Rattle.family_facts.specs.Facts.{texts_of}
use Rattle.family_tables.specs.Modules.{Entry}
use Rattle.family_tables.specs.Outcomes.{Matches}
use Rattle.family_tables.specs.Plans as plans
use Rattle.family_tables.specs.Plans.{IsPlan}
use Rattle.family_tables.specs.Tables.{entry_of}
use Rattle.family_tables.specs.declared.order.Plan.{Plan}
use Rattle.family_tables.specs.declared.outcome.Outcome.{Outcome}
use Rattle.family_tables.specs.declared.outcome.Outcome.TheVariants as outcome
use Rattle.flattened_trees.specs.Leads.{FlatFace}
use Rattle.leveled_modules.specs.Leveled.{leading_in}
use Rattle.leveled_modules.specs.Leveled.{LevelTables}
use Rattle.leveled_facts.specs.Families.{declares, leveled}
use Rattle.alike_modules.specs.Known.{IsForeignTo, IsKnownFile, Knowledge}
use Rattle.alike_modules.specs.Known.{AreSymbolsPlain}
use Rattle.family_levels.specs.declared.«module».Found.{Found}
use Rattle.family_levels.specs.declared.names.Names.{Names}

-- the faces of modules, by their numbers
abbrev pub faces_of : LevelTables → ℕ → FlatFace
faces_of known = (leading_in known.tables.leads).faces

-- how many there are
abbrev pub face_count : LevelTables → ℕ
face_count known = (leading_in known.tables.leads).count

-- the numbers of modules are those of faces
abbrev pub AreNumbers : LevelTables → List (List ℕ × ℕ) → Type 0
AreNumbers known numbers = (name : List ℕ) (number : ℕ) → entry_of numbers name ≡ Some number → number < face_count known

-- there are more faces, and the first ones are the same
pub record KeepsFaces (old new : LevelTables) : Type 0 where
  pub count : face_count old ≤ face_count new
  pub faces : (number : ℕ) → number < face_count old → faces_of new number ≡ faces_of old number

-- an accepted module has a number, and another one has none
abbrev pub HasNumber : Outcome → Option ℕ → Type 0
HasNumber (outcome.Refused faults) number = number ≡ None
HasNumber (outcome.Accepted face) number = IsSome number

-- an outcome says what is found of a module
abbrev pub Says : Texts → List ℕ → Outcome → Type 0
Says texts name outcome = Matches (leveled texts name).faults (leveled texts name).outside.view outcome

-- ---- modules so far

-- of each module so far the outcome says what is found of it; those that are accepted are known by their numbers, and have no name of a module
-- that is still to come
pub record AreLeveled (family : List Member) (outcomes : List (List ℕ × Outcome)) (numbers : List (List ℕ × ℕ)) (known : LevelTables) : Type 0 where
  pub there : (name : List ℕ) (outcome : Outcome) → entry_of outcomes name ≡ Some outcome → is_there family name ≡ true
  pub says : (name : List ℕ) (outcome : Outcome) → entry_of outcomes name ≡ Some outcome → Says (texts_of family) name outcome
  pub numbered : (name : List ℕ) (outcome : Outcome) → entry_of outcomes name ≡ Some outcome → HasNumber outcome (entry_of numbers name)
  pub only : (name : List ℕ) → entry_of outcomes name ≡ None → entry_of numbers name ≡ None
  pub knowledge : Knowledge
  pub plain : AreSymbolsPlain (declares (texts_of family)) knowledge.depths
  pub files :
      (name : List ℕ) (number : ℕ) → entry_of numbers name ≡ Some number
      → IsKnownFile (declares (texts_of family)) known.tables.state.flat knowledge (faces_of known number) (leveled (texts_of family) name).outside
  pub foreign : (title name : List ℕ) (number : ℕ) → entry_of outcomes title ≡ None → entry_of numbers name ≡ Some number → IsForeignTo title (leveled (texts_of family) name).outside

-- all that is known where a module is checked
pub record IsReady (family : List Member) (plan : Plan) (outcomes : List (List ℕ × Outcome)) (numbers : List (List ℕ × ℕ)) (known : LevelTables) (name : List ℕ) : Type 0 where
  pub distinct : AreMembersDistinct family
  pub entries : List Entry
  pub planned : IsPlan entries plan
  pub own : (other need : List ℕ) → plans.Needs entries other need → families.Needs family other need
  pub all : (other need : List ℕ) → families.Needs family other need → plans.Needs entries other need
  pub before : (need : List ℕ) → families.Needs family name need → (families.IsCyclic family name need → ⊥) → is_there family need ≡ true → IsSome (entry_of outcomes need)
  pub leveled_so : AreLeveled family outcomes numbers known

-- ---- one more

-- the names of a module: its uses, with their levels where it is accepted, and its declarations
abbrev pub names_on : Texts → List ℕ → Names
names_on texts name = record { uses = (leveled texts name).uses; decls = (leveled texts name).decls }

-- this is found of the next module, and the modules so far stay known with it
pub record IsNext (family : List Member) (outcomes : List (List ℕ × Outcome)) (numbers : List (List ℕ × ℕ)) (name : List ℕ) (known : LevelTables) (found : Found) : Type 0 where
  pub there : is_there family name ≡ true
  pub says : Says (texts_of family) name found.outcome
  pub numbered : HasNumber found.outcome found.number
  pub names : found.names ≡ names_on (texts_of family) name
  pub knowledge : Knowledge
  pub plain : AreSymbolsPlain (declares (texts_of family)) knowledge.depths
  pub others :
      (other : List ℕ) (number : ℕ) → entry_of numbers other ≡ Some number
      → IsKnownFile (declares (texts_of family)) known.tables.state.flat knowledge (faces_of known number) (leveled (texts_of family) other).outside
  pub itself :
      (number : ℕ) → found.number ≡ Some number → IsKnownFile (declares (texts_of family)) known.tables.state.flat knowledge (faces_of known number) (leveled (texts_of family) name).outside
  pub foreign :
      (title : List ℕ) (number : ℕ) → entry_of outcomes title ≡ None → bytes_eq name title ≡ false → found.number ≡ Some number
      → IsForeignTo title (leveled (texts_of family) name).outside

-- items with that of one module more, if it has one
abbrev pub with_item : {T : Type 0} → List (List ℕ × T) → List ℕ → Option T → List (List ℕ × T)
with_item items name None = items
with_item items name (Some item) = items ++ (name, item) ∷ []

-- ---- all modules

-- each member of a family has an outcome that says what is found of it
abbrev pub AreOutcomes : List Member → List (List ℕ × Outcome) → Type 0
AreOutcomes family outcomes = (name : List ℕ) → is_there family name ≡ true → (outcome : Outcome) × (entry_of outcomes name ≡ Some outcome) × Says (texts_of family) name outcome

-- and its names
abbrev pub AreNames : List Member → List (List ℕ × Names) → Type 0
AreNames family names = (name : List ℕ) → is_there family name ≡ true → entry_of names name ≡ Some (names_on (texts_of family) name)
