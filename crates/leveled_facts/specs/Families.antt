-- What is found of each module of some texts, its levels and depths among it, as a function.
use Rattle.std.specs.Prelude.{◌≡◌, ◌≢◌, ℕ, Bool, true, false, List, [], ◌∷◌, Option, Some, None, if◌then◌else◌, length, map, slice_get, sum_by}
use Rattle.std.specs.FinMap.{get}
use Rattle.std.specs.Str.{bytes_eq}
use Rattle.tla_model.specs.declared.Diagnostic.{Diagnostic}
use Rattle.tla_model.specs.declared.entity.Entity.TheVariants as entity
use Rattle.tla_model.specs.declared.names.Binder.{Binder}
use Rattle.tla_model.specs.Entities.{Entity, declaring, name_of}
use Rattle.tla_model.specs.Tables.{Named, Word}
use Rattle.front_laws.specs.Fronts.{Front, Tree, Fault}
use Rattle.module_facts.specs.Checks.{unless_any}
use Rattle.fact_values.specs.Names.{Texts}
use Rattle.fact_values.specs.States as states
use Rattle.fact_values.specs.States.{State, no_text, broken, fact}
use Rattle.fact_values.specs.Values as values
use Rattle.family_facts.specs.Facts.{Own, needs_of, own_of, texts_of}
use Rattle.family_facts.specs.Family.{Member, IsCyclic, is_there}
use Rattle.family_facts.specs.Fronts.{front_of}
use Rattle.family_facts.specs.Verdicts.{family_of, text_of}
use Rattle.family_facts.specs.declared.verdict.File.{File}
use Rattle.family_facts.specs.declared.verdict.Verdict.{Verdict}
use Rattle.tree_kinds.specs.Standing.{Outside}
use Rattle.module_kinds.specs.ModuleKinds.{nowhere}
use Rattle.flat_kinds.specs.Declarations.{Declarations}
use Rattle.leveled_facts.specs.Modules.{Accepted, Cyclic, Leveled, Refused, Status, Unknown, front_refused, leveled_by}

-- a module with faults is refused
abbrev pub status_by_faults : List Diagnostic → Outside → Status
status_by_faults [] outside = Accepted outside
status_by_faults (fault ∷ faults) outside = Refused

-- what a module with this state is to one that needs it
abbrev pub status_by_state : State Leveled → Status
status_by_state no_text = Unknown
status_by_state states.cyclic = Cyclic
status_by_state broken = Refused
status_by_state (fact found) = status_by_faults found.faults found.outside

-- what the needs of a module are to it, under their names
abbrev pub status_by_states : List (List ℕ × State Leveled) → List ℕ → Status
status_by_states [] name = Unknown
status_by_states (need ∷ needs) name = if bytes_eq name need.0 then status_by_state need.1 else status_by_states needs name

-- the one front fault, or what is found by what the needs are
abbrev pub leveled_front : List ℕ → Front → (List ℕ → Status) → Leveled
leveled_front bytes (Tree found) given = leveled_by given bytes found
leveled_front bytes (Fault fault) given = front_refused fault

-- what is found of a text, by the states of its needs
abbrev pub fact_of : List ℕ → Own → List (List ℕ × State Leveled) → Leveled
fact_of name own given = leveled_front own.bytes own.front (status_by_states given)

-- the state of each name, by the states of its needs
abbrev pub state_of : Texts → List ℕ → State Leveled
state_of texts = values.value own_of needs_of fact_of texts

-- what is found of a text with a name; without one nothing is found, and the module is nothing to others
abbrev pub leveled_text : Texts → List ℕ → Option (List ℕ) → Leveled
leveled_text texts name None = record { faults = []; uses = []; decls = []; outside = nowhere }
leveled_text texts name (Some bytes) = fact_of name (own_of name bytes) (values.given_in own_of needs_of fact_of texts name)

-- what is found of the text of a name
abbrev pub leveled : Texts → List ℕ → Leveled
leveled texts name = leveled_text texts name (get texts name)

-- texts agree on these names, among which is all that they need
abbrev pub AgreeOn : Texts → Texts → (List ℕ → Bool) → Type 0
AgreeOn = values.Agree own_of needs_of fact_of

-- ---- what a module is to one that needs it

-- by its text, by whether it is or reaches that one, and by what is found of it
pub data IsStatus (family : List Member) (name need : List ℕ) : Status → Type 0 where
  unknown : is_there family need ≡ false → IsStatus family name need Unknown
  cyclic : is_there family need ≡ true → IsCyclic family name need → IsStatus family name need Cyclic
  refused : is_there family need ≡ true → (IsCyclic family name need → ⊥) → (leveled (texts_of family) need).faults ≢ [] → IsStatus family name need Refused
  accepted : is_there family need ≡ true → (IsCyclic family name need → ⊥) → (leveled (texts_of family) need).faults ≡ [] → IsStatus family name need (Accepted (leveled (texts_of family) need).outside)

-- ---- declarations

-- the name and the entity of a declaring name, if there is one
abbrev pub declared_by : List ℕ → Option Binder → Named × Entity
declared_by bytes None = (Word [], entity.Module)
declared_by bytes (Some binder) = (name_of bytes binder.name, binder.entity)

-- the same of a place in a text, by its front
abbrev pub declared_front : List ℕ → ℕ → Front → Named × Entity
declared_front bytes place (Tree found) = declared_by bytes (slice_get (declaring found.units) place)
declared_front bytes place (Fault fault) = declared_by bytes None

-- the same of the text of a name
abbrev pub declared_text : List ℕ → ℕ → Option (List ℕ) → Named × Entity
declared_text name place None = declared_by [] None
declared_text name place (Some bytes) = declared_front bytes place (front_of name bytes)

-- the name and the entity of each declaration of some texts
abbrev pub declares : Texts → Declarations
declares texts decl = declared_text decl.«module» decl.place (get texts decl.«module»)

-- ---- verdicts

-- the verdict on a file of these texts
abbrev pub verdict_on : Texts → File → Verdict
verdict_on texts file = record { name = file.name; text = text_of file.bytes; faults = (leveled texts file.name).faults }

-- the verdicts on files, over the built-in modules
abbrev pub verdicts_on : List File → List Verdict
verdicts_on files = map (verdict_on (texts_of (family_of files))) files

-- how many uses are shown of a file of these texts: all of one that is accepted, and none of another
abbrev pub use_count_on : Texts → File → ℕ
use_count_on texts file = length (unless_any (leveled texts file.name).faults (leveled texts file.name).uses)

-- how many uses are shown of all files, over the built-in modules
abbrev pub uses_on : List File → ℕ
uses_on files = sum_by (use_count_on (texts_of (family_of files))) files
