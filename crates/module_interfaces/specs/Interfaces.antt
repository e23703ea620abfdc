-- What a module of some texts is to those that name it, as a value that is told by the texts alone.
use Rattle.std.specs.Prelude.{◌≡◌, ℕ, Bool, true, List, [], ◌∷◌, if◌then◌else◌, map}
use Rattle.std.specs.Str.{bytes_eq}
use Rattle.unit_grammar.specs.Units.{ModuleUnits}
use Rattle.front_laws.specs.Fronts.{Front, Tree, Fault}
use Rattle.tla_model.specs.declared.Diagnostic.{Diagnostic}
use Rattle.module_model.specs.Exports.{ModuleView, exports_of}
use Rattle.tree_kinds.specs.Standing.{Outside}
use Rattle.module_kinds.specs.ModuleKinds.{last, outside}
use Rattle.flat_trees.specs.Instances.{symbols_of}
use Rattle.known_modules.specs.Known.{found_over}
use Rattle.readable_laws.specs.Uses.{implied_by, means_by}
use Rattle.written_trees.specs.Leading.{Face}
use Rattle.written_modules.specs.Modules.{face_over, module_reader, no_face}
use Rattle.fact_values.specs.Names.{Texts}
use Rattle.fact_values.specs.States.{State, no_text, cyclic, broken, fact}
use Rattle.fact_values.specs.Values as values
use Rattle.family_facts.specs.Facts.{Own, needs_of, own_of}
use Rattle.leveled_facts.specs.Families.{status_by_states}
use Rattle.leveled_facts.specs.Modules.{Accepted as AcceptedStatus, Leveled, Status, front_refused, leveled_by, outsides}

-- where the names of a module lead outside of it, by what the modules are that it names
abbrev pub written_face : (List ℕ → Face) → (List ℕ → Outside) → List ℕ → ModuleUnits → Face
written_face files outsides source units =
    face_over (outside outsides source units).view.parameters 0 (outside outsides source units).is_constant (exports_of (last outsides source units).read.place.here.exports)
    (module_reader (means_by (found_over outsides source units)) (implied_by (found_over outsides source units)) files outsides source units (symbols_of (outside outsides source units))).setting.leads

-- ---- the modules of some texts

-- what is found of a module, and where its names lead outside of it
pub record Fact : Type 0 where
  pub leveled : Leveled
  pub face : Face

-- what is found of it, as a state of its own
abbrev pub leveled_state : State Fact → State Leveled
leveled_state no_text = no_text
leveled_state cyclic = cyclic
leveled_state broken = broken
leveled_state (fact found) = fact found.leveled

-- the same of needs, under their names
abbrev pub leveled_states : List (List ℕ × State Fact) → List (List ℕ × State Leveled)
leveled_states [] = []
leveled_states (need ∷ needs) = (need.0, leveled_state need.1) ∷ leveled_states needs

-- where the names of a module lead for those that need it: nowhere, if it has faults
abbrev pub face_by_faults : List Diagnostic → Face → Face
face_by_faults [] face = face
face_by_faults (fault ∷ faults) face = no_face

-- the same by its state
abbrev pub face_by_state : State Fact → Face
face_by_state (fact found) = face_by_faults found.leveled.faults found.face
face_by_state state = no_face

-- where those of the needs of a module lead, under their names
abbrev pub faces_by_states : List (List ℕ × State Fact) → List ℕ → Face
faces_by_states [] name = no_face
faces_by_states (need ∷ needs) name = if bytes_eq name need.0 then face_by_state need.1 else faces_by_states needs name

-- the one front fault, or what is found by what the needs are
abbrev pub fact_front : List ℕ → Front → (List ℕ → Status) → (List ℕ → Face) → Fact
fact_front bytes (Tree found) given faces = record { leveled = leveled_by given bytes found; face = written_face faces (outsides given) bytes found }
fact_front bytes (Fault fault) given faces = record { leveled = front_refused fault; face = no_face }

-- what is found of a text, by the states of its needs
abbrev pub fact_of : List ℕ → Own → List (List ℕ × State Fact) → Fact
fact_of name own given = fact_front own.bytes own.front (status_by_states (leveled_states given)) (faces_by_states given)

-- the state of each name
abbrev pub state_of : Texts → List ℕ → State Fact
state_of texts = values.value own_of needs_of fact_of texts

-- where the names of a need lead, by what it is: nowhere, if it is not accepted
abbrev pub face_by_status : Status → Face → Face
face_by_status (AcceptedStatus outside) face = face
face_by_status status face = no_face

-- ---- import states

-- what an accepted module is to those that name it: its exports, the instances that these reach and its parameters, as paths of names show
-- them; and where the paths lead, by resolved trees
pub record Interface : Type 0 where
  pub view : ModuleView
  pub face : Face

-- what a module is to one that needs it
pub data ImportState : Type 0 where
  -- there is no module of its name
  Unknown : ImportState
  -- it is that one, or needs it
  Cyclic : ImportState
  -- it has a front fault
  Broken : ImportState
  -- it has another fault
  Refused : ImportState
  Accepted : (interface : Interface) → ImportState

-- the same by its faults
abbrev pub import_by : List Diagnostic → Interface → ImportState
import_by [] interface = Accepted interface
import_by (fault ∷ rest) interface = Refused

-- the same by what is found of it
abbrev pub import_state : State Fact → ImportState
import_state no_text = Unknown
import_state cyclic = Cyclic
import_state broken = Broken
import_state (fact found) = import_by found.leveled.faults (record { view = found.leveled.outside.view; face = found.face })

-- facts that this says to be the same are the same to those that need their modules
abbrev pub TellsImports : (Fact → Fact → Bool) → Type 0
TellsImports same = (one other : Fact) → same one other ≡ true → import_state (fact one) ≡ import_state (fact other)

-- and it says so of all that are
abbrev pub FindsImports : (Fact → Fact → Bool) → Type 0
FindsImports same = (one other : Fact) → import_state (fact one) ≡ import_state (fact other) → same one other ≡ true

-- ---- what changes

-- what the modules are to a module that it needs, under their names, in the order of its text
abbrev pub imports_in : Texts → List ℕ → List (List ℕ × ImportState)
imports_in texts name = map (λ need. (need.0, import_state need.1)) (values.given_in own_of needs_of fact_of texts name)

-- whether a module is dirty: its text is another one than before, or what a module is that it needs, as far as this tells
abbrev pub is_dirty : (Fact → Fact → Bool) → Texts → Texts → List ℕ → Bool
is_dirty = values.is_dirty own_of needs_of fact_of

-- how many modules of the later texts are dirty
abbrev pub dirty : (Fact → Fact → Bool) → Texts → Texts → ℕ
dirty = values.dirty own_of needs_of fact_of
