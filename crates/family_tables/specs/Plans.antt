-- In which order modules are checked, and which of their needs are cyclic.
use Rattle.std.specs.Prelude.{◌≡◌, ◌<◌, ◌↔◌, ◌⊎◌, ℕ, List, Option, true, Some, None, Contains, IsSome, slice_get}
use Rattle.std.specs.FinMap.{get}
use Rattle.index_graph.specs.Leading.{Leads, LeadsBack}
pub use Rattle.name_graph.specs.Family.{AreOnce}
use Rattle.name_graph.specs.Family as graphs
use Rattle.family_tables.specs.Modules.{Entry}
use Rattle.family_tables.specs.Tables.{has_name, names_in}
use Rattle.family_tables.specs.declared.order.Plan.{Plan}

-- ---- needs

module _ (entries : List Entry) where
  -- what a module needs
  pub record Needs (name need : List ℕ) : Type 0 where
    pub entry : Entry
    pub there : Contains entries entry
    pub named : entry.0 ≡ name
    pub needs : Contains entry.1.needs need

  -- a need that does not lead back
  abbrev pub NeedsBefore : List ℕ → List ℕ → Type 0
  NeedsBefore name need = Needs name need × (LeadsBack Needs name need → ⊥)

-- among names is all that their modules need
abbrev pub IsClosed : {T : Type 0} → List Entry → List (List ℕ × T) → Type 0
IsClosed entries names = (name need : List ℕ) → has_name names name ≡ true → Needs entries name need → has_name names need ≡ true

-- a name is one of some, or modules of some lead to it by what they need
abbrev pub IsReached : List Entry → (List ℕ → Type 0) → List ℕ → Type 0
IsReached entries Is name = Is name ⊎ ((start : List ℕ) × Is start × Leads (Needs entries) start name)

-- ---- graphs

-- a graph holds just these names, each with what it needs in some way
pub record IsGraph (names : List (List ℕ)) (Has : List ℕ → List ℕ → Type 0) (graph : graphs.Family) : Type 0 where
  pub put : (name : List ℕ) → IsSome (get graph name) ↔ Contains names name
  pub needs : (name need : List ℕ) → Contains names name → graphs.Needs graph name need ↔ Has name need

-- those of some needs that do not lead back
abbrev pub AreKept : graphs.Family → List ℕ → List (List ℕ) → List (List ℕ) → Type 0
AreKept graph name needs kept = (need : List ℕ) → Contains kept need ↔ (Contains needs need × (LeadsBack (graphs.Needs graph) name need → ⊥))

-- ---- plans

-- each module once, and each behind what it needs, but for needs that lead back
pub record IsOrder (entries : List Entry) (names : List (List ℕ)) : Type 0 where
  pub all : (name : List ℕ) → Contains names name ↔ Contains (names_in entries) name
  pub once : AreOnce names
  pub behind : (i j : ℕ) (name need : List ℕ) → slice_get names i ≡ Some name → slice_get names j ≡ Some need → NeedsBefore entries name need → j < i

-- there is a graph of the needs where some module reaches itself
abbrev pub IsCycles : List Entry → Option graphs.Family → Type 0
IsCycles entries None = (name : List ℕ) → Leads (Needs entries) name name → ⊥
IsCycles entries (Some graph) = IsGraph (names_in entries) (Needs entries) graph

-- a plan has an order of the modules, and where some module reaches itself the graph of their needs
pub record IsPlan (entries : List Entry) (plan : Plan) : Type 0 where
  pub order : IsOrder entries plan.order
  pub cycles : IsCycles entries plan.cycles
