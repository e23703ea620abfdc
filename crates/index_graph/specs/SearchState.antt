-- A walk along needs: which indices are open, which are closed, and what is known of them.
use Rattle.std.specs.Prelude.{◌≡◌, ◌<◌, ◌≤◌, ◌+◌, ◌⊎◌, ℕ, suc, true, false, Some, List, [], ◌∷◌, ◌++◌, take, length, slice_get, slice_index, slice_set}
use Rattle.index_graph.specs.declared.components.Mark.{Mark}
use Rattle.index_graph.specs.declared.components.Group.{Group}
use Rattle.index_graph.specs.declared.components.Walk.{Walk}
use Rattle.index_graph.specs.Leading.{Leads}
use Rattle.index_graph.specs.Indices.{Has, Edges, Edge, Way, IsBehind}

-- what is open at this index of the path is in this group: it is the last one that begins no later
pub record InGroup (groups : List Group) (r : ℕ) (group : Group) (i : ℕ) : Type 0 where
  pub stands : slice_get groups r ≡ Some group
  pub begun : group.first ≤ i
  pub ends : (s : ℕ) (other : Group) → r < s → slice_get groups s ≡ Some other → i < other.first

-- what became of the need of an open index: it is loose, closed, to be followed by the group or a later one, or open in the group or a later one
pub data Followed (loose path todo order : List ℕ) (group : Group) (i need : ℕ) : Type 0 where
  left : Has loose need → Followed loose path todo order group i need
  closed : Has order need → Followed loose path todo order group i need
  pending : (u : ℕ) → slice_get todo u ≡ Some need → group.pending ≤ u → Followed loose path todo order group i need
  ahead : (b : ℕ) → slice_get path b ≡ Some need → group.first ≤ b → (group.cyclic ≡ false → i < b) → Followed loose path todo order group i need

-- what is to be followed belongs to the group of an open index
pub record IsOwned (edges : Edges) (path : List ℕ) (groups : List Group) (u need : ℕ) : Type 0 where
  pub i : ℕ
  pub index : ℕ
  pub stands : slice_get path i ≡ Some index
  pub needs : Edge edges index need
  pub behind : (r : ℕ) (group : Group) → slice_get groups r ≡ Some group → group.pending ≤ u → group.first ≤ i
  pub before : (r : ℕ) (group : Group) → slice_get groups r ≡ Some group → u < group.pending → i < group.first

-- the marks agree with the open and the closed indices
pub record AreMarked (marks : List Mark) (path order : List ℕ) : Type 0 where
  pub open_there : (index i : ℕ) → slice_get marks index ≡ Some (Mark.Open i) → slice_get path i ≡ Some index
  pub open_mark : (i index : ℕ) → slice_get path i ≡ Some index → slice_get marks index ≡ Some (Mark.Open i)
  pub closed_there : (index : ℕ) → slice_get marks index ≡ Some Mark.Closed → Has order index
  pub closed_mark : (index : ℕ) → Has order index → slice_get marks index ≡ Some Mark.Closed

-- the groups part the open indices and what is to be followed
pub record AreParted (path todo : List ℕ) (groups : List Group) : Type 0 where
  pub base : (group : Group) → slice_get groups 0 ≡ Some group → (group.first ≡ 0) × (group.pending ≡ 0)
  pub none : length groups ≡ 0 → (length path ≡ 0) × (length todo ≡ 0)
  pub within : (r : ℕ) (group : Group) → slice_get groups r ≡ Some group → (group.first < length path) × (group.pending ≤ length todo)
  pub rising : (r s : ℕ) (group other : Group) → r < s → slice_get groups r ≡ Some group → slice_get groups s ≡ Some other → (group.first < other.first) × (group.pending ≤ other.pending)

-- open indices reach the later ones and those of their own group
pub record AreOpen (edges : Edges) (loose path todo : List ℕ) (groups : List Group) (order : List ℕ) : Type 0 where
  pub onward : (a b x y : ℕ) → slice_get path a ≡ Some x → slice_get path b ≡ Some y → a ≤ b → Way edges x y
  pub back : (r : ℕ) (group : Group) (i x y : ℕ) → InGroup groups r group i → slice_get path i ≡ Some x → slice_get path group.first ≡ Some y → Way edges x y
  pub alone : (r : ℕ) (group : Group) (i : ℕ) → InGroup groups r group i → i < length path → group.cyclic ≡ false → i ≡ group.first
  pub loops : (r : ℕ) (group : Group) (i x : ℕ) → InGroup groups r group i → slice_get path i ≡ Some x → group.cyclic ≡ true → Leads (Edge edges) x x
  pub follows : (r : ℕ) (group : Group) (i x need : ℕ) → InGroup groups r group i → slice_get path i ≡ Some x → Edge edges x need → Followed loose path todo order group i need
  pub owned : (u need : ℕ) → slice_get todo u ≡ Some need → IsOwned edges path groups u need

-- closed indices need closed ones alone
pub record AreClosed (edges : Edges) (order cyclic : List ℕ) : Type 0 where
  pub shut : (index need : ℕ) → Has order index → Edge edges index need → Has order need
  pub once : (i j index : ℕ) → slice_get order i ≡ Some index → slice_get order j ≡ Some index → i ≡ j
  pub cycles : (index : ℕ) → Has cyclic index → Has order index × Leads (Edge edges) index index
  pub behind : (i index : ℕ) → slice_get order i ≡ Some index → Has cyclic index ⊎ IsBehind edges order i index

-- the number of a closed index is the place in the order where its group begins
pub record AreNumbered (edges : Edges) (order numbers : List ℕ) : Type 0 where
  pub long : length numbers ≡ length edges
  pub below : (index : ℕ) → Has order index → slice_index numbers index < length order
  pub same : (x y : ℕ) → Has order x → Has order y → slice_index numbers x ≡ slice_index numbers y → Way edges x y
  pub needs : (index need : ℕ) → Has order index → Edge edges index need → slice_index numbers need ≤ slice_index numbers index
  pub rising : (i j x y : ℕ) → i ≤ j → slice_get order i ≡ Some x → slice_get order j ≡ Some y → slice_index numbers x ≤ slice_index numbers y

-- what is known of a walk, where these needs are not yet among what is to be followed
pub record IsWalk (edges : Edges) (loose : List ℕ) (marks : List Mark) (path todo : List ℕ) (groups : List Group) (order cyclic numbers : List ℕ) : Type 0 where
  pub long : length marks ≡ length edges
  pub marked : AreMarked marks path order
  pub parted : AreParted path todo groups
  pub opened : AreOpen edges loose path todo groups order
  pub shut : AreClosed edges order cyclic
  pub numbered : AreNumbered edges order numbers

-- the work that is left: indices that are new with their rows, groups, and what is to be followed
abbrev pub unvisited : List Mark → Edges → ℕ
unvisited [] rows = 0
unvisited (mark ∷ marks) [] = 0
unvisited (Mark.New ∷ marks) (row ∷ rows) = suc (length row) + unvisited marks rows
unvisited (Mark.Open i ∷ marks) (row ∷ rows) = unvisited marks rows
unvisited (Mark.Closed ∷ marks) (row ∷ rows) = unvisited marks rows

-- what is left to do: it falls with each step
abbrev pub work : Edges → Walk → ℕ
work edges walk = (length walk.todo.items + length walk.groups.items) + unvisited walk.marks.items edges

-- what is new was so before
abbrev pub KeepsFound : List Mark → List Mark → Type 0
KeepsFound old new = (index : ℕ) → slice_get new index ≡ Some Mark.New → slice_get old index ≡ Some Mark.New

-- the same of a walk in code
abbrev pub AreWalk : Edges → List ℕ → Walk → Type 0
AreWalk edges loose walk = IsWalk edges loose walk.marks.items walk.path.items walk.todo.items walk.groups.items walk.order.items walk.cyclic.items walk.numbers.items

-- a walk went on, from this much work
pub record WentOn (edges : Edges) (before : ℕ) (old new : Walk) : Type 0 where
  pub walk : AreWalk edges [] new
  pub less : work edges new < before
  pub keeps : KeepsFound old.marks.items new.marks.items

-- the groups from that of what is open at this index of the path on are one
pub record AreJoined (old : List Group) (i : ℕ) (new : List Group) : Type 0 where
  pub r : ℕ
  pub group : Group
  pub holds : InGroup old r group i
  pub joined : new ≡ take r old ++ record group { cyclic = true } ∷ []

-- the last group
abbrev pub IsTop : List Group → Group → Type 0
IsTop groups top = (r : ℕ) × (slice_get groups r ≡ Some top) × (length groups ≡ suc r)

-- a need of an open index of the last group was taken out, and is to be followed
pub record IsPopped (edges : Edges) (need : ℕ) (walk : Walk) : Type 0 where
  pub walk_on : AreWalk edges (need ∷ []) walk
  pub i : ℕ
  pub index : ℕ
  pub stands : slice_get walk.path.items i ≡ Some index
  pub needs : Edge edges index need
  pub last : (r : ℕ) (group : Group) → slice_get walk.groups.items r ≡ Some group → group.first ≤ i

-- the items once those at these indices are this one
abbrev pub set_all : {A : Type 0} → List A → List ℕ → A → List A
set_all items [] item = items
set_all items (index ∷ indices) item = set_all (slice_set items index item) indices item
