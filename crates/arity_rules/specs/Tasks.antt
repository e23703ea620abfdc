-- A walk over trees, from what is to be looked at, the next one last.
use Rattle.std.specs.Prelude.{◌≡◌, ◌<◌, ◌+◌, ℕ, suc, Bool, List, [], ◌∷◌, ◌++◌, Option, if◌then◌else◌, length, reverse}
use Rattle.std.specs.List.{AllByRecursion}
use Rattle.tla_tree.specs.Arena.{Node, node_at, tree_at}
use Rattle.tla_tree.specs.Syntax as Syntax
use Rattle.tla_tree.specs.Syntax.{Tree, Trees}
use Rattle.tla_model.specs.declared.Diagnostic.{Diagnostic}
use Rattle.tla_model.specs.Entities.{Entity}
use Rattle.declared_names.specs.Nodes.{form_at}
use Rattle.arity_rules.specs.declared.place.Due.TheVariants as due
use Rattle.arity_rules.specs.declared.walk.Task.{Task}
use Rattle.arity_rules.specs.Arities.{Due, Role, is_known, is_part_inside, is_path, part_due, tree_faults}

-- what is to be looked at, the next one first
abbrev pub stack : List Task → List Task
stack tasks = reverse tasks

-- what is due of a segment, before these
abbrev pub segment_due : Due → List ℕ → Due
segment_due d [] = d
segment_due d (next ∷ rest) = due.Qualifier

-- a node to be looked at
abbrev pub task : Due → Bool → ℕ → Task
task d inside node = record { node = node; due = d; inside = inside }

-- how much there is to look at, for an end
abbrev mutual
  pub size : Tree → ℕ
  size (Syntax.Node form s parts) = suc (sizes parts)

  -- the same of several trees
  pub sizes : Trees → ℕ
  sizes Syntax.Nil = 0
  sizes (Syntax.Cons x rest) = size x + sizes rest

module _ (means : ℕ → Option Entity) (nodes : List Node) where
  -- the segments of a path that are looked at
  abbrev pub path_tasks : Due → Bool → List ℕ → List Task
  path_tasks d inside [] = []
  path_tasks d inside (x ∷ rest) = task (segment_due d rest) inside x ∷ (if is_known means (form_at nodes x) then path_tasks d inside rest else [])

  -- the part of a form with an index
  abbrev pub part_task : Role → Bool → ℕ → ℕ → Task
  part_task r inside index x = task (part_due means r index (node_at nodes x).span) (is_part_inside r inside (form_at nodes x)) x

  -- the parts of a form, from an index on
  abbrev pub part_tasks : Role → Bool → ℕ → List ℕ → List Task
  part_tasks r inside index [] = []
  part_tasks r inside index (x ∷ rest) = part_task r inside index x ∷ part_tasks r inside (suc index) rest

  -- the parts of a form, as it has them looked at
  abbrev pub below : Due → Bool → Role → List ℕ → List Task
  below d inside r parts = if is_path r then path_tasks d inside parts else part_tasks r inside 0 parts

  -- the faults of what is to be looked at
  abbrev pub all_faults : List Task → List Diagnostic
  all_faults [] = []
  all_faults (t ∷ tasks) = tree_faults means t.due t.inside (tree_at nodes t.node) ++ all_faults tasks

-- the nodes are there
abbrev pub AreDue : List Node → List Task → Type 0
AreDue nodes tasks = AllByRecursion (λ t. t.node < length nodes) tasks

-- how much all of this is
abbrev pub all_size : List Node → List Task → ℕ
all_size nodes [] = 0
all_size nodes (t ∷ tasks) = size (tree_at nodes t.node) + all_size nodes tasks

-- what was next is looked at, but for its parts, which are to be looked at
pub record IsTaken (means : ℕ → Option Entity) (nodes : List Node) (next : Task) (before after : List Diagnostic) (old new : List Task) : Type 0 where
  pub due : AreDue nodes new
  pub faults : before ++ (tree_faults means next.due next.inside (tree_at nodes next.node) ++ all_faults means nodes old) ≡ after ++ all_faults means nodes new
  pub less : all_size nodes new < size (tree_at nodes next.node) + all_size nodes old
