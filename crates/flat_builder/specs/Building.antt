-- A flat module with one thing more, and when tables are in order.
use Rattle.std.specs.Prelude.{ℕ, ◌<◌, [], ◌∷◌, ◌++◌, length}
use Rattle.std.specs.List.{AllByRecursion}
use Rattle.kind_text.specs.FlatModule.{Definition, FlatModule, Instance, IsOrdered, Node}
use Rattle.kind_table.specs.declared.flat.Form.{Form}
use Rattle.kind_table.specs.declared.flat.Form.TheVariants as variant
use Rattle.kind_table.specs.declared.flat.FlatModule as table
use Rattle.kind_table.specs.Flattened.{flat_of}

-- nothing is defined
abbrev pub empty : FlatModule
empty = record { nodes = []; definitions = []; instances = [] }

-- with a node more
abbrev pub with_node : FlatModule → Node → FlatModule
with_node flat node = record flat { nodes = flat.nodes ++ node ∷ [] }

-- with a definition more
abbrev pub with_definition : FlatModule → Definition → FlatModule
with_definition flat definition = record flat { definitions = flat.definitions ++ definition ∷ [] }

-- with an instance more
abbrev pub with_instance : FlatModule → Instance → FlatModule
with_instance flat x = record flat { instances = flat.instances ++ x ∷ [] }

-- a form of a table that names no path
abbrev pub HasNoPath : Form → Type 0
HasNoPath (variant.Use path d) = ⊥
HasNoPath (variant.Name path d) = ⊥
HasNoPath form = Unit {0}

-- the path that a form names is among so many
abbrev pub NamesPath : ℕ → Form → Type 0
NamesPath count (variant.Use path d) = path < count
NamesPath count (variant.Name path d) = path < count
NamesPath count form = Unit {0}

-- each node is made of earlier ones alone, and each path that is named is there
pub record IsBuilt (t : table.FlatModule) : Type 0 where
  pub ordered : IsOrdered (flat_of t)
  pub paths : AllByRecursion (λ node. NamesPath (length t.paths.items) node.form) t.nodes.items
