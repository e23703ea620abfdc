-- A walk over the nodes below some that are due.
use Rattle.std.proofs.Common.{◌≡◌, ℕ, suc, ◌+◌, ◌<◌, List, [], ◌∷◌, ◌++◌, reverse, append_assoc, refl, ap, sym, ◌∙◌, arith}
use Rattle.std.specs.Prelude.{map}
use Rattle.std.specs.List.{AllByRecursion}
use Rattle.tla_symbols.specs.declared.lexeme.Lexeme.{Lexeme}
use Rattle.tla_tree.specs.Arena.{Node as ArenaNode, AreThere, node_at, tree_at}
use Rattle.tla_tree.specs.Syntax.{Tree, Trees, Node, Nil, Cons, trees}
use Rattle.tla_tree.proofs.Walks.{turned}
use Rattle.tla_model.specs.ModuleNames.{instantiated, instances, instances_in}

-- how many nodes trees have
abbrev mutual
  pub size : Tree → ℕ
  size (Node form span parts) = suc (sizes parts)

  pub sizes : Trees → ℕ
  sizes Nil = 0
  sizes (Cons tree rest) = size tree + sizes rest

-- of the nodes that are due, the first one last: the names after INSTANCE below them, and how many nodes are left
abbrev pub due_names : List ArenaNode → List ℕ → List Lexeme
due_names nodes todo = instances_in (trees (map (tree_at nodes) (reverse todo)))

abbrev pub due_size : List ArenaNode → List ℕ → ℕ
due_size nodes todo = sizes (trees (map (tree_at nodes) (reverse todo)))

abbrev pub AreDue : List ArenaNode → List ℕ → Type 0
AreDue nodes todo = AreThere nodes (reverse todo)

names-append : (nodes : List ArenaNode) (a b : List ℕ) → instances_in (trees (map (tree_at nodes) (a ++ b))) ≡ instances_in (trees (map (tree_at nodes) a)) ++ instances_in (trees (map (tree_at nodes) b))
names-append nodes [] b = refl
names-append nodes (x ∷ a) b = rw (names-append nodes a b) (sym (append_assoc (instances (tree_at nodes x)) _ _))

sizes-append : (nodes : List ArenaNode) (a b : List ℕ) → sizes (trees (map (tree_at nodes) (a ++ b))) ≡ sizes (trees (map (tree_at nodes) a)) + sizes (trees (map (tree_at nodes) b))
sizes-append nodes [] b = omega arith
sizes-append nodes (x ∷ a) b = omega (arith, sizes-append nodes a b)

-- what is due once a node is taken, and its children are due in its place
pub record IsTaken (nodes : List ArenaNode) (node : ℕ) (old new : List ℕ) : Type 0 where
  pub due : AreDue nodes new
  pub names : due_names nodes old ≡ instantiated (node_at nodes node).form ++ due_names nodes new
  pub less : due_size nodes new < due_size nodes old

pub taken : (nodes : List ArenaNode) (node : ℕ) (children old rest new : List ℕ) → AreDue nodes old → old ≡ rest ++ node ∷ [] → children ≡ (node_at nodes node).children → AllByRecursion (λ child. child < node) children → new ≡ rest ++ reverse children → IsTaken nodes node old new
taken nodes node children old rest new due is are before pushed =
    let turn = turned nodes node children old rest new due is are before pushed in
    let children = (node_at nodes node).children in
    record {
      due = turn.due;
      names = rw (turn.before, turn.after, names-append nodes children turn.rest, turn.tree) (append_assoc (instantiated (node_at nodes node).form) _ _);
      less = rw (turn.before, turn.after, sizes-append nodes children turn.rest, turn.tree) (omega arith);
    }

pub names-taken : (nodes : List ArenaNode) (node : ℕ) (old new : List ℕ) (names names' all : List Lexeme) → IsTaken nodes node old new → names' ≡ names ++ instantiated (node_at nodes node).form → names ++ due_names nodes old ≡ all → names' ++ due_names nodes new ≡ all
names-taken nodes node old new names names' all step more before =
    ap (λ z. z ++ due_names nodes new) more ∙ append_assoc names (instantiated (node_at nodes node).form) (due_names nodes new)
    ∙ ap (λ z. names ++ z) (sym step.names) ∙ before
