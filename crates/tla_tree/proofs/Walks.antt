-- Nodes that are due of a walk, the first one last: one is taken, and its children are due in its place.
use Rattle.std.proofs.Common.{◌≡◌, ℕ, ◌<◌, List, [], ◌∷◌, ◌++◌, length, reverse, ap, sym, subst, ◌∙◌}
use Rattle.std.specs.Prelude.{map}
use Rattle.std.specs.List.{AllByRecursion}
use Rattle.std.proofs.lemmas.List.{reverse-append, reverse-reverse}
use Rattle.list_laws.proofs.Lists.{all-both, reverse-last}
use Rattle.tla_tree.specs.Arena.{AreThere, Node, node_at, tree_at}
use Rattle.tla_tree.specs.Syntax as Syntax
use Rattle.tla_tree.specs.Syntax.{trees}
use Rattle.tla_tree.proofs.Nodes.{tree_at-node, before-there}

pub taken-there : (nodes : List Node) (node : ℕ) (old rest : List ℕ) → AreThere nodes (reverse old) → old ≡ rest ++ node ∷ [] → node < length nodes
taken-there nodes node old rest due is = (subst (AreThere nodes) (reverse-last node old rest is) due).0

-- what is due once a node is taken
pub record IsTurned (nodes : List Node) (node : ℕ) (old new : List ℕ) : Type 0 where
  pub there : node < length nodes
  pub due : AreThere nodes (reverse new)
  pub rest : List ℕ
  pub before : reverse old ≡ node ∷ rest
  pub after : reverse new ≡ (node_at nodes node).children ++ rest
  pub tree : tree_at nodes node ≡ Syntax.Node (node_at nodes node).form (node_at nodes node).span (trees (map (tree_at nodes) (node_at nodes node).children))

pub turned : (nodes : List Node) (node : ℕ) (children old rest new : List ℕ) → AreThere nodes (reverse old) → old ≡ rest ++ node ∷ [] → children ≡ (node_at nodes node).children → AllByRecursion (λ child. child < node) children → new ≡ rest ++ reverse children → IsTurned nodes node old new
turned nodes node children old rest new due is are before pushed =
    let back : reverse old ≡ node ∷ reverse rest = reverse-last node old rest is in
    let there : AreThere nodes (node ∷ reverse rest) = subst (AreThere nodes) back due in
    let onward : reverse new ≡ children ++ reverse rest = ap (λ z. reverse z) pushed ∙ reverse-append rest (reverse children) ∙ ap (λ z. z ++ reverse rest) (reverse-reverse children) in
    record {
      there = there.0;
      due = subst (AreThere nodes) (sym onward) (all-both (λ number. number < length nodes) children (reverse rest) (before-there nodes node children there.0 before) there.1);
      rest = reverse rest;
      before = back;
      after = onward ∙ ap (λ z. z ++ reverse rest) are;
      tree = tree_at-node nodes node there.0 (subst (AllByRecursion (λ child. child < node)) are before);
    }
