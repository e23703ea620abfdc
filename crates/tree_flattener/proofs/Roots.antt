-- The node of a body of no expression.
use Rattle.std.proofs.Common.{ℕ, ◌<◌, List, [], ◌∷◌, length, arith}
use Rattle.flattened_trees.specs.NodeForms.{constant_node}
use Rattle.tree_flattener.specs.declared.state.Flattening.{Flattening}
use Rattle.tree_flattener.specs.Steps.{Adds, IsRootMade}
use Rattle.tree_flattener.proofs.Stepping.{added-node, added-there, adds-steps}

pub empty-root : (s t : Flattening) (root : ℕ) (is : List ℕ) → length is < 1 → Adds s t constant_node root → IsRootMade s t is root
empty-root s t root [] short adds =
    record {
      extends = (adds-steps s t constant_node root adds).extends;
      locals = adds.locals;
      frames = adds.frames;
      questions = adds.questions;
      there = added-there s t constant_node root adds;
      holds = added-node s t constant_node root adds;
    }
empty-root s t root (i ∷ is) short adds = absurd (omega (arith, short))
