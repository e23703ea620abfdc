-- The operators that wait for their last operand, from the outermost.
use Rattle.std.specs.Prelude.{◌≡◌, ℕ, ◌^◌, ◌&&◌, cond, List, [], ◌∷◌, ◌++◌}
use Rattle.std.specs.List.{AllByRecursion}
use Rattle.tla_tree.specs.Edges.{product}
use Rattle.precedence.specs.Choices.{same_edge, choose}
use Rattle.precedence.specs.Ranges.{edge}
use Rattle.precedence.specs.declared.Choice.{Choice}
use Rattle.precedence.specs.declared.Choice.TheVariants.{Ends, Waits}
use Rattle.precedence.specs.declared.neighbour.Operator.{Operator}

-- so many may wait at most
abbrev pub most : ℕ
most = 2 ^ 20

-- what becomes of a waiting operator at one that comes: `\X` waits for a further operand at a further `\X`
abbrev pub outcome : Operator → Operator → Choice
outcome waiting coming =
    cond (same_edge (edge waiting) product && same_edge (edge coming) product) Waits (choose (edge waiting) (edge coming))

-- what becomes of the innermost one: where none waits, the one that comes is the outermost
abbrev pub innermost_outcome : List Operator → Operator → Choice
innermost_outcome [] coming = Waits
innermost_outcome (waiting ∷ []) coming = outcome waiting coming
innermost_outcome (waiting ∷ next ∷ rest) coming = innermost_outcome (next ∷ rest) coming

-- each of these ends before the one that comes
abbrev pub AllEnd : List Operator → Operator → Type 0
AllEnd closed coming = AllByRecursion (λ operator. outcome operator coming ≡ Ends) closed

-- the innermost ones are closed, each of which ends, and this becomes of the innermost one of those that are kept
pub record Closes (waiting : List Operator) (coming : Operator) (kept closed : List Operator) (choice : Choice) : Type 0 where
  pub parts : waiting ≡ kept ++ closed
  pub ended : AllEnd closed coming
  pub stopped : innermost_outcome kept coming ≡ choice
