-- What a machine in code has read, and what its steps answer.
use Rattle.std.specs.Prelude.{◌≡◌, ℕ, ◌+◌, ◌≤◌, ◌<◌, List, [], ◌∷◌, ◌++◌, length, Option, Some, None}
use Rattle.tla_symbols.specs.declared.lexeme.Lexeme.{Lexeme}
use Rattle.tla_tree.specs.Arena as Arena
use Rattle.tla_tree.specs.Arena.{tree_at}
use Rattle.tla_tree.specs.Syntax.{Tree}
use Rattle.expr_grammar.specs.Machine.{State, run, start, start_bounds}
use Rattle.expr_grammar.specs.Counting.{made_run}
use Rattle.expr_parse.specs.declared.goal.Goal.{Goal}
use Rattle.expr_parse.specs.declared.goal.Step.{Step}
use Rattle.expr_parse.specs.declared.machine.Stage.{Stage}
use Rattle.expr_parse.specs.declared.machine.ExprMachine.{ExprMachine}
use Rattle.expr_parse.specs.declared.turn.Turn.TheVariants as Turn
use Rattle.expr_parse.specs.Goals.{DerivesGoal, BeginsGoal, IsWhole, IsSame}
use Rattle.expr_parse.specs.Ending.{Outermost, IsOf}
use Rattle.tree_parts.specs.Parts.{Grows}
use Rattle.expr_stack.specs.StackMeaning.{Stands}
use Rattle.expr_parse.specs.TurnMeaning.{IsTurn}

-- where the machine on lists begins for a goal
abbrev pub start_of : Goal → State
start_of Goal.Expression = start
start_of Goal.Bounds = start_bounds

-- the machine in code stands where the machine on lists does
abbrev pub StandsAt : List Arena.Node → ExprMachine → Stage → Option State → Type 0
StandsAt nodes machine Stage.Begins state = (state ≡ Some (start_of machine.goal)) × Stands nodes machine.stack []
StandsAt nodes machine (Stage.Goes turn) state = IsTurn nodes machine.stack turn state

-- it has read these lexemes, into a tree that had so many nodes before; no more were made than the machine on lists makes
pub record HasRead (nodes : List Arena.Node) (machine : ExprMachine) (before : ℕ) (lexemes : List Lexeme) : Type 0 where
  pub stands : StandsAt nodes machine machine.stage (run (Some (start_of machine.goal)) lexemes)
  pub few : length nodes ≤ before + made_run (Some (start_of machine.goal)) lexemes

-- it can be stepped: it has read some lexemes, or refuses
abbrev pub IsReady : List Arena.Node → ExprMachine → Type 0
IsReady nodes machine = (state : Option State) × StandsAt nodes machine machine.stage state

-- it refuses whatever comes
abbrev pub IsRefusing : ExprMachine → Type 0
IsRefusing machine = machine.stage ≡ Stage.Goes Turn.Refused

-- what a step answers at a lexeme, after lexemes that were read; once it is done it refuses whatever comes
abbrev pub IsAnswer : List Arena.Node → ExprMachine → ℕ → List Lexeme → Lexeme → Step → Type 0
IsAnswer nodes machine before lexemes next Step.Going =
    HasRead nodes machine before (lexemes ++ next ∷ []) × BeginsGoal machine.goal (lexemes ++ next ∷ []) × (IsWhole machine.goal lexemes next → ⊥)
IsAnswer nodes machine before lexemes next (Step.Done node) =
    (node < length nodes)
    × IsWhole machine.goal lexemes next
    × DerivesGoal machine.goal (tree_at nodes node) lexemes next
    × ((other : Tree) → DerivesGoal machine.goal other lexemes next → IsSame machine.goal other (tree_at nodes node))
    × IsRefusing machine
IsAnswer nodes machine before lexemes next Step.Refused =
    HasRead nodes machine before (lexemes ++ next ∷ []) × (BeginsGoal machine.goal (lexemes ++ next ∷ []) → ⊥) × (IsWhole machine.goal lexemes next → ⊥)

-- the step that ends what is read
abbrev pub IsDoneBy : List Arena.Node → Goal → Step → Outermost → Type 0
IsDoneBy nodes goal (Step.Done node) last = (node < length nodes) × IsOf goal (tree_at nodes node) last.frame last.tree
IsDoneBy nodes goal _ last = ⊥

-- a step is done with what was left, with at most one more node than the frames make; old ones stay
pub record IsDone (nodes more : List Arena.Node) (goal : Goal) (step : Step) (last : Outermost) (made : ℕ) : Type 0 where
  pub grows : Grows nodes more
  pub few : length more ≤ length nodes + (made + 1)
  pub done : IsDoneBy more goal step last

-- a step that reads goes on where the machine on lists does, and else refuses
abbrev pub IsStepTo : Step → Option State → Type 0
IsStepTo Step.Going (Some state) = Unit {0}
IsStepTo Step.Refused None = Unit {0}
IsStepTo _ _ = ⊥

-- a lexeme was read where the machine on lists reads it, with no more new nodes; old ones stay
pub record HasStepped (nodes more : List Arena.Node) (machine : ExprMachine) (step : Step) (state : Option State) (next : Lexeme) : Type 0 where
  pub grows : Grows nodes more
  pub few : length more ≤ length nodes + made_run state (next ∷ [])
  pub stands : StandsAt more machine machine.stage (run state (next ∷ []))
  pub to : IsStepTo step (run state (next ∷ []))
