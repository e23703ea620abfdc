-- How many nodes there are after so many lexemes: at most 17 for each. Of these it has eight where it is read in an expression, eight
-- where it ends one, and one as a lexeme of units. Frames that wait count as nodes, since each becomes one at most.
use Rattle.std.specs.Prelude.{◌≡◌, ℕ, ◌+◌, ◌*◌, ◌≤◌, max, List, [], ◌∷◌, ◌++◌, length, Option, Some, None}
use Rattle.tla_symbols.specs.declared.lexeme.Lexeme.{Lexeme}
use Rattle.tla_tree.specs.Arena.{Node}
use Rattle.expr_parse.specs.declared.machine.ExprMachine.{ExprMachine}
use Rattle.expr_parse.specs.MachineMeaning.{HasRead}
use Rattle.unit_steps.specs.Waiting.{waiting_at}
use Rattle.unit_parse.specs.declared.reader.Fed.{Fed}
use Rattle.unit_parse.specs.declared.state.State.{State}

-- there is room for what the lexeme adds that comes after so many
abbrev pub HasRoom : ℕ → ℕ → Type 0
HasRoom nodes count = nodes ≤ 17 * count + 1

-- an expression or bounds are read above frames that wait: its lexemes have left their nodes to it, one at least
pub record IsFewRead (nodes : List Node) (machine : ExprMachine) (waiting count : ℕ) : Type 0 where
  pub before : ℕ
  pub read : List Lexeme
  pub has : HasRead nodes machine before read
  pub room : HasRoom (before + waiting + 17 * max 1 (length read)) count

-- what a lexeme adds that is fed to it
pub record FeedsFew (nodes : List Node) (machine : ExprMachine) (before : ℕ) (read : List Lexeme) (next : Lexeme) (fed : Fed) : Type 0 where
  pub few : length nodes ≤ before + 8 * (length read + 1)
  pub going : fed ≡ Fed.Going → HasRead nodes machine before (read ++ next ∷ [])

-- a lexeme was fed to what is read
pub record IsFewFed (nodes : List Node) (machine : ExprMachine) (waiting count : ℕ) (next : Lexeme) (fed : Fed) : Type 0 where
  pub before : ℕ
  pub read : List Lexeme
  pub feeds : FeedsFew nodes machine before read next fed
  pub room : HasRoom (before + waiting + 17 * max 1 (length read)) count

-- where the reader stands after so many lexemes
abbrev pub IsFew : List Node → State → ℕ → Type 0
IsFew nodes (State.At point) count = length nodes + waiting_at point ≤ 17 * count
IsFew nodes (State.Expression unfinished reader) count = IsFewRead nodes reader.machine (length unfinished.below.items) count
IsFew nodes (State.Bounds unfinished frame reader) count = IsFewRead nodes reader.machine (length unfinished.below.items + 1) count

-- or it refused the last of them
abbrev pub IsFewMoved : List Node → Option State → ℕ → Type 0
IsFewMoved nodes None count = Unit {0}
IsFewMoved nodes (Some state) count = IsFew nodes state count
