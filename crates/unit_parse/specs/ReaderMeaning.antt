-- What the reader's state in code stands for: the state of the machine for units.
use Rattle.std.specs.Prelude.{◌≡◌, ℕ, List, [], ◌∷◌, ◌++◌, Option, Some, None}
use Rattle.tla_symbols.specs.declared.lexeme.LexKind.{LexKind}
use Rattle.tla_symbols.specs.declared.lexeme.Lexeme.{Lexeme}
use Rattle.tla_tree.specs.Arena as Arena
use Rattle.tla_tree.specs.Arena.{tree_at}
use Rattle.tla_tree.specs.Syntax.{Tree}
use Rattle.tree_parts.specs.Parts.{IsPart, Grows, parts_of, span_of}
use Rattle.expr_grammar.specs.Machine as Expressions
use Rattle.expr_grammar.specs.Following.{done_before, bounds_done_before}
use Rattle.expr_parse.specs.declared.goal.Goal.{Goal}
use Rattle.expr_parse.specs.MachineMeaning.{HasRead, start_of}
use Rattle.unit_grammar.specs.Units.{UnitTree}
use Rattle.unit_machine.specs.Machine as Machine
use Rattle.unit_frames.specs.declared.frame.Frame.{Frame}
use Rattle.unit_frames.specs.declared.unfinished.Unfinished.{Unfinished}
use Rattle.unit_frames.specs.FrameMeaning.{IsFrame, IsUnder}
use Rattle.unit_steps.specs.PointMeaning as Steps
use Rattle.unit_parse.specs.declared.reader.ExprReader.{ExprReader}
use Rattle.unit_parse.specs.declared.reader.Fed.{Fed}
use Rattle.unit_parse.specs.declared.state.State.{State}

-- an expression, or bounds, of which these lexemes were read
pub record IsReading (nodes : List Arena.Node) (reader : ExprReader) (aim : Goal) (st : Expressions.State) (read : List Lexeme) : Type 0 where
  pub goal : reader.machine.goal ≡ aim
  pub before : ℕ
  pub has : HasRead nodes reader.machine before read
  pub runs : Expressions.run (Some (start_of aim)) read ≡ Some st
  pub span : reader.span ≡ span_of read

-- what is read now
abbrev pub IsFocus : List Arena.Node → State → Machine.Focus → ℕ → List UnitTree → Type 0
IsFocus nodes (State.At point) focus depth units = Steps.IsFocus nodes point focus depth units
IsFocus nodes (State.Expression unfinished reader) (Machine.Expression begun fs st read) depth units = IsUnder nodes unfinished begun fs depth units × IsReading nodes reader Goal.Expression st read
IsFocus nodes (State.Bounds unfinished frame reader) (Machine.Bounds begun f st read) depth units = IsUnder nodes unfinished begun [] depth units × IsFrame nodes frame f × IsReading nodes reader Goal.Bounds st read
IsFocus nodes _ _ depth units = ⊥

-- the reader stands where the machine does
abbrev pub IsState : List Arena.Node → State → Machine.State → Type 0
IsState nodes state st = IsFocus nodes state st.focus st.depth st.units

-- where the machine goes, or its refusal
abbrev pub IsMoved : List Arena.Node → Option State → Option Machine.State → Type 0
IsMoved nodes None None = Unit {0}
IsMoved nodes (Some state) (Some st) = IsState nodes state st
IsMoved nodes _ _ = ⊥

-- the same, and the nodes that were there stay
pub record Moves (nodes more : List Arena.Node) (state : Option State) (st : Option Machine.State) : Type 0 where
  pub grows : Grows nodes more
  pub is : IsMoved more state st

-- what is read is whole before a lexeme of this kind
abbrev pub IsWholeBefore : Goal → Expressions.State → LexKind → Tree → Type 0
IsWholeBefore Goal.Expression st kind tree = done_before (Some st) kind ≡ Some tree
IsWholeBefore Goal.Bounds st kind tree = bounds_done_before (Some st) kind ≡ Some (parts_of tree)

-- or is not
abbrev pub IsUnfinished : Goal → Expressions.State → LexKind → Type 0
IsUnfinished Goal.Expression st kind = done_before (Some st) kind ≡ None
IsUnfinished Goal.Bounds st kind = bounds_done_before (Some st) kind ≡ None

-- the lexeme goes on with what is read
pub record FeedsMore (nodes : List Arena.Node) (reader : ExprReader) (goal : Goal) (st : Expressions.State) (read : List Lexeme) (next : Lexeme) : Type 0 where
  pub state : Expressions.State
  pub steps : Expressions.step st next ≡ Some state
  pub is : IsReading nodes reader goal state (read ++ next ∷ [])

-- what became of a lexeme after those that were read
abbrev pub IsFed : List Arena.Node → ExprReader → Goal → Expressions.State → List Lexeme → Lexeme → Fed → Type 0
IsFed nodes reader goal st read next Fed.Going = IsUnfinished goal st next.kind × FeedsMore nodes reader goal st read next
IsFed nodes reader goal st read next (Fed.Done part) = IsWholeBefore goal st next.kind (tree_at nodes part.node) × IsPart nodes part (tree_at nodes part.node) read
IsFed nodes reader goal st read next Fed.Refused = IsUnfinished goal st next.kind × (Expressions.step st next ≡ None)

-- and old nodes stay
pub record Feeds (nodes more : List Arena.Node) (reader : ExprReader) (goal : Goal) (st : Expressions.State) (read : List Lexeme) (next : Lexeme) (fed : Fed) : Type 0 where
  pub grows : Grows nodes more
  pub is : IsFed more reader goal st read next fed

-- an expression in code stands for some state of the machine
abbrev pub IsReadyExpression : List Arena.Node → Unfinished → ExprReader → Type 0
IsReadyExpression nodes unfinished reader = (b : Machine.Begun) × (fs : List Machine.Frame) × (depth : ℕ) × (units : List UnitTree) × (st : Expressions.State) × (read : List Lexeme) × IsUnder nodes unfinished b fs depth units × IsReading nodes reader Goal.Expression st read

-- and a lexeme was fed to it
abbrev pub HasFedExpression : List Arena.Node → Unfinished → ExprReader → Lexeme → Fed → Type 0
HasFedExpression nodes unfinished reader next fed = (b : Machine.Begun) × (fs : List Machine.Frame) × (depth : ℕ) × (units : List UnitTree) × (st : Expressions.State) × (read : List Lexeme) × IsUnder nodes unfinished b fs depth units × IsFed nodes reader Goal.Expression st read next fed

-- bounds in code to which one was fed
abbrev pub HasFedBounds : List Arena.Node → Unfinished → Frame → ExprReader → Lexeme → Fed → Type 0
HasFedBounds nodes unfinished frame reader next fed = (b : Machine.Begun) × (depth : ℕ) × (units : List UnitTree) × (f : Machine.Frame) × (st : Expressions.State) × (read : List Lexeme) × IsUnder nodes unfinished b [] depth units × IsFrame nodes frame f × IsFed nodes reader Goal.Bounds st read next fed

-- and before one is
abbrev pub IsReadyBounds : List Arena.Node → Unfinished → Frame → ExprReader → Type 0
IsReadyBounds nodes unfinished frame reader = (b : Machine.Begun) × (depth : ℕ) × (units : List UnitTree) × (f : Machine.Frame) × (st : Expressions.State) × (read : List Lexeme) × IsUnder nodes unfinished b [] depth units × IsFrame nodes frame f × IsReading nodes reader Goal.Bounds st read

-- the reader stands where the machine may
abbrev pub IsReadyState : List Arena.Node → State → Type 0
IsReadyState nodes state = (st : Machine.State) × IsState nodes state st
