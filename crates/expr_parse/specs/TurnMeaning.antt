-- What a lexeme led to in code, and parts that are made anew, stand for states and trees of the machine.
use Rattle.std.specs.Prelude.{◌≡◌, ℕ, cond, ◌+◌, ◌<◌, ◌≤◌, List, [], ◌∷◌, length, map, Option, Some, None}
use Rattle.tla_symbols.specs.declared.lexeme.Lexeme.{Lexeme}
use Rattle.tla_tree.specs.Arena as Arena
use Rattle.tla_tree.specs.Arena.{AreThere, tree_at}
use Rattle.tla_tree.specs.Syntax.{Tree, Trees, trees}
use Rattle.expr_grammar.specs.declared.wait.Wait.{Wait}
use Rattle.expr_grammar.specs.Machine as Machine
use Rattle.expr_grammar.specs.Machine.{State, At, Have}
use Rattle.expr_grammar.specs.declared.wait.Shape.{Shape}
use Rattle.expr_grammar.specs.declared.wait.Conversion.TheVariants as Conversion
use Rattle.expr_grammar.specs.Tables.{names_of, as_bound, bound_of, is_expression, list_of, goes_on}
use Rattle.expr_grammar.specs.Counting.{made_names, made_bound, made_converted}
use Rattle.expr_parse.specs.declared.convert.Operands.{Operands}
use Rattle.expr_stack.specs.declared.stack.Opening.{Opening}
use Rattle.expr_stack.specs.declared.stack.Frame.{Frame}
use Rattle.tree_parts.specs.declared.part.Part.{Part}
use Rattle.tree_parts.specs.Parts.{IsPart, Grows}
use Rattle.expr_stack.specs.declared.stack.Stack.{Stack}
use Rattle.expr_parse.specs.declared.turn.Turn.{Turn}
use Rattle.expr_stack.specs.StackMeaning.{Stands, Opens}

-- what a lexeme led to is the machine's state, or its refusal
abbrev pub IsTurn : List Arena.Node → Stack → Turn → Option State → Type 0
IsTurn nodes stack Turn.Refused None = Unit {0}
IsTurn nodes stack Turn.Due (Some (At frames)) = Stands nodes stack frames
IsTurn nodes stack (Turn.Read part) (Some (Have frames tree spelled)) = Stands nodes stack frames × IsPart nodes part tree spelled
IsTurn nodes stack _ _ = ⊥

-- a turn of the machine: old nodes stay, and no more are made than the machine makes
pub record Turns (nodes more : List Arena.Node) (stack : Stack) (turn : Turn) (state : Option State) (made : ℕ) : Type 0 where
  pub grows : Grows nodes more
  pub few : length more ≤ length nodes + made
  pub turned : IsTurn more stack turn state

-- what becomes of frames and a part is what the machine makes of what they stand for
abbrev pub Follows : (List Machine.Frame → Tree → List Lexeme → Option State) → (List Machine.Frame → Tree → List Lexeme → ℕ) → List Arena.Node → List Arena.Node → Stack → Stack → Part → Turn → Type 0
Follows machine made nodes more stack stack' part turn =
    (frames : List Machine.Frame) → (tree : Tree) → (spelled : List Lexeme) → Stands nodes stack frames → IsPart nodes part tree spelled
    → Turns nodes more stack' turn (machine frames tree spelled) (made frames tree spelled)

-- they stand for some frames of the machine, and for a part
pub record IsReady (nodes : List Arena.Node) (stack : Stack) (part : Part) : Type 0 where
  pub frames : List Machine.Frame
  pub tree : Tree
  pub spelled : List Lexeme
  pub stands : Stands nodes stack frames
  pub is : IsPart nodes part tree spelled

-- the stack stands for some frames of the machine
abbrev pub IsDue : List Arena.Node → Stack → Type 0
IsDue nodes stack = (frames : List Machine.Frame) × Stands nodes stack frames

-- a frame that was taken from the stack, and a part beside it
pub record IsBeside (nodes : List Arena.Node) (stack : Stack) (held : Frame) (part : Part) (frame : Machine.Frame) (below : List Machine.Frame) (tree : Tree) (spelled : List Lexeme) : Type 0 where
  pub wait : held.wait ≡ frame.wait
  pub opens : Opens nodes stack held.opening frame.parts frame.read below
  pub is : IsPart nodes part tree spelled

-- what becomes of them is what the machine makes of the frame, those below it, and the part
abbrev pub FollowsFrame : (Machine.Frame → List Machine.Frame → Tree → List Lexeme → Option State) → (Machine.Frame → List Machine.Frame → Tree → List Lexeme → ℕ) → List Arena.Node → List Arena.Node → Stack → Stack → Frame → Part → Turn → Type 0
FollowsFrame machine made nodes more stack stack' held part turn =
    (frame : Machine.Frame) → (below : List Machine.Frame) → (tree : Tree) → (spelled : List Lexeme) → IsBeside nodes stack held part frame below tree spelled
    → Turns nodes more stack' turn (machine frame below tree spelled) (made frame below tree spelled)

-- a frame that was taken from the stack and the part beside it stand for some of the machine
pub record CanTake (nodes : List Arena.Node) (stack : Stack) (held : Frame) (part : Part) : Type 0 where
  pub frame : Machine.Frame
  pub below : List Machine.Frame
  pub tree : Tree
  pub spelled : List Lexeme
  pub beside : IsBeside nodes stack held part frame below tree spelled

-- a frame took a part that may have been made anew
pub record Converts (nodes more : List Arena.Node) (stack : Stack) (opening : Opening) (parts : List Tree) (read : List Lexeme) (below : List Machine.Frame) (made : ℕ) : Type 0 where
  pub grows : Grows nodes more
  pub few : length more ≤ length nodes + made
  pub opens : Opens more stack opening parts read below

-- a part was made anew, or stays
pub record Becomes (nodes more : List Arena.Node) (part : Part) (tree : Tree) (spelled : List Lexeme) (made : ℕ) : Type 0 where
  pub grows : Grows nodes more
  pub few : length more ≤ length nodes + made
  pub is : IsPart more part tree spelled

-- a node has this tree, with no more new nodes than these; old ones stay
pub record Renamed (nodes more : List Arena.Node) (number : ℕ) (tree : Tree) (made : ℕ) : Type 0 where
  pub grows : Grows nodes more
  pub few : length more ≤ length nodes + made
  pub there : number < length more
  pub is : tree_at more number ≡ tree

-- the names that these trees turn out to be
pub record AreNames (nodes more : List Arena.Node) (numbers : List ℕ) (read : Trees) : Type 0 where
  pub grows : Grows nodes more
  pub few : length more ≤ length nodes + made_names read
  pub there : AreThere more numbers
  pub are : trees (map (tree_at more) numbers) ≡ names_of read

-- the operands of the infix form that may turn out to be a bound
abbrev pub AreOperands : List Arena.Node → Option Operands → Tree → Type 0
AreOperands nodes None tree = ((spelled : List Lexeme) → as_bound tree spelled ≡ tree) × (made_converted Conversion.AsBound tree ≡ 0)
AreOperands nodes (Some operands) tree =
    (operands.left < length nodes)
    × (operands.right < length nodes)
    × ((spelled : List Lexeme) → as_bound tree spelled ≡ bound_of (tree_at nodes operands.left) (tree_at nodes operands.right) spelled)
    × (made_converted Conversion.AsBound tree ≡ made_bound (tree_at nodes operands.left))

-- the list's first bullet, where a lexeme after this part begins the next item
abbrev pub continues_by : Option Lexeme → Lexeme → Option Lexeme
continues_by None t = None
continues_by (Some first) t = cond (goes_on first t) (Some first) None

-- the same after a part of this shape: only an expression is the item of a list
abbrev pub continues : Wait → Shape → Lexeme → Option Lexeme
continues wait shape t = continues_by (cond (is_expression shape) (list_of wait) None) t

-- the operands are these two numbers; of another count of numbers there are none
abbrev pub AreTwo : Option Operands → List ℕ → Type 0
AreTwo None (left ∷ right ∷ []) = ⊥
AreTwo None numbers = Unit {0}
AreTwo (Some operands) numbers = numbers ≡ operands.left ∷ operands.right ∷ []

-- a turn that the machine may stand at
abbrev pub IsTurnReady : List Arena.Node → Stack → Turn → Type 0
IsTurnReady nodes stack turn = (state : Option State) × IsTurn nodes stack turn state
