-- How what is read ends: all frames end but the outermost one, which takes the last part as the whole.
use Rattle.std.specs.Prelude.{◌≡◌, ℕ, ◌+◌, ◌<◌, ◌≤◌, Bool, true, false, List, [], ◌∷◌, ◌++◌, length, Option, Some, None, option_and_then}
use Rattle.tla_symbols.specs.declared.lexeme.Lexeme.{Lexeme}
use Rattle.tla_tree.specs.declared.form.Form.{Form}
use Rattle.tla_tree.specs.Forms.{helps}
use Rattle.tla_tree.specs.Arena as Arena
use Rattle.tla_tree.specs.Arena.{tree_at}
use Rattle.tla_tree.specs.Syntax.{Tree, trees, form}
use Rattle.tree_parts.specs.Parts.{parts_of, IsPart, Grows}
use Rattle.expr_grammar.specs.declared.wait.Shape.{Shape}
use Rattle.expr_grammar.specs.declared.wait.Wait.{Wait}
use Rattle.expr_grammar.specs.Tables.{shape, shape_by, is_expression, finishes, endable}
use Rattle.expr_grammar.specs.Machine as Machine
use Rattle.expr_grammar.specs.Machine.{State, At, Have, closed, node}
use Rattle.expr_parse.specs.declared.goal.Goal.{Goal}
use Rattle.expr_stack.specs.declared.stack.Frame.{Frame}
use Rattle.tree_parts.specs.declared.part.Part.{Part}
use Rattle.expr_stack.specs.declared.stack.Stack.{Stack}
use Rattle.expr_stack.specs.StackMeaning.{Stands}

-- the outermost frame, with a part beside it
pub record Outermost : Type 0 where
  pub frame : Machine.Frame
  pub tree : Tree
  pub spelled : List Lexeme

-- what is left when all frames but the outermost have ended, if they may
abbrev pub closing : List Machine.Frame → Tree → List Lexeme → Option Outermost
closing fs e b = closed (λ f last read. Some (record { frame = f; tree = last; spelled = read })) fs e b

-- the same of a state, whose innermost frame must end by itself where no part is finished
abbrev pub ending : State → Option Outermost
ending (At []) = None
ending (At (f ∷ fs)) = option_and_then (λ form. closing fs (node form f) f.read) (endable f.wait None)
ending (Have fs e b) = closing fs e b

-- the same, where a refused lexeme has left no state
abbrev pub ending_of : Option State → Option Outermost
ending_of None = None
ending_of (Some state) = ending state

-- whether the outermost frame takes a part of this shape as the whole
abbrev pub takes_whole : Goal → Wait → Shape → Bool
takes_whole Goal.Expression Wait.Whole sh = is_expression sh
takes_whole Goal.Bounds Wait.WholeBounds Shape.Bound = true
takes_whole goal _ sh = false

-- what is left is the whole that the goal asks for
abbrev pub is_whole : Goal → Option Outermost → Bool
is_whole goal None = false
is_whole goal (Some last) = takes_whole goal last.frame.wait (shape last.tree)

-- what the form of a part says of its shape
abbrev pub shape_of_form : Form → Shape
shape_of_form Form.Names = Shape.Names
shape_of_form Form.TupleNames = Shape.Names
shape_of_form Form.Bound = Shape.Bound
shape_of_form Form.TupleBound = Shape.Bound
shape_of_form Form.Arm = Shape.Arm
shape_of_form Form.OtherArm = Shape.OtherArm
shape_of_form (Form.Instance m) = Shape.Instance
shape_of_form (Form.Symbol t) = Shape.Symbol
shape_of_form f = shape_by (helps f)

-- goes on with the form of a frame that ends, and fails where the frame may not end
abbrev pub on_ending : Option Form → (Form → Bool) → Bool
on_ending None go = false
on_ending (Some form) go = go form

-- the same of the code's frames, the innermost first, by the shape of the last part alone
abbrev pub all_end : Goal → List Frame → Shape → Bool
all_end goal [] sh = false
all_end goal (held ∷ []) sh = takes_whole goal held.wait sh
all_end goal (held ∷ next ∷ rest) sh = on_ending (finishes held.wait sh) (λ form. all_end goal (next ∷ rest) (shape_of_form form))

-- the code's stack holds what is left
abbrev pub IsLeft : List Arena.Node → Stack → Option Part → Option Outermost → Type 0
IsLeft nodes stack None None = Unit {0}
IsLeft nodes stack (Some part) (Some last) = Stands nodes stack (last.frame ∷ []) × IsPart nodes part last.tree last.spelled
IsLeft nodes stack _ _ = ⊥

-- the frames have ended to what is left, with no more new nodes than these; old ones stay
pub record Closes (nodes more : List Arena.Node) (stack : Stack) (part : Option Part) (last : Option Outermost) (made : ℕ) : Type 0 where
  pub grows : Grows nodes more
  pub few : length more ≤ length nodes + made
  pub left : IsLeft more stack part last

-- the node has the expression, or bounds
abbrev pub IsOf : Goal → Tree → Machine.Frame → Tree → Type 0
IsOf Goal.Expression tree frame last = tree ≡ last
IsOf Goal.Bounds tree frame last = (form tree ≡ Form.Bounds) × (parts_of tree ≡ trees (frame.parts ++ last ∷ []))

-- a node has what the goal asks of the outermost frame and its part, with at most one node more
pub record IsGoal (nodes more : List Arena.Node) (node : ℕ) (goal : Goal) (frame : Machine.Frame) (last : Tree) : Type 0 where
  pub grows : Grows nodes more
  pub few : length more ≤ length nodes + 1
  pub there : node < length more
  pub is : IsOf goal (tree_at more node) frame last
