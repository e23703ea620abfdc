-- Where the reading stands between lexemes, and where a lexeme leads, stand for states of the machine for units.
use Rattle.std.specs.Prelude.{◌≡◌, ℕ, List, [], ◌∷◌, reverse, Option, Some, None}
use Rattle.tla_symbols.specs.declared.lexeme.Lexeme.{Lexeme}
use Rattle.tla_tree.specs.declared.form.Form.{Form}
use Rattle.tla_tree.specs.Arena as Arena
use Rattle.tla_tree.specs.Syntax.{Tree}
use Rattle.tree_parts.specs.declared.part.Part.{Part}
use Rattle.tree_parts.specs.Parts.{IsPart, Grows}
use Rattle.expr_grammar.specs.Machine as Expressions
use Rattle.expr_grammar.specs.Machine.{start, start_bounds}
use Rattle.unit_machine.specs.declared.wait.Move.{Move}
use Rattle.unit_machine.specs.Tables.{move}
use Rattle.unit_grammar.specs.Units.{UnitTree}
use Rattle.unit_machine.specs.Machine as Machine
use Rattle.unit_machine.specs.Machine.{node, taking, part_step, moved, finished, reading}
use Rattle.unit_frames.specs.declared.frame.Frame.{Frame}
use Rattle.unit_frames.specs.declared.unfinished.Unfinished.{Unfinished}
use Rattle.unit_frames.specs.FrameMeaning.{AreParts, IsFrame, AreFrames, IsReached, IsUnder}
use Rattle.unit_steps.specs.declared.point.Point.{Point}
use Rattle.unit_steps.specs.declared.point.Next.{Next}

-- what is read now, while that is no expression
abbrev pub IsFocus : List Arena.Node → Point → Machine.Focus → ℕ → List UnitTree → Type 0
IsFocus nodes (Point.Stands reached due names) (Machine.Stands d ns) depth units = (due ≡ d) × (names ≡ ns) × IsReached nodes reached depth units
IsFocus nodes (Point.Declared reached declarations) (Machine.Declared xs) depth units = AreParts nodes declarations xs × IsReached nodes reached depth units
IsFocus nodes (Point.Part unfinished frame) (Machine.Part begun f fs) depth units = IsUnder nodes unfinished begun fs depth units × IsFrame nodes frame f
IsFocus nodes _ _ depth units = ⊥

-- the reading stands where the machine does
abbrev pub IsPoint : List Arena.Node → Point → Machine.State → Type 0
IsPoint nodes point st = IsFocus nodes point st.focus st.depth st.units

-- a lexeme led to what is read now; of an expression and of bounds nothing was read
abbrev pub IsNextFocus : List Arena.Node → Next → Machine.Focus → ℕ → List UnitTree → Type 0
IsNextFocus nodes (Next.At point) focus depth units = IsFocus nodes point focus depth units
IsNextFocus nodes (Next.Awaits unfinished) (Machine.Expression begun fs st read) depth units = IsUnder nodes unfinished begun fs depth units × (st ≡ start) × (read ≡ [])
IsNextFocus nodes (Next.Bounds unfinished frame) (Machine.Bounds begun f st read) depth units = IsUnder nodes unfinished begun [] depth units × IsFrame nodes frame f × (st ≡ start_bounds) × (read ≡ [])
IsNextFocus nodes _ _ depth units = ⊥

-- it led where the machine stands
abbrev pub IsNext : List Arena.Node → Next → Machine.State → Type 0
IsNext nodes next st = IsNextFocus nodes next st.focus st.depth st.units

-- an expression begins with the lexeme, above what is unfinished: whether one does is left to the machine for these
pub record Begins (nodes : List Arena.Node) (unfinished : Unfinished) (first : Lexeme) (st : Option Machine.State) : Type 0 where
  pub begun : Machine.Begun
  pub frames : List Machine.Frame
  pub depth : ℕ
  pub units : List UnitTree
  pub under : IsUnder nodes unfinished begun frames depth units
  pub same : st ≡ reading (Expressions.step start first) begun frames (first ∷ []) depth units

-- where the machine goes, or its refusal
abbrev pub IsMoved : List Arena.Node → Option Next → Option Machine.State → Type 0
IsMoved nodes (Some (Next.Begins unfinished first)) st = Begins nodes unfinished first st
IsMoved nodes None None = Unit {0}
IsMoved nodes (Some next) (Some st) = IsNext nodes next st
IsMoved nodes _ _ = ⊥

-- the same, and the nodes that were there stay
pub record Moves (nodes more : List Arena.Node) (next : Option Next) (st : Option Machine.State) : Type 0 where
  pub grows : Grows nodes more
  pub is : IsMoved more next st

-- the form of the node that a frame becomes, where the lexeme moves it so
abbrev pub form_of_end : Move → Option Form
form_of_end (Move.Ends form) = Some form
form_of_end _ = None

-- the frames that end before the lexeme have ended: the step is to take what is left
pub record EndsWhole (nodes : List Arena.Node) (part : Part) (f : Machine.Frame) (fs : List Machine.Frame) (next : Lexeme) : Type 0 where
  pub tree : Tree
  pub spelled : List Lexeme
  pub is : IsPart nodes part tree spelled
  pub same : (begun : Machine.Begun) → (depth : ℕ) → (units : List UnitTree) → part_step fs begun f depth units next ≡ finished begun tree depth units next

-- or one is left, which the lexeme moves
pub record EndsMoving (nodes : List Arena.Node) (outer : List Frame) (held : Frame) (f : Machine.Frame) (fs : List Machine.Frame) (next : Lexeme) : Type 0 where
  pub frame : Machine.Frame
  pub frames : List Machine.Frame
  pub is : IsFrame nodes held frame
  pub below : AreFrames nodes (reverse outer) frames
  pub same : (begun : Machine.Begun) → (depth : ℕ) → (units : List UnitTree) → part_step fs begun f depth units next ≡ moved (move held.wait next) begun frame frames depth units next (λ form. None)

-- which of the two
abbrev pub IsEnded : List Arena.Node → List Frame → Frame → Option Part → Machine.Frame → List Machine.Frame → Lexeme → Type 0
IsEnded nodes below held (Some part) f fs next = EndsWhole nodes part f fs next
IsEnded nodes below held None f fs next = EndsMoving nodes below held f fs next

-- and old nodes stay
pub record Ends (nodes more : List Arena.Node) (below : List Frame) (held : Frame) (whole : Option Part) (f : Machine.Frame) (fs : List Machine.Frame) (next : Lexeme) : Type 0 where
  pub grows : Grows nodes more
  pub is : IsEnded more below held whole f fs next

-- the frame below has taken the part of the one that ended
pub record TakesBelow (nodes : List Arena.Node) (left : List Frame) (held : Frame) (form : Form) (f : Machine.Frame) (fs : List Machine.Frame) : Type 0 where
  pub outer : Machine.Frame
  pub outers : List Machine.Frame
  pub was : fs ≡ outer ∷ outers
  pub is : IsFrame nodes held (taking outer (node form f) f.read)
  pub below : AreFrames nodes (reverse left) outers

-- or there is none below, and the part is whole
abbrev pub IsFrameEnded : List Arena.Node → List Frame → Frame → Form → Machine.Frame → List Machine.Frame → Option Part → Type 0
IsFrameEnded nodes below held form f fs (Some part) = (fs ≡ []) × IsPart nodes part (node form f) f.read
IsFrameEnded nodes below held form f fs None = TakesBelow nodes below held form f fs

-- one frame has ended
pub record EndsFrame (nodes more : List Arena.Node) (below : List Frame) (held : Frame) (form : Form) (f : Machine.Frame) (fs : List Machine.Frame) (ended : Option Part) : Type 0 where
  pub grows : Grows nodes more
  pub is : IsFrameEnded more below held form f fs ended

-- a frame and what is below it stand for some state of the machine
abbrev pub IsReadyPart : List Arena.Node → Unfinished → Frame → Type 0
IsReadyPart nodes unfinished frame = (b : Machine.Begun) × (fs : List Machine.Frame) × (depth : ℕ) × (units : List UnitTree) × (f : Machine.Frame) × IsUnder nodes unfinished b fs depth units × IsFrame nodes frame f

-- so do the frames once they have ended
abbrev pub IsReadyEnded : List Arena.Node → Unfinished → Frame → Option Part → Lexeme → Type 0
IsReadyEnded nodes unfinished frame whole next = (fs : List Machine.Frame) × (f : Machine.Frame) × IsEnded nodes unfinished.below.items frame whole f fs next

-- a frame, and a part for it
abbrev pub IsReadyTaking : List Arena.Node → Unfinished → Frame → Part → Type 0
IsReadyTaking nodes unfinished frame part = (b : Machine.Begun) × (fs : List Machine.Frame) × (depth : ℕ) × (units : List UnitTree) × (f : Machine.Frame) × (x : Tree) × (spelled : List Lexeme) × IsUnder nodes unfinished b fs depth units × IsFrame nodes frame f × IsPart nodes part x spelled

-- and a part that is whole
abbrev pub IsReadyWhole : List Arena.Node → Unfinished → Part → Type 0
IsReadyWhole nodes unfinished part = (b : Machine.Begun) × (fs : List Machine.Frame) × (depth : ℕ) × (units : List UnitTree) × (x : Tree) × (spelled : List Lexeme) × IsUnder nodes unfinished b fs depth units × IsPart nodes part x spelled

-- the reading stands where the machine may
abbrev pub IsReadyPoint : List Arena.Node → Point → Type 0
IsReadyPoint nodes point = (st : Machine.State) × IsPoint nodes point st
