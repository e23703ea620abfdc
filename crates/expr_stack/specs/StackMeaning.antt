-- What a stack stands for: frames and trees of the machine.
use Rattle.std.specs.Prelude.{◌≡◌, ℕ, ◌+◌, ◌≤◌, List, [], ◌∷◌, length, take, drop, map, reverse, Option, Some, None}
use Rattle.tla_symbols.specs.declared.lexeme.Span.{Span}
use Rattle.tla_symbols.specs.declared.lexeme.Lexeme.{Lexeme}
use Rattle.tla_tree.specs.Arena as Arena
use Rattle.tla_tree.specs.Arena.{AreThere, tree_at}
use Rattle.tla_tree.specs.Syntax.{Tree}
use Rattle.tree_parts.specs.declared.part.Part.{Part}
use Rattle.tree_parts.specs.Parts.{IsPart, Grows, span_of}
use Rattle.expr_grammar.specs.declared.wait.Wait.{Wait}
use Rattle.expr_grammar.specs.Machine as Machine
use Rattle.expr_grammar.specs.Machine.{inner}
use Rattle.expr_stack.specs.declared.stack.Opening.{Opening}
use Rattle.expr_stack.specs.declared.stack.Frame.{Frame}
use Rattle.expr_stack.specs.declared.stack.Stack.{Stack}

-- the numbers of a frame's parts are those of its trees, and its span that of the lexemes that it has read
pub record IsOf (nodes : List Arena.Node) (numbers : List ℕ) (stretch : Option Span) (parts : List Tree) (read : List Lexeme) : Type 0 where
  pub there : AreThere nodes numbers
  pub are : map (tree_at nodes) numbers ≡ parts
  pub span : stretch ≡ span_of read

-- the frames, the innermost first, and the numbers of the parts of all of them, the outermost first
abbrev pub AreFrames : List Arena.Node → List Frame → List ℕ → List Machine.Frame → Type 0
AreFrames nodes [] numbers [] = numbers ≡ []
AreFrames nodes (held ∷ rest) numbers (frame ∷ frames) =
    (held.wait ≡ frame.wait)
    × (held.inner ≡ inner (frame ∷ frames))
    × (held.opening.first ≤ length numbers)
    × IsOf nodes (drop held.opening.first numbers) held.opening.span frame.parts frame.read
    × AreFrames nodes rest (take held.opening.first numbers) frames
AreFrames nodes _ numbers _ = ⊥

-- the stack stands for these frames
abbrev pub Stands : List Arena.Node → Stack → List Machine.Frame → Type 0
Stands nodes stack frames = AreFrames nodes (reverse stack.frames.items) stack.parts.items frames

-- above the frames of the stack another one opens: its parts are on the stack already
pub record Opens (nodes : List Arena.Node) (stack : Stack) (opening : Opening) (parts : List Tree) (read : List Lexeme) (below : List Machine.Frame) : Type 0 where
  pub first : opening.first ≤ length stack.parts.items
  pub own : IsOf nodes (drop opening.first stack.parts.items) opening.span parts read
  pub stands : AreFrames nodes (reverse stack.frames.items) (take opening.first stack.parts.items) below

-- the frame that was taken from the stack, and the frames below
abbrev pub IsTop : List Arena.Node → Stack → Option Frame → List Machine.Frame → Type 0
IsTop nodes stack None [] = Stands nodes stack []
IsTop nodes stack None (frame ∷ below) = ⊥
IsTop nodes stack (Some held) [] = ⊥
IsTop nodes stack (Some held) (frame ∷ below) = (held.wait ≡ frame.wait) × Opens nodes stack held.opening frame.parts frame.read below

-- what the innermost frame waits for
abbrev pub IsWait : Option Wait → List Machine.Frame → Type 0
IsWait None [] = Unit {0}
IsWait None (frame ∷ below) = ⊥
IsWait (Some wait) [] = ⊥
IsWait (Some wait) (frame ∷ below) = wait ≡ frame.wait

-- a node was made of what had opened, and its frame is gone
pub record Made (nodes more : List Arena.Node) (stack : Stack) (part : Part) (tree : Tree) (spelled : List Lexeme) (below : List Machine.Frame) : Type 0 where
  pub grows : Grows nodes more
  pub one : length more ≡ length nodes + 1
  pub stands : Stands more stack below
  pub is : IsPart more part tree spelled

-- a frame is open above some frames of the machine
pub record IsOpen (nodes : List Arena.Node) (stack : Stack) (opening : Opening) : Type 0 where
  pub parts : List Tree
  pub read : List Lexeme
  pub below : List Machine.Frame
  pub opens : Opens nodes stack opening parts read below
