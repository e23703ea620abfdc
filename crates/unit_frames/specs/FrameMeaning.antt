-- What is kept of a module stands for what the machine has: frames, the unit that is read, and the units so far.
use Rattle.std.specs.Prelude.{◌≡◌, ℕ, List, [], ◌∷◌, map, reverse}
use Rattle.tla_symbols.specs.declared.lexeme.Lexeme.{Lexeme}
use Rattle.tla_tree.specs.Arena as Arena
use Rattle.tla_tree.specs.Arena.{AreThere, tree_at}
use Rattle.tla_tree.specs.Syntax.{Tree, Trees, trees}
use Rattle.tree_parts.specs.declared.part.Part.{Part}
use Rattle.tree_parts.specs.Parts.{IsPart, Grows, span_of}
use Rattle.unit_grammar.specs.Units.{UnitTree}
use Rattle.unit_grammar.specs.UnitNodes.{AreUnits}
use Rattle.unit_machine.specs.Machine as Machine
use Rattle.unit_frames.specs.declared.frame.Frame.{Frame}
use Rattle.unit_frames.specs.declared.reached.Reached.{Reached}
use Rattle.unit_frames.specs.declared.unfinished.Begun.{Begun}
use Rattle.unit_frames.specs.declared.unfinished.Unfinished.{Unfinished}

-- the nodes with these numbers are there, and are these trees
pub record AreParts (nodes : List Arena.Node) (numbers : List ℕ) (parts : Trees) : Type 0 where
  pub there : AreThere nodes numbers
  pub are : trees (map (tree_at nodes) numbers) ≡ parts

-- a frame stands for one of the machine
pub record IsFrame (nodes : List Arena.Node) (held : Frame) (frame : Machine.Frame) : Type 0 where
  pub wait : held.wait ≡ frame.wait
  pub parts : AreParts nodes held.parts frame.parts
  pub span : held.span ≡ span_of frame.read

-- frames, the innermost first
abbrev pub AreFrames : List Arena.Node → List Frame → List Machine.Frame → Type 0
AreFrames nodes [] [] = Unit {0}
AreFrames nodes (held ∷ rest) (frame ∷ frames) = IsFrame nodes held frame × AreFrames nodes rest frames
AreFrames nodes _ _ = ⊥

-- so does a unit that is read
abbrev pub IsBegun : List Arena.Node → Begun → Machine.Begun → Type 0
IsBegun nodes (Begun.Constants declarations) (Machine.OfConstants xs) = AreParts nodes declarations xs
IsBegun nodes (Begun.Definition local) (Machine.OfDefinition before) = local ≡ before
IsBegun nodes (Begun.Instance local) (Machine.OfInstance before) = local ≡ before
IsBegun nodes (Begun.Assumption word) (Machine.OfAssumption w) = word ≡ w
IsBegun nodes (Begun.Theorem word) (Machine.OfTheorem w) = word ≡ w
IsBegun nodes _ _ = ⊥

-- so many modules are open, after these units
pub record IsReached (nodes : List Arena.Node) (reached : Reached) (d : ℕ) (us : List UnitTree) : Type 0 where
  pub depth : reached.depth ≡ d
  pub units : AreUnits nodes reached.units us

-- and all that is kept of it beside its innermost frame
pub record IsUnder (nodes : List Arena.Node) (unfinished : Unfinished) (b : Machine.Begun) (fs : List Machine.Frame) (d : ℕ) (us : List UnitTree) : Type 0 where
  pub reached : IsReached nodes unfinished.reached d us
  pub begun : IsBegun nodes unfinished.begun b
  pub below : AreFrames nodes (reverse unfinished.below.items) fs

-- a node was made
pub record Makes (nodes more : List Arena.Node) (part : Part) (tree : Tree) (spelled : List Lexeme) : Type 0 where
  pub grows : Grows nodes more
  pub is : IsPart more part tree spelled

-- a frame took a part
pub record Takes (nodes more : List Arena.Node) (held : Frame) (frame : Machine.Frame) : Type 0 where
  pub grows : Grows nodes more
  pub is : IsFrame more held frame
