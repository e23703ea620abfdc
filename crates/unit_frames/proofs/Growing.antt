-- What stands in the arena stays as nodes are added.
use Rattle.std.proofs.Common.{◌≡◌, ℕ, List, [], ◌∷◌, refl, ap, ◌∙◌}
use Rattle.std.specs.Prelude.{map}
use Rattle.std.specs.List.{AllByRecursion}
use Rattle.tla_tree.specs.Arena as Arena
use Rattle.tla_tree.specs.Arena.{AreThere}
use Rattle.tla_tree.specs.Syntax.{Trees, trees}
use Rattle.tla_tree.specs.declared.unit.Unit.TheVariants as unit
use Rattle.tree_parts.specs.Parts.{Grows}
use Rattle.tree_parts.proofs.Growing.{grows-length, there-longer, map-grows, tree_at-grows}
use Rattle.unit_grammar.specs.Units.{UnitTree, Constants, OperatorDefinition, FunctionDefinition, ModuleDefinition, Instance, Assumption, Theorem}
use Rattle.unit_machine.specs.Machine as Machine
use Rattle.unit_frames.specs.declared.frame.Frame.{Frame}
use Rattle.unit_frames.specs.declared.reached.Reached.{Reached}
use Rattle.unit_frames.specs.declared.unfinished.Begun.{Begun}
use Rattle.unit_frames.specs.declared.unfinished.Unfinished.{Unfinished}
use Rattle.unit_grammar.specs.UnitNodes.{unit_at, nodes_in, AreUnits}
use Rattle.unit_frames.specs.FrameMeaning.{AreParts, IsFrame, AreFrames, IsBegun, IsReached, IsUnder}

pub there-grows : (nodes more : List Arena.Node) (numbers : List ℕ) → Grows nodes more → AreThere nodes numbers → AreThere more numbers
there-grows nodes more numbers g t = there-longer 0 0 numbers nodes more (grows-length nodes more g) t

pub parts-grow : (nodes more : List Arena.Node) (numbers : List ℕ) (xs : Trees) → Grows nodes more → AreParts nodes numbers xs → AreParts more numbers xs
parts-grow nodes more numbers xs g p = record {
  there = there-grows nodes more numbers g p.there;
  are = ap trees (map-grows nodes more numbers g p.there) ∙ p.are;
}

pub frame-grows : (nodes more : List Arena.Node) (held : Frame) (f : Machine.Frame) → Grows nodes more → IsFrame nodes held f → IsFrame more held f
frame-grows nodes more held f g i = record {
  wait = i.wait;
  parts = parts-grow nodes more held.parts f.parts g i.parts;
  span = i.span;
}

pub frames-grow : (nodes more : List Arena.Node) (hs : List Frame) (fs : List Machine.Frame) → Grows nodes more → AreFrames nodes hs fs → AreFrames more hs fs
frames-grow nodes more [] [] g a = a
frames-grow nodes more [] (f ∷ fs) g a = absurd a
frames-grow nodes more (h ∷ hs) [] g a = absurd a
frames-grow nodes more (h ∷ hs) (f ∷ fs) g a = (frame-grows nodes more h f g a.0, frames-grow nodes more hs fs g a.1)

pub begun-grows : (nodes more : List Arena.Node) (begun : Begun) (b : Machine.Begun) → Grows nodes more → IsBegun nodes begun b → IsBegun more begun b
begun-grows nodes more (Begun.Constants ns) (Machine.OfConstants xs) g i = parts-grow nodes more ns xs g i
begun-grows nodes more (Begun.Constants ns) (Machine.OfDefinition l) g i = absurd i
begun-grows nodes more (Begun.Constants ns) (Machine.OfInstance l) g i = absurd i
begun-grows nodes more (Begun.Constants ns) (Machine.OfAssumption w) g i = absurd i
begun-grows nodes more (Begun.Constants ns) (Machine.OfTheorem w) g i = absurd i
begun-grows nodes more (Begun.Definition k) (Machine.OfDefinition l) g i = i
begun-grows nodes more (Begun.Definition k) (Machine.OfConstants xs) g i = absurd i
begun-grows nodes more (Begun.Definition k) (Machine.OfInstance l) g i = absurd i
begun-grows nodes more (Begun.Definition k) (Machine.OfAssumption w) g i = absurd i
begun-grows nodes more (Begun.Definition k) (Machine.OfTheorem w) g i = absurd i
begun-grows nodes more (Begun.Instance k) (Machine.OfInstance l) g i = i
begun-grows nodes more (Begun.Instance k) (Machine.OfConstants xs) g i = absurd i
begun-grows nodes more (Begun.Instance k) (Machine.OfDefinition l) g i = absurd i
begun-grows nodes more (Begun.Instance k) (Machine.OfAssumption w) g i = absurd i
begun-grows nodes more (Begun.Instance k) (Machine.OfTheorem w) g i = absurd i
begun-grows nodes more (Begun.Assumption v) (Machine.OfAssumption w) g i = i
begun-grows nodes more (Begun.Assumption v) (Machine.OfConstants xs) g i = absurd i
begun-grows nodes more (Begun.Assumption v) (Machine.OfDefinition l) g i = absurd i
begun-grows nodes more (Begun.Assumption v) (Machine.OfInstance l) g i = absurd i
begun-grows nodes more (Begun.Assumption v) (Machine.OfTheorem w) g i = absurd i
begun-grows nodes more (Begun.Theorem v) (Machine.OfTheorem w) g i = i
begun-grows nodes more (Begun.Theorem v) (Machine.OfConstants xs) g i = absurd i
begun-grows nodes more (Begun.Theorem v) (Machine.OfDefinition l) g i = absurd i
begun-grows nodes more (Begun.Theorem v) (Machine.OfInstance l) g i = absurd i
begun-grows nodes more (Begun.Theorem v) (Machine.OfAssumption w) g i = absurd i

unit-grows : (nodes more : List Arena.Node) (u : unit.the_data) → Grows nodes more → AreThere nodes (nodes_in u) → unit_at more u ≡ unit_at nodes u
unit-grows nodes more (unit.Variables names) g t = refl
unit-grows nodes more (unit.Constants ns) g t = ap (λ z. Constants (trees z)) (map-grows nodes more ns g t)
unit-grows nodes more (unit.OperatorDefinition l n) g t = ap (OperatorDefinition l) (tree_at-grows nodes more n g t.0)
unit-grows nodes more (unit.FunctionDefinition l n) g t = ap (FunctionDefinition l) (tree_at-grows nodes more n g t.0)
unit-grows nodes more (unit.ModuleDefinition l n) g t = ap (ModuleDefinition l) (tree_at-grows nodes more n g t.0)
unit-grows nodes more (unit.Instance l n) g t = ap (Instance l) (tree_at-grows nodes more n g t.0)
unit-grows nodes more (unit.Assumption w k n) g t = ap (Assumption w k) (tree_at-grows nodes more n g t.0)
unit-grows nodes more (unit.Theorem w k n) g t = ap (Theorem w k) (tree_at-grows nodes more n g t.0)
unit-grows nodes more (unit.Line d) g t = refl
unit-grows nodes more (unit.ModuleBegin d n e) g t = refl
unit-grows nodes more (unit.ModuleEnd c) g t = refl

all-grow : (nodes more : List Arena.Node) (us : List unit.the_data) → Grows nodes more → AllByRecursion (λ u. AreThere nodes (nodes_in u)) us → AllByRecursion (λ u. AreThere more (nodes_in u)) us
all-grow nodes more [] g t = tt
all-grow nodes more (u ∷ us) g t = (there-grows nodes more (nodes_in u) g t.0, all-grow nodes more us g t.1)

map-units : (nodes more : List Arena.Node) (us : List unit.the_data) → Grows nodes more → AllByRecursion (λ u. AreThere nodes (nodes_in u)) us → map (unit_at more) us ≡ map (unit_at nodes) us
map-units nodes more [] g t = refl
map-units nodes more (u ∷ us) g t = rw (unit-grows nodes more u g t.0, map-units nodes more us g t.1) refl

pub units-grow : (nodes more : List Arena.Node) (us : List unit.the_data) (found : List UnitTree) → Grows nodes more → AreUnits nodes us found → AreUnits more us found
units-grow nodes more us found g a = record {
  there = all-grow nodes more us g a.there;
  are = map-units nodes more us g a.there ∙ a.are;
}

pub reached-grows : (nodes more : List Arena.Node) (reached : Reached) (d : ℕ) (us : List UnitTree) → Grows nodes more → IsReached nodes reached d us → IsReached more reached d us
reached-grows nodes more reached d us g i = record { depth = i.depth; units = units-grow nodes more reached.units us g i.units }

pub under-grows : (nodes more : List Arena.Node) (unfinished : Unfinished) (b : Machine.Begun) (fs : List Machine.Frame) (d : ℕ) (us : List UnitTree) → Grows nodes more → IsUnder nodes unfinished b fs d us → IsUnder more unfinished b fs d us
under-grows nodes more unfinished b fs d us g i = record {
  reached = reached-grows nodes more unfinished.reached d us g i.reached;
  begun = begun-grows nodes more unfinished.begun b g i.begun;
  below = frames-grow nodes more _ fs g i.below;
}
