-- What stacks stand for stays as nodes are added.
use Rattle.std.proofs.Common.{ℕ, List, [], ◌∷◌, ◌∙◌}
use Rattle.tla_symbols.specs.declared.lexeme.Lexeme.{Lexeme}
use Rattle.tla_tree.specs.Arena.{Node}
use Rattle.tla_tree.specs.Syntax.{Tree}
use Rattle.expr_grammar.specs.Machine as Machine
use Rattle.tree_parts.specs.Parts.{Grows}
use Rattle.tree_parts.proofs.Growing.{grows-length, there-longer, map-grows}
use Rattle.expr_stack.specs.declared.stack.Frame.{Frame}
use Rattle.expr_stack.specs.declared.stack.Opening.{Opening}
use Rattle.expr_stack.specs.declared.stack.Stack.{Stack}
use Rattle.expr_stack.specs.StackMeaning.{IsOf, AreFrames, Stands, Opens}

pub of-grows : (nodes more : List Node) (numbers : List ℕ) (span : _) (ps : List Tree) (a : List Lexeme) → Grows nodes more → IsOf nodes numbers span ps a → IsOf more numbers span ps a
of-grows nodes more numbers span ps a g o = record {
  there = there-longer 0 0 numbers nodes more (grows-length nodes more g) o.there;
  are = map-grows nodes more numbers g o.there ∙ o.are;
  span = o.span;
}

pub frames-grow : (nodes more : List Node) (hs : List Frame) (numbers : List ℕ) (fs : List Machine.Frame) → Grows nodes more → AreFrames nodes hs numbers fs → AreFrames more hs numbers fs
frames-grow nodes more [] numbers [] g s = s
frames-grow nodes more [] numbers (f ∷ fs) g s = absurd s
frames-grow nodes more (h ∷ hs) numbers [] g s = absurd s
frames-grow nodes more (h ∷ hs) numbers (f ∷ fs) g s =
    (s.0, s.1, s.2, of-grows nodes more _ _ f.parts f.read g s.3, frames-grow nodes more hs _ fs g s.4)

pub opens-grow : (nodes more : List Node) (stack : Stack) (opening : Opening) (ps : List Tree) (a : List Lexeme) (fs : List Machine.Frame) → Grows nodes more → Opens nodes stack opening ps a fs → Opens more stack opening ps a fs
opens-grow nodes more stack opening ps a fs g o = record {
  first = o.first;
  own = of-grows nodes more _ _ ps a g o.own;
  stands = frames-grow nodes more _ _ fs g o.stands;
}

pub stands-grow : (nodes more : List Node) (stack : Stack) (fs : List Machine.Frame) → Grows nodes more → Stands nodes stack fs → Stands more stack fs
stands-grow nodes more stack fs g s = frames-grow nodes more _ _ fs g s
