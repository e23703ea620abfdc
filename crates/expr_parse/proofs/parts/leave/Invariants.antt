use Rattle.std.proofs.Common.{List, length}
use Rattle.tla_symbols.specs.declared.lexeme.Lexeme.{Lexeme}
use Rattle.tla_tree.specs.Syntax.{Tree}
use Rattle.expr_grammar.specs.Machine.{Frame, leave}
use Rattle.expr_grammar.specs.Counting.{made_leave}
use Rattle.tree_parts.specs.Parts.{IsPart}
use Rattle.expr_stack.specs.StackMeaning.{Stands}
use Rattle.expr_parse.proofs.Going.{Goes}
use Rattle.expr_parse.proofs.parts.leave.Given as goal

abbrev pub invariant-loop-frame : goal.invariant-loop-frame
invariant-loop-frame l = record {
  goes : (fs : List Frame) → (e : Tree) → (b : List Lexeme) → Stands l.initial.tree l.initial.stack fs → IsPart l.initial.tree l.fn.operand e b → Goes (λ frames tree spelled. leave frames tree spelled l.lexeme) (λ frames tree spelled. made_leave frames tree spelled l.lexeme) l.initial.tree l.tree l.stack l.part fs e b;
}

abbrev pub decreases-loop-frame : goal.decreases-loop-frame
decreases-loop-frame l = length l.stack.frames.items
