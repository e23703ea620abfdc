use Rattle.std.proofs.Common.{List, length}
use Rattle.tla_symbols.specs.declared.lexeme.Lexeme.{Lexeme}
use Rattle.tla_tree.specs.Syntax.{Tree}
use Rattle.expr_grammar.specs.Machine.{Frame}
use Rattle.expr_grammar.specs.Counting.{made_close}
use Rattle.expr_parse.specs.Ending.{closing}
use Rattle.tree_parts.specs.Parts.{IsPart}
use Rattle.expr_stack.specs.StackMeaning.{Stands}
use Rattle.expr_parse.proofs.Going.{Goes}
use Rattle.expr_parse.proofs.ending.close_all.Given as goal

abbrev pub invariant-loop-stack : goal.invariant-loop-stack
invariant-loop-stack l = record {
  goes : (fs : List Frame) → (e : Tree) → (b : List Lexeme) → Stands l.initial.tree l.initial.stack fs → IsPart l.initial.tree l.fn.operand e b → Goes closing made_close l.initial.tree l.tree l.stack l.part fs e b;
}

abbrev pub decreases-loop-stack : goal.decreases-loop-stack
decreases-loop-stack l = length l.stack.frames.items
