-- Lexemes that may follow every expression and ask nothing of it, and those before which an expression or bounds are done.
use Rattle.std.specs.Prelude.{◌≡◌, Bool, true, false, cond, Option, Some, None}
use Rattle.tla_symbols.specs.declared.op.Op.TheVariants as Op
use Rattle.tla_symbols.specs.declared.lexeme.LexKind.{LexKind}
use Rattle.tla_symbols.specs.declared.lexeme.Word.TheVariants as Word
use Rattle.tla_symbols.specs.declared.lexeme.Mark.TheVariants as Mark
use Rattle.tla_symbols.specs.declared.lexeme.Lexeme.{Lexeme}
use Rattle.tla_tree.specs.Syntax.{Tree, Trees}
use Rattle.tla_tree.specs.Alignment.{takes_left}
use Rattle.expr_grammar.specs.Kinds.{is_right_bracket}
use Rattle.expr_grammar.specs.Machine.{State, finish, finish_bounds}

-- no operator (and so no bullet), and no `[]`, which an arm could follow
pub record IsQuiet (lexeme : Lexeme) : Type 0 where
  pub apart : takes_left lexeme.kind ≡ false
  pub no_arm : lexeme.kind ≡ LexKind.Sym Op.Always → ⊥

-- the end, or such a lexeme
abbrev pub IsQuietNext : Option Lexeme → Type 0
IsQuietNext None = Unit {0}
IsQuietNext (Some lexeme) = IsQuiet lexeme

-- the lexemes before which an expression of a unit may be done
abbrev pub stops : LexKind → Bool
stops LexKind.Name = true
stops LexKind.Dashes = true
stops LexKind.Equals = true
stops LexKind.Close = true
stops (LexKind.Mark Mark.Comma) = true
stops (LexKind.Mark Mark.RightBracket) = true
stops (LexKind.Sym Op.Negative) = true
stops (LexKind.Word Word.Assume) = true
stops (LexKind.Word Word.Assumption) = true
stops (LexKind.Word Word.Axiom) = true
stops (LexKind.Word Word.Constant) = true
stops (LexKind.Word Word.Constants) = true
stops (LexKind.Word Word.Instance) = true
stops (LexKind.Word Word.Local) = true
stops (LexKind.Word Word.Theorem) = true
stops (LexKind.Word Word.Variable) = true
stops (LexKind.Word Word.Variables) = true
stops _ = false

-- the expression that is done before a lexeme, if one is
abbrev pub done_before : Option State → LexKind → Option Tree
done_before state kind = cond (stops kind) (finish state) None

-- the bounds that are done before a lexeme, if they are: alone before the `]` that closes the head of a function's definition
abbrev pub bounds_done_before : Option State → LexKind → Option Trees
bounds_done_before state kind = cond (is_right_bracket kind) (finish_bounds state) None
