-- Sample lists, with the nodes that the machine makes of them.
use Rattle.std.specs.Prelude.{◌≡◌, [], ◌∷◌, refl}
use Rattle.tla_symbols.specs.declared.op.Op.TheVariants as Op
use Rattle.tla_symbols.specs.declared.lexeme.LexKind.{LexKind}
use Rattle.tla_symbols.specs.declared.lexeme.Mark.TheVariants as Mark
use Rattle.precedence.specs.Choices.{meets, joins, same_edge, same_op, op_number, fix_number, choose}
use Rattle.expr_grammar.specs.Counting.{made}
use Rattle.expr_laws.proofs.Samples.{lexeme}

-- a
name-made : made (lexeme LexKind.Name 0 1 0 ∷ []) ≡ 2
name-made = refl

-- a + b
sum-made : made (lexeme LexKind.Name 0 1 0 ∷ lexeme (LexKind.Sym Op.Plus) 2 3 2 ∷ lexeme LexKind.Name 4 5 4 ∷ []) ≡ 5
unfolding meets joins same_edge same_op op_number fix_number choose
sum-made = refl

-- {x \in S : T}: the operands `x` and `x \in S` make way for a name and a bound
filter-made : made (lexeme (LexKind.Mark Mark.LeftBrace) 0 1 0 ∷ lexeme LexKind.Name 1 2 1 ∷ lexeme (LexKind.Sym Op.In) 3 6 3 ∷ lexeme LexKind.Name 7 8 7 ∷ lexeme (LexKind.Mark Mark.Colon) 9 10 9 ∷ lexeme LexKind.Name 11 12 11 ∷ lexeme (LexKind.Mark Mark.RightBrace) 12 13 12 ∷ []) ≡ 10
unfolding meets joins same_edge same_op op_number fix_number choose
filter-made = refl

-- [a |-> 1]: the operand `a` makes way for a field
record-made : made (lexeme (LexKind.Mark Mark.LeftBracket) 0 1 0 ∷ lexeme LexKind.Name 1 2 1 ∷ lexeme (LexKind.Mark Mark.MapsTo) 3 6 3 ∷ lexeme LexKind.Number 7 8 7 ∷ lexeme (LexKind.Mark Mark.RightBracket) 8 9 8 ∷ []) ≡ 5
record-made = refl

-- [x, y \in S |-> 1]: the operand `x` makes way for a name
function-made : made (lexeme (LexKind.Mark Mark.LeftBracket) 0 1 0 ∷ lexeme LexKind.Name 1 2 1 ∷ lexeme (LexKind.Mark Mark.Comma) 2 3 2 ∷ lexeme LexKind.Name 4 5 4 ∷ lexeme (LexKind.Sym Op.In) 6 9 6 ∷ lexeme LexKind.Name 10 11 10 ∷ lexeme (LexKind.Mark Mark.MapsTo) 12 15 12 ∷ lexeme LexKind.Number 16 17 16 ∷ lexeme (LexKind.Mark Mark.RightBracket) 17 18 17 ∷ []) ≡ 9
unfolding meets joins same_edge same_op op_number fix_number choose
function-made = refl
