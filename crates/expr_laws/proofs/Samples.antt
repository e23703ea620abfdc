-- Sample lists: what the machine accepts, and where it refuses. Lines are parted by a bar.
use Rattle.std.specs.Prelude.{◌≡◌, ℕ, true, is_some, is_none, [], ◌∷◌, refl, Some}
use Rattle.tla_symbols.specs.declared.op.Op.TheVariants as Op
use Rattle.tla_symbols.specs.declared.lexeme.LexKind.{LexKind}
use Rattle.tla_symbols.specs.declared.lexeme.Word.TheVariants as Word
use Rattle.tla_symbols.specs.declared.lexeme.Mark.TheVariants as Mark
use Rattle.tla_symbols.specs.declared.lexeme.Lexeme.{Lexeme}
use Rattle.precedence.specs.Choices.{meets, joins, same_edge, same_op, op_number, fix_number, choose}
use Rattle.expr_grammar.specs.Machine.{run, start, parse}

abbrev pub lexeme : LexKind → ℕ → ℕ → ℕ → Lexeme
lexeme kind from to col = record { kind = kind; span = record { start = from; end = to }; line = 0; col = col }

-- a + ~b = c
sum_of_not-good : is_some (parse (lexeme LexKind.Name 0 1 0 ∷ lexeme (LexKind.Sym Op.Plus) 2 3 2 ∷ lexeme (LexKind.Sym Op.Not) 4 5 4 ∷ lexeme LexKind.Name 5 6 5 ∷ lexeme (LexKind.Sym Op.Equal) 7 8 7 ∷ lexeme LexKind.Name 9 10 9 ∷ [])) ≡ true
unfolding meets joins same_edge same_op op_number fix_number choose
sum_of_not-good = refl

-- a \X b \X c
product-good : is_some (parse (lexeme LexKind.Name 0 1 0 ∷ lexeme (LexKind.Sym Op.Product) 2 4 2 ∷ lexeme LexKind.Name 5 6 5 ∷ lexeme (LexKind.Sym Op.Product) 7 9 7 ∷ lexeme LexKind.Name 10 11 10 ∷ [])) ≡ true
unfolding meets joins same_edge same_op op_number fix_number choose
product-good = refl

-- {x \in S : y \in T}
filter-good : is_some (parse (lexeme (LexKind.Mark Mark.LeftBrace) 0 1 0 ∷ lexeme LexKind.Name 1 2 1 ∷ lexeme (LexKind.Sym Op.In) 3 6 3 ∷ lexeme LexKind.Name 7 8 7 ∷ lexeme (LexKind.Mark Mark.Colon) 9 10 9 ∷ lexeme LexKind.Name 11 12 11 ∷ lexeme (LexKind.Sym Op.In) 13 16 13 ∷ lexeme LexKind.Name 17 18 17 ∷ lexeme (LexKind.Mark Mark.RightBrace) 18 19 18 ∷ [])) ≡ true
unfolding meets joins same_edge same_op op_number fix_number choose
filter-good = refl

-- CASE a -> CASE b -> c [] d -> e
arms-good : is_some (parse (lexeme (LexKind.Word Word.Case) 0 4 0 ∷ lexeme LexKind.Name 5 6 5 ∷ lexeme (LexKind.Mark Mark.Arrow) 7 9 7 ∷ lexeme (LexKind.Word Word.Case) 10 14 10 ∷ lexeme LexKind.Name 15 16 15 ∷ lexeme (LexKind.Mark Mark.Arrow) 17 19 17 ∷ lexeme LexKind.Name 20 21 20 ∷ lexeme (LexKind.Sym Op.Always) 22 24 22 ∷ lexeme LexKind.Name 25 26 25 ∷ lexeme (LexKind.Mark Mark.Arrow) 27 29 27 ∷ lexeme LexKind.Name 30 31 30 ∷ [])) ≡ true
unfolding meets joins same_edge same_op op_number fix_number choose
arms-good = refl

-- /\ a | /\ b | \/ c
junctions-good : is_some (parse (lexeme (LexKind.Sym Op.And) 0 2 0 ∷ lexeme LexKind.Name 3 4 3 ∷ lexeme (LexKind.Sym Op.And) 5 7 0 ∷ lexeme LexKind.Name 8 9 3 ∷ lexeme (LexKind.Sym Op.Or) 10 12 0 ∷ lexeme LexKind.Name 13 14 3 ∷ [])) ≡ true
unfolding meets joins same_edge same_op op_number fix_number choose
junctions-good = refl

-- 1
number-good : is_some (parse (lexeme LexKind.Number 0 1 0 ∷ [])) ≡ true
unfolding meets joins same_edge same_op op_number fix_number choose
number-good = refl

-- "a"
text-good : is_some (parse (lexeme LexKind.Str 0 3 0 ∷ [])) ≡ true
unfolding meets joins same_edge same_op op_number fix_number choose
text-good = refl

-- @
at_sign-good : is_some (parse (lexeme (LexKind.Mark Mark.At) 0 1 0 ∷ [])) ≡ true
unfolding meets joins same_edge same_op op_number fix_number choose
at_sign-good = refl

-- I(1)!Op(x)
path-good : is_some (parse (lexeme LexKind.Name 0 1 0 ∷ lexeme (LexKind.Mark Mark.LeftParen) 1 2 1 ∷ lexeme LexKind.Number 2 3 2 ∷ lexeme (LexKind.Mark Mark.RightParen) 3 4 3 ∷ lexeme (LexKind.Mark Mark.Bang) 4 5 4 ∷ lexeme LexKind.Name 5 7 5 ∷ lexeme (LexKind.Mark Mark.LeftParen) 7 8 7 ∷ lexeme LexKind.Name 8 9 8 ∷ lexeme (LexKind.Mark Mark.RightParen) 9 10 9 ∷ [])) ≡ true
unfolding meets joins same_edge same_op op_number fix_number choose
path-good = refl

-- x'
prime-good : is_some (parse (lexeme LexKind.Name 0 1 0 ∷ lexeme (LexKind.Sym Op.Prime) 1 2 1 ∷ [])) ≡ true
unfolding meets joins same_edge same_op op_number fix_number choose
prime-good = refl

-- (a)
parens-good : is_some (parse (lexeme (LexKind.Mark Mark.LeftParen) 0 1 0 ∷ lexeme LexKind.Name 1 2 1 ∷ lexeme (LexKind.Mark Mark.RightParen) 2 3 2 ∷ [])) ≡ true
unfolding meets joins same_edge same_op op_number fix_number choose
parens-good = refl

-- \A x, y : x
all-good : is_some (parse (lexeme (LexKind.Mark Mark.ForAll) 0 2 0 ∷ lexeme LexKind.Name 3 4 3 ∷ lexeme (LexKind.Mark Mark.Comma) 4 5 4 ∷ lexeme LexKind.Name 6 7 6 ∷ lexeme (LexKind.Mark Mark.Colon) 8 9 8 ∷ lexeme LexKind.Name 10 11 10 ∷ [])) ≡ true
unfolding meets joins same_edge same_op op_number fix_number choose
all-good = refl

-- \A x, y \in S, <<z>> \in T : x
all_bounded-good : is_some (parse (lexeme (LexKind.Mark Mark.ForAll) 0 2 0 ∷ lexeme LexKind.Name 3 4 3 ∷ lexeme (LexKind.Mark Mark.Comma) 4 5 4 ∷ lexeme LexKind.Name 6 7 6 ∷ lexeme (LexKind.Sym Op.In) 8 11 8 ∷ lexeme LexKind.Name 12 13 12 ∷ lexeme (LexKind.Mark Mark.Comma) 13 14 13 ∷ lexeme (LexKind.Mark Mark.LeftAngle) 15 17 15 ∷ lexeme LexKind.Name 17 18 17 ∷ lexeme (LexKind.Mark Mark.RightAngle) 18 20 18 ∷ lexeme (LexKind.Sym Op.In) 21 24 21 ∷ lexeme LexKind.Name 25 26 25 ∷ lexeme (LexKind.Mark Mark.Colon) 27 28 27 ∷ lexeme LexKind.Name 29 30 29 ∷ [])) ≡ true
unfolding meets joins same_edge same_op op_number fix_number choose
all_bounded-good = refl

-- \EE x : x
exists_temporal-good : is_some (parse (lexeme (LexKind.Mark Mark.TemporalExists) 0 3 0 ∷ lexeme LexKind.Name 4 5 4 ∷ lexeme (LexKind.Mark Mark.Colon) 6 7 6 ∷ lexeme LexKind.Name 8 9 8 ∷ [])) ≡ true
unfolding meets joins same_edge same_op op_number fix_number choose
exists_temporal-good = refl

-- CHOOSE x : x
choose-good : is_some (parse (lexeme (LexKind.Word Word.Choose) 0 6 0 ∷ lexeme LexKind.Name 7 8 7 ∷ lexeme (LexKind.Mark Mark.Colon) 9 10 9 ∷ lexeme LexKind.Name 11 12 11 ∷ [])) ≡ true
unfolding meets joins same_edge same_op op_number fix_number choose
choose-good = refl

-- CHOOSE <<x, y>> : x
choose_tuple-good : is_some (parse (lexeme (LexKind.Word Word.Choose) 0 6 0 ∷ lexeme (LexKind.Mark Mark.LeftAngle) 7 9 7 ∷ lexeme LexKind.Name 9 10 9 ∷ lexeme (LexKind.Mark Mark.Comma) 10 11 10 ∷ lexeme LexKind.Name 12 13 12 ∷ lexeme (LexKind.Mark Mark.RightAngle) 13 15 13 ∷ lexeme (LexKind.Mark Mark.Colon) 16 17 16 ∷ lexeme LexKind.Name 18 19 18 ∷ [])) ≡ true
unfolding meets joins same_edge same_op op_number fix_number choose
choose_tuple-good = refl

-- CHOOSE x \in S : x
choose_in-good : is_some (parse (lexeme (LexKind.Word Word.Choose) 0 6 0 ∷ lexeme LexKind.Name 7 8 7 ∷ lexeme (LexKind.Sym Op.In) 9 12 9 ∷ lexeme LexKind.Name 13 14 13 ∷ lexeme (LexKind.Mark Mark.Colon) 15 16 15 ∷ lexeme LexKind.Name 17 18 17 ∷ [])) ≡ true
unfolding meets joins same_edge same_op op_number fix_number choose
choose_in-good = refl

-- {}
empty-good : is_some (parse (lexeme (LexKind.Mark Mark.LeftBrace) 0 1 0 ∷ lexeme (LexKind.Mark Mark.RightBrace) 1 2 1 ∷ [])) ≡ true
unfolding meets joins same_edge same_op op_number fix_number choose
empty-good = refl

-- {a, b}
set-good : is_some (parse (lexeme (LexKind.Mark Mark.LeftBrace) 0 1 0 ∷ lexeme LexKind.Name 1 2 1 ∷ lexeme (LexKind.Mark Mark.Comma) 2 3 2 ∷ lexeme LexKind.Name 4 5 4 ∷ lexeme (LexKind.Mark Mark.RightBrace) 5 6 5 ∷ [])) ≡ true
unfolding meets joins same_edge same_op op_number fix_number choose
set-good = refl

-- {x : x \in S, y \in T}
image-good : is_some (parse (lexeme (LexKind.Mark Mark.LeftBrace) 0 1 0 ∷ lexeme LexKind.Name 1 2 1 ∷ lexeme (LexKind.Mark Mark.Colon) 3 4 3 ∷ lexeme LexKind.Name 5 6 5 ∷ lexeme (LexKind.Sym Op.In) 7 10 7 ∷ lexeme LexKind.Name 11 12 11 ∷ lexeme (LexKind.Mark Mark.Comma) 12 13 12 ∷ lexeme LexKind.Name 14 15 14 ∷ lexeme (LexKind.Sym Op.In) 16 19 16 ∷ lexeme LexKind.Name 20 21 20 ∷ lexeme (LexKind.Mark Mark.RightBrace) 21 22 21 ∷ [])) ≡ true
unfolding meets joins same_edge same_op op_number fix_number choose
image-good = refl

-- {(x) \in S : y \in T}
image_member-good : is_some (parse (lexeme (LexKind.Mark Mark.LeftBrace) 0 1 0 ∷ lexeme (LexKind.Mark Mark.LeftParen) 1 2 1 ∷ lexeme LexKind.Name 2 3 2 ∷ lexeme (LexKind.Mark Mark.RightParen) 3 4 3 ∷ lexeme (LexKind.Sym Op.In) 5 8 5 ∷ lexeme LexKind.Name 9 10 9 ∷ lexeme (LexKind.Mark Mark.Colon) 11 12 11 ∷ lexeme LexKind.Name 13 14 13 ∷ lexeme (LexKind.Sym Op.In) 15 18 15 ∷ lexeme LexKind.Name 19 20 19 ∷ lexeme (LexKind.Mark Mark.RightBrace) 20 21 20 ∷ [])) ≡ true
unfolding meets joins same_edge same_op op_number fix_number choose
image_member-good = refl

-- f[a, b]
apply-good : is_some (parse (lexeme LexKind.Name 0 1 0 ∷ lexeme (LexKind.Mark Mark.LeftBracket) 1 2 1 ∷ lexeme LexKind.Name 2 3 2 ∷ lexeme (LexKind.Mark Mark.Comma) 3 4 3 ∷ lexeme LexKind.Name 5 6 5 ∷ lexeme (LexKind.Mark Mark.RightBracket) 6 7 6 ∷ [])) ≡ true
unfolding meets joins same_edge same_op op_number fix_number choose
apply-good = refl

-- [x \in S |-> x]
function-good : is_some (parse (lexeme (LexKind.Mark Mark.LeftBracket) 0 1 0 ∷ lexeme LexKind.Name 1 2 1 ∷ lexeme (LexKind.Sym Op.In) 3 6 3 ∷ lexeme LexKind.Name 7 8 7 ∷ lexeme (LexKind.Mark Mark.MapsTo) 9 12 9 ∷ lexeme LexKind.Name 13 14 13 ∷ lexeme (LexKind.Mark Mark.RightBracket) 14 15 14 ∷ [])) ≡ true
unfolding meets joins same_edge same_op op_number fix_number choose
function-good = refl

-- [x, y \in S, z \in T |-> x]
function_names-good : is_some (parse (lexeme (LexKind.Mark Mark.LeftBracket) 0 1 0 ∷ lexeme LexKind.Name 1 2 1 ∷ lexeme (LexKind.Mark Mark.Comma) 2 3 2 ∷ lexeme LexKind.Name 4 5 4 ∷ lexeme (LexKind.Sym Op.In) 6 9 6 ∷ lexeme LexKind.Name 10 11 10 ∷ lexeme (LexKind.Mark Mark.Comma) 11 12 11 ∷ lexeme LexKind.Name 13 14 13 ∷ lexeme (LexKind.Sym Op.In) 15 18 15 ∷ lexeme LexKind.Name 19 20 19 ∷ lexeme (LexKind.Mark Mark.MapsTo) 21 24 21 ∷ lexeme LexKind.Name 25 26 25 ∷ lexeme (LexKind.Mark Mark.RightBracket) 26 27 26 ∷ [])) ≡ true
unfolding meets joins same_edge same_op op_number fix_number choose
function_names-good = refl

-- [<<x, y>> \in S |-> x]
function_tuple-good : is_some (parse (lexeme (LexKind.Mark Mark.LeftBracket) 0 1 0 ∷ lexeme (LexKind.Mark Mark.LeftAngle) 1 3 1 ∷ lexeme LexKind.Name 3 4 3 ∷ lexeme (LexKind.Mark Mark.Comma) 4 5 4 ∷ lexeme LexKind.Name 6 7 6 ∷ lexeme (LexKind.Mark Mark.RightAngle) 7 9 7 ∷ lexeme (LexKind.Sym Op.In) 10 13 10 ∷ lexeme LexKind.Name 14 15 14 ∷ lexeme (LexKind.Mark Mark.MapsTo) 16 19 16 ∷ lexeme LexKind.Name 20 21 20 ∷ lexeme (LexKind.Mark Mark.RightBracket) 21 22 21 ∷ [])) ≡ true
unfolding meets joins same_edge same_op op_number fix_number choose
function_tuple-good = refl

-- [S -> T]
function_set-good : is_some (parse (lexeme (LexKind.Mark Mark.LeftBracket) 0 1 0 ∷ lexeme LexKind.Name 1 2 1 ∷ lexeme (LexKind.Mark Mark.Arrow) 3 5 3 ∷ lexeme LexKind.Name 6 7 6 ∷ lexeme (LexKind.Mark Mark.RightBracket) 7 8 7 ∷ [])) ≡ true
unfolding meets joins same_edge same_op op_number fix_number choose
function_set-good = refl

-- [a |-> 1, b |-> 2]
record-good : is_some (parse (lexeme (LexKind.Mark Mark.LeftBracket) 0 1 0 ∷ lexeme LexKind.Name 1 2 1 ∷ lexeme (LexKind.Mark Mark.MapsTo) 3 6 3 ∷ lexeme LexKind.Number 7 8 7 ∷ lexeme (LexKind.Mark Mark.Comma) 8 9 8 ∷ lexeme LexKind.Name 10 11 10 ∷ lexeme (LexKind.Mark Mark.MapsTo) 12 15 12 ∷ lexeme LexKind.Number 16 17 16 ∷ lexeme (LexKind.Mark Mark.RightBracket) 17 18 17 ∷ [])) ≡ true
unfolding meets joins same_edge same_op op_number fix_number choose
record-good = refl

-- [a : S, b : T]
record_set-good : is_some (parse (lexeme (LexKind.Mark Mark.LeftBracket) 0 1 0 ∷ lexeme LexKind.Name 1 2 1 ∷ lexeme (LexKind.Mark Mark.Colon) 3 4 3 ∷ lexeme LexKind.Name 5 6 5 ∷ lexeme (LexKind.Mark Mark.Comma) 6 7 6 ∷ lexeme LexKind.Name 8 9 8 ∷ lexeme (LexKind.Mark Mark.Colon) 10 11 10 ∷ lexeme LexKind.Name 12 13 12 ∷ lexeme (LexKind.Mark Mark.RightBracket) 13 14 13 ∷ [])) ≡ true
unfolding meets joins same_edge same_op op_number fix_number choose
record_set-good = refl

-- r.a.b
field-good : is_some (parse (lexeme LexKind.Name 0 1 0 ∷ lexeme (LexKind.Mark Mark.Dot) 1 2 1 ∷ lexeme LexKind.Name 2 3 2 ∷ lexeme (LexKind.Mark Mark.Dot) 3 4 3 ∷ lexeme LexKind.Name 4 5 4 ∷ [])) ≡ true
unfolding meets joins same_edge same_op op_number fix_number choose
field-good = refl

-- [f EXCEPT !.a[i, j] = 1, ![k] = @]
except-good : is_some (parse (lexeme (LexKind.Mark Mark.LeftBracket) 0 1 0 ∷ lexeme LexKind.Name 1 2 1 ∷ lexeme (LexKind.Word Word.Except) 3 9 3 ∷ lexeme (LexKind.Mark Mark.Bang) 10 11 10 ∷ lexeme (LexKind.Mark Mark.Dot) 11 12 11 ∷ lexeme LexKind.Name 12 13 12 ∷ lexeme (LexKind.Mark Mark.LeftBracket) 13 14 13 ∷ lexeme LexKind.Name 14 15 14 ∷ lexeme (LexKind.Mark Mark.Comma) 15 16 15 ∷ lexeme LexKind.Name 17 18 17 ∷ lexeme (LexKind.Mark Mark.RightBracket) 18 19 18 ∷ lexeme (LexKind.Sym Op.Equal) 20 21 20 ∷ lexeme LexKind.Number 22 23 22 ∷ lexeme (LexKind.Mark Mark.Comma) 23 24 23 ∷ lexeme (LexKind.Mark Mark.Bang) 25 26 25 ∷ lexeme (LexKind.Mark Mark.LeftBracket) 26 27 26 ∷ lexeme LexKind.Name 27 28 27 ∷ lexeme (LexKind.Mark Mark.RightBracket) 28 29 28 ∷ lexeme (LexKind.Sym Op.Equal) 30 31 30 ∷ lexeme (LexKind.Mark Mark.At) 32 33 32 ∷ lexeme (LexKind.Mark Mark.RightBracket) 33 34 33 ∷ [])) ≡ true
unfolding meets joins same_edge same_op op_number fix_number choose
except-good = refl

-- <<a, b>>
tuple-good : is_some (parse (lexeme (LexKind.Mark Mark.LeftAngle) 0 2 0 ∷ lexeme LexKind.Name 2 3 2 ∷ lexeme (LexKind.Mark Mark.Comma) 3 4 3 ∷ lexeme LexKind.Name 5 6 5 ∷ lexeme (LexKind.Mark Mark.RightAngle) 6 8 6 ∷ [])) ≡ true
unfolding meets joins same_edge same_op op_number fix_number choose
tuple-good = refl

-- <<>>
empty_tuple-good : is_some (parse (lexeme (LexKind.Mark Mark.LeftAngle) 0 2 0 ∷ lexeme (LexKind.Mark Mark.RightAngle) 2 4 2 ∷ [])) ≡ true
unfolding meets joins same_edge same_op op_number fix_number choose
empty_tuple-good = refl

-- [A]_x
square-good : is_some (parse (lexeme (LexKind.Mark Mark.LeftBracket) 0 1 0 ∷ lexeme LexKind.Name 1 2 1 ∷ lexeme (LexKind.Mark Mark.RightBracketSubscript) 2 4 2 ∷ lexeme LexKind.Name 4 5 4 ∷ [])) ≡ true
unfolding meets joins same_edge same_op op_number fix_number choose
square-good = refl

-- [A]_I!x'
square_path-good : is_some (parse (lexeme (LexKind.Mark Mark.LeftBracket) 0 1 0 ∷ lexeme LexKind.Name 1 2 1 ∷ lexeme (LexKind.Mark Mark.RightBracketSubscript) 2 4 2 ∷ lexeme LexKind.Name 4 5 4 ∷ lexeme (LexKind.Mark Mark.Bang) 5 6 5 ∷ lexeme LexKind.Name 6 7 6 ∷ lexeme (LexKind.Sym Op.Prime) 7 8 7 ∷ [])) ≡ true
unfolding meets joins same_edge same_op op_number fix_number choose
square_path-good = refl

-- [A]_<<x, y>>
square_tuple-good : is_some (parse (lexeme (LexKind.Mark Mark.LeftBracket) 0 1 0 ∷ lexeme LexKind.Name 1 2 1 ∷ lexeme (LexKind.Mark Mark.RightBracketSubscript) 2 4 2 ∷ lexeme (LexKind.Mark Mark.LeftAngle) 4 6 4 ∷ lexeme LexKind.Name 6 7 6 ∷ lexeme (LexKind.Mark Mark.Comma) 7 8 7 ∷ lexeme LexKind.Name 9 10 9 ∷ lexeme (LexKind.Mark Mark.RightAngle) 10 12 10 ∷ [])) ≡ true
unfolding meets joins same_edge same_op op_number fix_number choose
square_tuple-good = refl

-- [A]_[x EXCEPT ![1] = 2]
square_brackets-good : is_some (parse (lexeme (LexKind.Mark Mark.LeftBracket) 0 1 0 ∷ lexeme LexKind.Name 1 2 1 ∷ lexeme (LexKind.Mark Mark.RightBracketSubscript) 2 4 2 ∷ lexeme (LexKind.Mark Mark.LeftBracket) 4 5 4 ∷ lexeme LexKind.Name 5 6 5 ∷ lexeme (LexKind.Word Word.Except) 7 13 7 ∷ lexeme (LexKind.Mark Mark.Bang) 14 15 14 ∷ lexeme (LexKind.Mark Mark.LeftBracket) 15 16 15 ∷ lexeme LexKind.Number 16 17 16 ∷ lexeme (LexKind.Mark Mark.RightBracket) 17 18 17 ∷ lexeme (LexKind.Sym Op.Equal) 19 20 19 ∷ lexeme LexKind.Number 21 22 21 ∷ lexeme (LexKind.Mark Mark.RightBracket) 22 23 22 ∷ [])) ≡ true
unfolding meets joins same_edge same_op op_number fix_number choose
square_brackets-good = refl

-- <<A>>_(x)
angle-good : is_some (parse (lexeme (LexKind.Mark Mark.LeftAngle) 0 2 0 ∷ lexeme LexKind.Name 2 3 2 ∷ lexeme (LexKind.Mark Mark.RightAngleSubscript) 3 6 3 ∷ lexeme (LexKind.Mark Mark.LeftParen) 6 7 6 ∷ lexeme LexKind.Name 7 8 7 ∷ lexeme (LexKind.Mark Mark.RightParen) 8 9 8 ∷ [])) ≡ true
unfolding meets joins same_edge same_op op_number fix_number choose
angle-good = refl

-- WF_f!g(A)
fair-good : is_some (parse (lexeme (LexKind.Word Word.WeakFair) 0 3 0 ∷ lexeme LexKind.Name 3 4 3 ∷ lexeme (LexKind.Mark Mark.Bang) 4 5 4 ∷ lexeme LexKind.Name 5 6 5 ∷ lexeme (LexKind.Mark Mark.LeftParen) 6 7 6 ∷ lexeme LexKind.Name 7 8 7 ∷ lexeme (LexKind.Mark Mark.RightParen) 8 9 8 ∷ [])) ≡ true
unfolding meets joins same_edge same_op op_number fix_number choose
fair-good = refl

-- IF a THEN b ELSE c
if_-good : is_some (parse (lexeme (LexKind.Word Word.If) 0 2 0 ∷ lexeme LexKind.Name 3 4 3 ∷ lexeme (LexKind.Word Word.Then) 5 9 5 ∷ lexeme LexKind.Name 10 11 10 ∷ lexeme (LexKind.Word Word.Else) 12 16 12 ∷ lexeme LexKind.Name 17 18 17 ∷ [])) ≡ true
unfolding meets joins same_edge same_op op_number fix_number choose
if_-good = refl

-- CASE a -> b [] OTHER -> c
other-good : is_some (parse (lexeme (LexKind.Word Word.Case) 0 4 0 ∷ lexeme LexKind.Name 5 6 5 ∷ lexeme (LexKind.Mark Mark.Arrow) 7 9 7 ∷ lexeme LexKind.Name 10 11 10 ∷ lexeme (LexKind.Sym Op.Always) 12 14 12 ∷ lexeme (LexKind.Word Word.Other) 15 20 15 ∷ lexeme (LexKind.Mark Mark.Arrow) 21 23 21 ∷ lexeme LexKind.Name 24 25 24 ∷ [])) ≡ true
unfolding meets joins same_edge same_op op_number fix_number choose
other-good = refl

-- CASE OTHER -> 1
only_other-good : is_some (parse (lexeme (LexKind.Word Word.Case) 0 4 0 ∷ lexeme (LexKind.Word Word.Other) 5 10 5 ∷ lexeme (LexKind.Mark Mark.Arrow) 11 13 11 ∷ lexeme LexKind.Number 14 15 14 ∷ [])) ≡ true
unfolding meets joins same_edge same_op op_number fix_number choose
only_other-good = refl

-- LET n == 1 IN n
let1-good : is_some (parse (lexeme (LexKind.Word Word.Let) 0 3 0 ∷ lexeme LexKind.Name 4 5 4 ∷ lexeme (LexKind.Mark Mark.Define) 6 8 6 ∷ lexeme LexKind.Number 9 10 9 ∷ lexeme (LexKind.Word Word.In) 11 13 11 ∷ lexeme LexKind.Name 14 15 14 ∷ [])) ≡ true
unfolding meets joins same_edge same_op op_number fix_number choose
let1-good = refl

-- LET F(a, G(_, _), _ + _, -. _, _ ^+) == a |     f[x \in S] == x |     a + b == a |     -. a == a |     a ^+ == a |     I == INSTANCE M |     J(p) == INSTANCE M WITH a <- b, + <- -., c <- = | IN a
let2-good : is_some (parse (lexeme (LexKind.Word Word.Let) 0 3 0 ∷ lexeme LexKind.Name 4 5 4 ∷ lexeme (LexKind.Mark Mark.LeftParen) 5 6 5 ∷ lexeme LexKind.Name 6 7 6 ∷ lexeme (LexKind.Mark Mark.Comma) 7 8 7 ∷ lexeme LexKind.Name 9 10 9 ∷ lexeme (LexKind.Mark Mark.LeftParen) 10 11 10 ∷ lexeme (LexKind.Mark Mark.Underscore) 11 12 11 ∷ lexeme (LexKind.Mark Mark.Comma) 12 13 12 ∷ lexeme (LexKind.Mark Mark.Underscore) 14 15 14 ∷ lexeme (LexKind.Mark Mark.RightParen) 15 16 15 ∷ lexeme (LexKind.Mark Mark.Comma) 16 17 16 ∷ lexeme (LexKind.Mark Mark.Underscore) 18 19 18 ∷ lexeme (LexKind.Sym Op.Plus) 20 21 20 ∷ lexeme (LexKind.Mark Mark.Underscore) 22 23 22 ∷ lexeme (LexKind.Mark Mark.Comma) 23 24 23 ∷ lexeme (LexKind.Sym Op.Negative) 25 27 25 ∷ lexeme (LexKind.Mark Mark.Underscore) 28 29 28 ∷ lexeme (LexKind.Mark Mark.Comma) 29 30 29 ∷ lexeme (LexKind.Mark Mark.Underscore) 31 32 31 ∷ lexeme (LexKind.Sym Op.PlusClosure) 33 35 33 ∷ lexeme (LexKind.Mark Mark.RightParen) 35 36 35 ∷ lexeme (LexKind.Mark Mark.Define) 37 39 37 ∷ lexeme LexKind.Name 40 41 40 ∷ lexeme LexKind.Name 46 47 4 ∷ lexeme (LexKind.Mark Mark.LeftBracket) 47 48 5 ∷ lexeme LexKind.Name 48 49 6 ∷ lexeme (LexKind.Sym Op.In) 50 53 8 ∷ lexeme LexKind.Name 54 55 12 ∷ lexeme (LexKind.Mark Mark.RightBracket) 55 56 13 ∷ lexeme (LexKind.Mark Mark.Define) 57 59 15 ∷ lexeme LexKind.Name 60 61 18 ∷ lexeme LexKind.Name 66 67 4 ∷ lexeme (LexKind.Sym Op.Plus) 68 69 6 ∷ lexeme LexKind.Name 70 71 8 ∷ lexeme (LexKind.Mark Mark.Define) 72 74 10 ∷ lexeme LexKind.Name 75 76 13 ∷ lexeme (LexKind.Sym Op.Negative) 81 83 4 ∷ lexeme LexKind.Name 84 85 7 ∷ lexeme (LexKind.Mark Mark.Define) 86 88 9 ∷ lexeme LexKind.Name 89 90 12 ∷ lexeme LexKind.Name 95 96 4 ∷ lexeme (LexKind.Sym Op.PlusClosure) 97 99 6 ∷ lexeme (LexKind.Mark Mark.Define) 100 102 9 ∷ lexeme LexKind.Name 103 104 12 ∷ lexeme LexKind.Name 109 110 4 ∷ lexeme (LexKind.Mark Mark.Define) 111 113 6 ∷ lexeme (LexKind.Word Word.Instance) 114 122 9 ∷ lexeme LexKind.Name 123 124 18 ∷ lexeme LexKind.Name 129 130 4 ∷ lexeme (LexKind.Mark Mark.LeftParen) 130 131 5 ∷ lexeme LexKind.Name 131 132 6 ∷ lexeme (LexKind.Mark Mark.RightParen) 132 133 7 ∷ lexeme (LexKind.Mark Mark.Define) 134 136 9 ∷ lexeme (LexKind.Word Word.Instance) 137 145 12 ∷ lexeme LexKind.Name 146 147 21 ∷ lexeme (LexKind.Word Word.With) 148 152 23 ∷ lexeme LexKind.Name 153 154 28 ∷ lexeme (LexKind.Mark Mark.LeftArrow) 155 157 30 ∷ lexeme LexKind.Name 158 159 33 ∷ lexeme (LexKind.Mark Mark.Comma) 159 160 34 ∷ lexeme (LexKind.Sym Op.Plus) 161 162 36 ∷ lexeme (LexKind.Mark Mark.LeftArrow) 163 165 38 ∷ lexeme (LexKind.Sym Op.Negative) 166 168 41 ∷ lexeme (LexKind.Mark Mark.Comma) 168 169 43 ∷ lexeme LexKind.Name 170 171 45 ∷ lexeme (LexKind.Mark Mark.LeftArrow) 172 174 47 ∷ lexeme (LexKind.Sym Op.Equal) 175 176 50 ∷ lexeme (LexKind.Word Word.In) 177 179 0 ∷ lexeme LexKind.Name 180 181 3 ∷ [])) ≡ true
unfolding meets joins same_edge same_op op_number fix_number choose
let2-good = refl

-- /\ LET n == 1 IN n | /\ b
let_list-good : is_some (parse (lexeme (LexKind.Sym Op.And) 0 2 0 ∷ lexeme (LexKind.Word Word.Let) 3 6 3 ∷ lexeme LexKind.Name 7 8 7 ∷ lexeme (LexKind.Mark Mark.Define) 9 11 9 ∷ lexeme LexKind.Number 12 13 12 ∷ lexeme (LexKind.Word Word.In) 14 16 14 ∷ lexeme LexKind.Name 17 18 17 ∷ lexeme (LexKind.Sym Op.And) 19 21 0 ∷ lexeme LexKind.Name 22 23 3 ∷ [])) ≡ true
unfolding meets joins same_edge same_op op_number fix_number choose
let_list-good = refl

-- F(/\)
passed-good : is_some (parse (lexeme LexKind.Name 0 1 0 ∷ lexeme (LexKind.Mark Mark.LeftParen) 1 2 1 ∷ lexeme (LexKind.Sym Op.And) 2 4 2 ∷ lexeme (LexKind.Mark Mark.RightParen) 4 5 4 ∷ [])) ≡ true
unfolding meets joins same_edge same_op op_number fix_number choose
passed-good = refl

-- F(-, SUBSET, ^+)
passed_two-good : is_some (parse (lexeme LexKind.Name 0 1 0 ∷ lexeme (LexKind.Mark Mark.LeftParen) 1 2 1 ∷ lexeme (LexKind.Sym Op.Minus) 2 3 2 ∷ lexeme (LexKind.Mark Mark.Comma) 3 4 3 ∷ lexeme (LexKind.Sym Op.PowerSet) 5 11 5 ∷ lexeme (LexKind.Mark Mark.Comma) 11 12 11 ∷ lexeme (LexKind.Sym Op.PlusClosure) 13 15 13 ∷ lexeme (LexKind.Mark Mark.RightParen) 15 16 15 ∷ [])) ≡ true
unfolding meets joins same_edge same_op op_number fix_number choose
passed_two-good = refl

-- F(/\ 1)
passed_list-good : is_some (parse (lexeme LexKind.Name 0 1 0 ∷ lexeme (LexKind.Mark Mark.LeftParen) 1 2 1 ∷ lexeme (LexKind.Sym Op.And) 2 4 2 ∷ lexeme LexKind.Number 5 6 5 ∷ lexeme (LexKind.Mark Mark.RightParen) 6 7 6 ∷ [])) ≡ true
unfolding meets joins same_edge same_op op_number fix_number choose
passed_list-good = refl

-- - a - b
minus-good : is_some (parse (lexeme (LexKind.Sym Op.Minus) 0 1 0 ∷ lexeme LexKind.Name 2 3 2 ∷ lexeme (LexKind.Sym Op.Minus) 4 5 4 ∷ lexeme LexKind.Name 6 7 6 ∷ [])) ≡ true
unfolding meets joins same_edge same_op op_number fix_number choose
minus-good = refl

-- 6 * 7
neg_times-good : is_some (parse (lexeme LexKind.Number 0 1 0 ∷ lexeme (LexKind.Sym Op.Star) 2 3 2 ∷ lexeme LexKind.Number 4 5 4 ∷ [])) ≡ true
unfolding meets joins same_edge same_op op_number fix_number choose
neg_times-good = refl

-- a \land b
land-good : is_some (parse (lexeme LexKind.Name 0 1 0 ∷ lexeme (LexKind.Sym Op.And) 2 7 2 ∷ lexeme LexKind.Name 8 9 8 ∷ [])) ≡ true
unfolding meets joins same_edge same_op op_number fix_number choose
land-good = refl

-- /\ a | /\ \/ b |    \/ c | /\ d
list_in_list-good : is_some (parse (lexeme (LexKind.Sym Op.And) 0 2 0 ∷ lexeme LexKind.Name 3 4 3 ∷ lexeme (LexKind.Sym Op.And) 5 7 0 ∷ lexeme (LexKind.Sym Op.Or) 8 10 3 ∷ lexeme LexKind.Name 11 12 6 ∷ lexeme (LexKind.Sym Op.Or) 16 18 3 ∷ lexeme LexKind.Name 19 20 6 ∷ lexeme (LexKind.Sym Op.And) 21 23 0 ∷ lexeme LexKind.Name 24 25 3 ∷ [])) ≡ true
unfolding meets joins same_edge same_op op_number fix_number choose
list_in_list-good = refl

-- a \cup b \cap c
cup_cap-before : is_some (run (Some start) (lexeme LexKind.Name 0 1 0 ∷ lexeme (LexKind.Sym Op.Cup) 2 6 2 ∷ lexeme LexKind.Name 7 8 7 ∷ [])) ≡ true
unfolding meets joins same_edge same_op op_number fix_number choose
cup_cap-before = refl

cup_cap-bad : is_none (run (Some start) (lexeme LexKind.Name 0 1 0 ∷ lexeme (LexKind.Sym Op.Cup) 2 6 2 ∷ lexeme LexKind.Name 7 8 7 ∷ lexeme (LexKind.Sym Op.Cap) 9 13 9 ∷ [])) ≡ true
unfolding meets joins same_edge same_op op_number fix_number choose
cup_cap-bad = refl

-- ENABLED x '
enabled_prime-before : is_some (run (Some start) (lexeme (LexKind.Sym Op.Enabled) 0 7 0 ∷ lexeme LexKind.Name 8 9 8 ∷ [])) ≡ true
unfolding meets joins same_edge same_op op_number fix_number choose
enabled_prime-before = refl

enabled_prime-bad : is_none (run (Some start) (lexeme (LexKind.Sym Op.Enabled) 0 7 0 ∷ lexeme LexKind.Name 8 9 8 ∷ lexeme (LexKind.Sym Op.Prime) 10 11 10 ∷ [])) ≡ true
unfolding meets joins same_edge same_op op_number fix_number choose
enabled_prime-bad = refl

--   /\ (a | \/ b)
bullet_in_parens-before : is_some (run (Some start) (lexeme (LexKind.Sym Op.And) 2 4 2 ∷ lexeme (LexKind.Mark Mark.LeftParen) 5 6 5 ∷ lexeme LexKind.Name 6 7 6 ∷ [])) ≡ true
unfolding meets joins same_edge same_op op_number fix_number choose
bullet_in_parens-before = refl

bullet_in_parens-bad : is_none (run (Some start) (lexeme (LexKind.Sym Op.And) 2 4 2 ∷ lexeme (LexKind.Mark Mark.LeftParen) 5 6 5 ∷ lexeme LexKind.Name 6 7 6 ∷ lexeme (LexKind.Sym Op.Or) 8 10 0 ∷ [])) ≡ true
unfolding meets joins same_edge same_op op_number fix_number choose
bullet_in_parens-bad = refl

--     /\ CASE a -> b |   [] c -> d
case_column-before : is_some (run (Some start) (lexeme (LexKind.Sym Op.And) 4 6 4 ∷ lexeme (LexKind.Word Word.Case) 7 11 7 ∷ lexeme LexKind.Name 12 13 12 ∷ lexeme (LexKind.Mark Mark.Arrow) 14 16 14 ∷ lexeme LexKind.Name 17 18 17 ∷ [])) ≡ true
unfolding meets joins same_edge same_op op_number fix_number choose
case_column-before = refl

case_column-bad : is_none (run (Some start) (lexeme (LexKind.Sym Op.And) 4 6 4 ∷ lexeme (LexKind.Word Word.Case) 7 11 7 ∷ lexeme LexKind.Name 12 13 12 ∷ lexeme (LexKind.Mark Mark.Arrow) 14 16 14 ∷ lexeme LexKind.Name 17 18 17 ∷ lexeme (LexKind.Sym Op.Always) 21 23 2 ∷ [])) ≡ true
unfolding meets joins same_edge same_op op_number fix_number choose
case_column-bad = refl

-- [A]_[B]_x
double_subscript-before : is_some (run (Some start) (lexeme (LexKind.Mark Mark.LeftBracket) 0 1 0 ∷ lexeme LexKind.Name 1 2 1 ∷ lexeme (LexKind.Mark Mark.RightBracketSubscript) 2 4 2 ∷ lexeme (LexKind.Mark Mark.LeftBracket) 4 5 4 ∷ lexeme LexKind.Name 5 6 5 ∷ [])) ≡ true
unfolding meets joins same_edge same_op op_number fix_number choose
double_subscript-before = refl

double_subscript-bad : is_none (run (Some start) (lexeme (LexKind.Mark Mark.LeftBracket) 0 1 0 ∷ lexeme LexKind.Name 1 2 1 ∷ lexeme (LexKind.Mark Mark.RightBracketSubscript) 2 4 2 ∷ lexeme (LexKind.Mark Mark.LeftBracket) 4 5 4 ∷ lexeme LexKind.Name 5 6 5 ∷ lexeme (LexKind.Mark Mark.RightBracketSubscript) 6 8 6 ∷ [])) ≡ true
unfolding meets joins same_edge same_op op_number fix_number choose
double_subscript-bad = refl

-- -a \X b
neg_x-bad : is_none (parse (lexeme (LexKind.Sym Op.Minus) 0 1 0 ∷ lexeme LexKind.Name 1 2 1 ∷ lexeme (LexKind.Sym Op.Product) 3 5 3 ∷ lexeme LexKind.Name 6 7 6 ∷ [])) ≡ true
unfolding meets joins same_edge same_op op_number fix_number choose
neg_x-bad = refl

-- 6 * 7 \div 2
times_div-before : is_some (run (Some start) (lexeme LexKind.Number 0 1 0 ∷ lexeme (LexKind.Sym Op.Star) 2 3 2 ∷ lexeme LexKind.Number 4 5 4 ∷ [])) ≡ true
unfolding meets joins same_edge same_op op_number fix_number choose
times_div-before = refl

times_div-bad : is_none (run (Some start) (lexeme LexKind.Number 0 1 0 ∷ lexeme (LexKind.Sym Op.Star) 2 3 2 ∷ lexeme LexKind.Number 4 5 4 ∷ lexeme (LexKind.Sym Op.Divide) 6 10 6 ∷ [])) ≡ true
unfolding meets joins same_edge same_op op_number fix_number choose
times_div-bad = refl

-- \A x \in ~S => T : e
bound_implies-before : is_some (run (Some start) (lexeme (LexKind.Mark Mark.ForAll) 0 2 0 ∷ lexeme LexKind.Name 3 4 3 ∷ lexeme (LexKind.Sym Op.In) 5 8 5 ∷ lexeme (LexKind.Sym Op.Not) 9 10 9 ∷ lexeme LexKind.Name 10 11 10 ∷ [])) ≡ true
unfolding meets joins same_edge same_op op_number fix_number choose
bound_implies-before = refl

bound_implies-bad : is_none (run (Some start) (lexeme (LexKind.Mark Mark.ForAll) 0 2 0 ∷ lexeme LexKind.Name 3 4 3 ∷ lexeme (LexKind.Sym Op.In) 5 8 5 ∷ lexeme (LexKind.Sym Op.Not) 9 10 9 ∷ lexeme LexKind.Name 10 11 10 ∷ lexeme (LexKind.Sym Op.Implies) 12 14 12 ∷ [])) ≡ true
unfolding meets joins same_edge same_op op_number fix_number choose
bound_implies-bad = refl

--   /\ ( | a)
left_of_bullet-before : is_some (run (Some start) (lexeme (LexKind.Sym Op.And) 2 4 2 ∷ lexeme (LexKind.Mark Mark.LeftParen) 5 6 5 ∷ [])) ≡ true
unfolding meets joins same_edge same_op op_number fix_number choose
left_of_bullet-before = refl

left_of_bullet-bad : is_none (run (Some start) (lexeme (LexKind.Sym Op.And) 2 4 2 ∷ lexeme (LexKind.Mark Mark.LeftParen) 5 6 5 ∷ lexeme LexKind.Name 7 8 0 ∷ [])) ≡ true
unfolding meets joins same_edge same_op op_number fix_number choose
left_of_bullet-bad = refl

-- F(- + 1)
symbol_plus-before : is_some (run (Some start) (lexeme LexKind.Name 0 1 0 ∷ lexeme (LexKind.Mark Mark.LeftParen) 1 2 1 ∷ lexeme (LexKind.Sym Op.Minus) 2 3 2 ∷ [])) ≡ true
unfolding meets joins same_edge same_op op_number fix_number choose
symbol_plus-before = refl

symbol_plus-bad : is_none (run (Some start) (lexeme LexKind.Name 0 1 0 ∷ lexeme (LexKind.Mark Mark.LeftParen) 1 2 1 ∷ lexeme (LexKind.Sym Op.Minus) 2 3 2 ∷ lexeme (LexKind.Sym Op.Plus) 4 5 4 ∷ [])) ≡ true
unfolding meets joins same_edge same_op op_number fix_number choose
symbol_plus-bad = refl

-- CASE
empty_case-bad : is_none (parse (lexeme (LexKind.Word Word.Case) 0 4 0 ∷ [])) ≡ true
unfolding meets joins same_edge same_op op_number fix_number choose
empty_case-bad = refl

-- a b
name_name-before : is_some (run (Some start) (lexeme LexKind.Name 0 1 0 ∷ [])) ≡ true
unfolding meets joins same_edge same_op op_number fix_number choose
name_name-before = refl

name_name-bad : is_none (run (Some start) (lexeme LexKind.Name 0 1 0 ∷ lexeme LexKind.Name 2 3 2 ∷ [])) ≡ true
unfolding meets joins same_edge same_op op_number fix_number choose
name_name-bad = refl
