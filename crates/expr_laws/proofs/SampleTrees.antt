-- Sample lists with their trees, without the places and names.
use Rattle.std.specs.Prelude.{◌≡◌, ℕ, [], ◌∷◌, Some, refl, option_map}
use Rattle.tla_symbols.specs.declared.op.Op.TheVariants as Op
use Rattle.tla_symbols.specs.declared.lexeme.LexKind.{LexKind}
use Rattle.tla_symbols.specs.declared.lexeme.Word.TheVariants as Word
use Rattle.tla_symbols.specs.declared.lexeme.Mark.TheVariants as Mark
use Rattle.tla_symbols.specs.declared.lexeme.Lexeme.{Lexeme}
use Rattle.tla_symbols.specs.declared.lexeme.Span.{Span}
use Rattle.tla_tree.specs.declared.form.Form.{Form}
use Rattle.tla_tree.specs.Syntax.{Tree, Trees, Node, Nil, Cons}
use Rattle.tla_tree.specs.Lexemes.{one, two}
use Rattle.precedence.specs.Choices.{meets, joins, same_edge, same_op, op_number, fix_number, choose}
use Rattle.expr_grammar.specs.Machine.{parse}

abbrev lexeme : LexKind → ℕ → ℕ → ℕ → Lexeme
lexeme kind from to col = record { kind = kind; span = record { start = from; end = to }; line = 0; col = col }

-- a lexeme by its kind alone
abbrev bare : Lexeme → Lexeme
bare t = lexeme t.kind 0 0 0

abbrev nowhere : Span
nowhere = record { start = 0; end = 0 }

abbrev form : Form → Form
form Form.Identifier = Form.Identifier
form (Form.Number t) = Form.Number (bare t)
form (Form.Text t) = Form.Text (bare t)
form (Form.At t) = Form.At (bare t)
form (Form.Symbol t) = Form.Symbol (bare t)
form (Form.Prefix t) = Form.Prefix (bare t)
form (Form.Infix t) = Form.Infix (bare t)
form (Form.Postfix t) = Form.Postfix (bare t)
form Form.Product = Form.Product
form Form.Parentheses = Form.Parentheses
form (Form.Quantifier t) = Form.Quantifier (bare t)
form (Form.BoundedQuantifier t) = Form.BoundedQuantifier (bare t)
form (Form.TemporalQuantifier t) = Form.TemporalQuantifier (bare t)
form Form.Choose = Form.Choose
form Form.BoundedChoose = Form.BoundedChoose
form Form.SetEnumeration = Form.SetEnumeration
form Form.SetFilter = Form.SetFilter
form Form.SetImage = Form.SetImage
form Form.Application = Form.Application
form Form.FunctionConstructor = Form.FunctionConstructor
form Form.FunctionSet = Form.FunctionSet
form Form.Record = Form.Record
form Form.RecordSet = Form.RecordSet
form (Form.FieldAccess t) = Form.FieldAccess (bare t)
form Form.Except = Form.Except
form Form.Tuple = Form.Tuple
form Form.SquareAction = Form.SquareAction
form Form.AngleAction = Form.AngleAction
form (Form.Fairness t) = Form.Fairness (bare t)
form Form.IfThenElse = Form.IfThenElse
form Form.Case = Form.Case
form Form.Let = Form.Let
form (Form.JunctionList t) = Form.JunctionList (bare t)
form Form.Lambda = Form.Lambda
form (Form.Segment t) = Form.Segment (bare t)
form (Form.Name t) = Form.Name (bare t)
form Form.Names = Form.Names
form Form.TupleNames = Form.TupleNames
form Form.Bound = Form.Bound
form Form.TupleBound = Form.TupleBound
form Form.Bounds = Form.Bounds
form (Form.Field t) = Form.Field (bare t)
form Form.Update = Form.Update
form (Form.FieldStep t) = Form.FieldStep (bare t)
form Form.IndexStep = Form.IndexStep
form Form.Arm = Form.Arm
form Form.OtherArm = Form.OtherArm
form (Form.OperatorDefinition t) = Form.OperatorDefinition (bare t)
form (Form.PrefixDefinition t) = Form.PrefixDefinition (bare t)
form (Form.InfixDefinition t) = Form.InfixDefinition (bare t)
form (Form.PostfixDefinition t) = Form.PostfixDefinition (bare t)
form (Form.FunctionDefinition t) = Form.FunctionDefinition (bare t)
form (Form.ModuleDefinition t) = Form.ModuleDefinition (bare t)
form (Form.Instance t) = Form.Instance (bare t)
form (Form.Replacement t) = Form.Replacement (bare t)
form (Form.OperatorParameter t places) = Form.OperatorParameter (bare t) places
form (Form.PrefixParameter t) = Form.PrefixParameter (bare t)
form (Form.InfixParameter t) = Form.InfixParameter (bare t)
form (Form.PostfixParameter t) = Form.PostfixParameter (bare t)

abbrev mutual
  outline : Tree → Tree
  outline (Node f s parts) = Node (form f) nowhere (outlines parts)

  outlines : Trees → Trees
  outlines Nil = Nil
  outlines (Cons x xs) = Cons (outline x) (outlines xs)

abbrev of : Form → Trees → Tree
of f parts = Node f nowhere parts

abbrev sym : LexKind → Lexeme
sym kind = lexeme kind 0 0 0

abbrev name : Lexeme
name = sym LexKind.Name

abbrev id : Tree
id = of Form.Identifier (one (of (Form.Segment name) Nil))

abbrev bound_name : Tree
bound_name = of (Form.Name name) Nil

abbrev infix_of : LexKind → Tree → Tree → Tree
infix_of kind x y = of (Form.Infix (sym kind)) (two x y)

-- a + ~b = c
sum_of_not-tree : option_map outline (parse (lexeme LexKind.Name 0 1 0 ∷ lexeme (LexKind.Sym Op.Plus) 2 3 2 ∷ lexeme (LexKind.Sym Op.Not) 4 5 4 ∷ lexeme LexKind.Name 5 6 5 ∷ lexeme (LexKind.Sym Op.Equal) 7 8 7 ∷ lexeme LexKind.Name 9 10 9 ∷ [])) ≡ Some (infix_of (LexKind.Sym Op.Plus) id (of (Form.Prefix (sym (LexKind.Sym Op.Not))) (Cons (infix_of (LexKind.Sym Op.Equal) id id) Nil)))
unfolding meets joins same_edge same_op op_number fix_number choose
sum_of_not-tree = refl

-- a \X b \X c
product-tree : option_map outline (parse (lexeme LexKind.Name 0 1 0 ∷ lexeme (LexKind.Sym Op.Product) 2 4 2 ∷ lexeme LexKind.Name 5 6 5 ∷ lexeme (LexKind.Sym Op.Product) 7 9 7 ∷ lexeme LexKind.Name 10 11 10 ∷ [])) ≡ Some (of Form.Product (Cons id (Cons id (Cons id Nil))))
unfolding meets joins same_edge same_op op_number fix_number choose
product-tree = refl

-- {x \in S : y \in T}
filter-tree : option_map outline (parse (lexeme (LexKind.Mark Mark.LeftBrace) 0 1 0 ∷ lexeme LexKind.Name 1 2 1 ∷ lexeme (LexKind.Sym Op.In) 3 6 3 ∷ lexeme LexKind.Name 7 8 7 ∷ lexeme (LexKind.Mark Mark.Colon) 9 10 9 ∷ lexeme LexKind.Name 11 12 11 ∷ lexeme (LexKind.Sym Op.In) 13 16 13 ∷ lexeme LexKind.Name 17 18 17 ∷ lexeme (LexKind.Mark Mark.RightBrace) 18 19 18 ∷ [])) ≡ Some (of Form.SetFilter (Cons (of Form.Bound (Cons bound_name (Cons id Nil))) (Cons (infix_of (LexKind.Sym Op.In) id id) Nil)))
unfolding meets joins same_edge same_op op_number fix_number choose
filter-tree = refl

-- {(x) \in S : y \in T}
image_member-tree : option_map outline (parse (lexeme (LexKind.Mark Mark.LeftBrace) 0 1 0 ∷ lexeme (LexKind.Mark Mark.LeftParen) 1 2 1 ∷ lexeme LexKind.Name 2 3 2 ∷ lexeme (LexKind.Mark Mark.RightParen) 3 4 3 ∷ lexeme (LexKind.Sym Op.In) 5 8 5 ∷ lexeme LexKind.Name 9 10 9 ∷ lexeme (LexKind.Mark Mark.Colon) 11 12 11 ∷ lexeme LexKind.Name 13 14 13 ∷ lexeme (LexKind.Sym Op.In) 15 18 15 ∷ lexeme LexKind.Name 19 20 19 ∷ lexeme (LexKind.Mark Mark.RightBrace) 20 21 20 ∷ [])) ≡ Some (of Form.SetImage (Cons (infix_of (LexKind.Sym Op.In) (of Form.Parentheses (Cons id Nil)) id) (Cons (of Form.Bound (Cons bound_name (Cons id Nil))) Nil)))
unfolding meets joins same_edge same_op op_number fix_number choose
image_member-tree = refl

-- CASE a -> CASE b -> c [] d -> e
arms-tree : option_map outline (parse (lexeme (LexKind.Word Word.Case) 0 4 0 ∷ lexeme LexKind.Name 5 6 5 ∷ lexeme (LexKind.Mark Mark.Arrow) 7 9 7 ∷ lexeme (LexKind.Word Word.Case) 10 14 10 ∷ lexeme LexKind.Name 15 16 15 ∷ lexeme (LexKind.Mark Mark.Arrow) 17 19 17 ∷ lexeme LexKind.Name 20 21 20 ∷ lexeme (LexKind.Sym Op.Always) 22 24 22 ∷ lexeme LexKind.Name 25 26 25 ∷ lexeme (LexKind.Mark Mark.Arrow) 27 29 27 ∷ lexeme LexKind.Name 30 31 30 ∷ [])) ≡ Some (of Form.Case (Cons (of Form.Arm (Cons id (Cons (of Form.Case (Cons (of Form.Arm (Cons id (Cons id Nil))) (Cons (of Form.Arm (Cons id (Cons id Nil))) Nil))) Nil))) Nil))
unfolding meets joins same_edge same_op op_number fix_number choose
arms-tree = refl

-- /\ a | /\ b | \/ c
junctions-tree : option_map outline (parse (lexeme (LexKind.Sym Op.And) 0 2 0 ∷ lexeme LexKind.Name 3 4 3 ∷ lexeme (LexKind.Sym Op.And) 5 7 0 ∷ lexeme LexKind.Name 8 9 3 ∷ lexeme (LexKind.Sym Op.Or) 10 12 0 ∷ lexeme LexKind.Name 13 14 3 ∷ [])) ≡ Some (infix_of (LexKind.Sym Op.Or) (of (Form.JunctionList (sym (LexKind.Sym Op.And))) (Cons id (Cons id Nil))) id)
unfolding meets joins same_edge same_op op_number fix_number choose
junctions-tree = refl

-- /\ a | /\ \/ b |    \/ c | /\ d
list_in_list-tree : option_map outline (parse (lexeme (LexKind.Sym Op.And) 0 2 0 ∷ lexeme LexKind.Name 3 4 3 ∷ lexeme (LexKind.Sym Op.And) 5 7 0 ∷ lexeme (LexKind.Sym Op.Or) 8 10 3 ∷ lexeme LexKind.Name 11 12 6 ∷ lexeme (LexKind.Sym Op.Or) 16 18 3 ∷ lexeme LexKind.Name 19 20 6 ∷ lexeme (LexKind.Sym Op.And) 21 23 0 ∷ lexeme LexKind.Name 24 25 3 ∷ [])) ≡ Some (of (Form.JunctionList (sym (LexKind.Sym Op.And))) (Cons id (Cons (of (Form.JunctionList (sym (LexKind.Sym Op.Or))) (Cons id (Cons id Nil))) (Cons id Nil))))
unfolding meets joins same_edge same_op op_number fix_number choose
list_in_list-tree = refl

-- CASE OTHER -> 1
only_other-tree : option_map outline (parse (lexeme (LexKind.Word Word.Case) 0 4 0 ∷ lexeme (LexKind.Word Word.Other) 5 10 5 ∷ lexeme (LexKind.Mark Mark.Arrow) 11 13 11 ∷ lexeme LexKind.Number 14 15 14 ∷ [])) ≡ Some (of Form.Case (Cons (of Form.OtherArm (Cons (of (Form.Number (sym LexKind.Number)) Nil) Nil)) Nil))
unfolding meets joins same_edge same_op op_number fix_number choose
only_other-tree = refl

-- [x, y \in S, z \in T |-> x]
function_names-tree : option_map outline (parse (lexeme (LexKind.Mark Mark.LeftBracket) 0 1 0 ∷ lexeme LexKind.Name 1 2 1 ∷ lexeme (LexKind.Mark Mark.Comma) 2 3 2 ∷ lexeme LexKind.Name 4 5 4 ∷ lexeme (LexKind.Sym Op.In) 6 9 6 ∷ lexeme LexKind.Name 10 11 10 ∷ lexeme (LexKind.Mark Mark.Comma) 11 12 11 ∷ lexeme LexKind.Name 13 14 13 ∷ lexeme (LexKind.Sym Op.In) 15 18 15 ∷ lexeme LexKind.Name 19 20 19 ∷ lexeme (LexKind.Mark Mark.MapsTo) 21 24 21 ∷ lexeme LexKind.Name 25 26 25 ∷ lexeme (LexKind.Mark Mark.RightBracket) 26 27 26 ∷ [])) ≡ Some (of Form.FunctionConstructor (Cons (of Form.Bound (Cons bound_name (Cons bound_name (Cons id Nil)))) (Cons (of Form.Bound (Cons bound_name (Cons id Nil))) (Cons id Nil))))
unfolding meets joins same_edge same_op op_number fix_number choose
function_names-tree = refl

-- [<<x, y>> \in S |-> x]
function_tuple-tree : option_map outline (parse (lexeme (LexKind.Mark Mark.LeftBracket) 0 1 0 ∷ lexeme (LexKind.Mark Mark.LeftAngle) 1 3 1 ∷ lexeme LexKind.Name 3 4 3 ∷ lexeme (LexKind.Mark Mark.Comma) 4 5 4 ∷ lexeme LexKind.Name 6 7 6 ∷ lexeme (LexKind.Mark Mark.RightAngle) 7 9 7 ∷ lexeme (LexKind.Sym Op.In) 10 13 10 ∷ lexeme LexKind.Name 14 15 14 ∷ lexeme (LexKind.Mark Mark.MapsTo) 16 19 16 ∷ lexeme LexKind.Name 20 21 20 ∷ lexeme (LexKind.Mark Mark.RightBracket) 21 22 21 ∷ [])) ≡ Some (of Form.FunctionConstructor (Cons (of Form.TupleBound (Cons bound_name (Cons bound_name (Cons id Nil)))) (Cons id Nil)))
unfolding meets joins same_edge same_op op_number fix_number choose
function_tuple-tree = refl

-- [a |-> 1, b |-> 2]
record-tree : option_map outline (parse (lexeme (LexKind.Mark Mark.LeftBracket) 0 1 0 ∷ lexeme LexKind.Name 1 2 1 ∷ lexeme (LexKind.Mark Mark.MapsTo) 3 6 3 ∷ lexeme LexKind.Number 7 8 7 ∷ lexeme (LexKind.Mark Mark.Comma) 8 9 8 ∷ lexeme LexKind.Name 10 11 10 ∷ lexeme (LexKind.Mark Mark.MapsTo) 12 15 12 ∷ lexeme LexKind.Number 16 17 16 ∷ lexeme (LexKind.Mark Mark.RightBracket) 17 18 17 ∷ [])) ≡ Some (of Form.Record (Cons (of (Form.Field name) (Cons (of (Form.Number (sym LexKind.Number)) Nil) Nil)) (Cons (of (Form.Field name) (Cons (of (Form.Number (sym LexKind.Number)) Nil) Nil)) Nil)))
unfolding meets joins same_edge same_op op_number fix_number choose
record-tree = refl

-- F(/\)
passed-tree : option_map outline (parse (lexeme LexKind.Name 0 1 0 ∷ lexeme (LexKind.Mark Mark.LeftParen) 1 2 1 ∷ lexeme (LexKind.Sym Op.And) 2 4 2 ∷ lexeme (LexKind.Mark Mark.RightParen) 4 5 4 ∷ [])) ≡ Some (of Form.Identifier (Cons (of (Form.Segment name) (Cons (of (Form.Symbol (sym (LexKind.Sym Op.And))) Nil) Nil)) Nil))
unfolding meets joins same_edge same_op op_number fix_number choose
passed-tree = refl

-- F(/\ 1)
passed_list-tree : option_map outline (parse (lexeme LexKind.Name 0 1 0 ∷ lexeme (LexKind.Mark Mark.LeftParen) 1 2 1 ∷ lexeme (LexKind.Sym Op.And) 2 4 2 ∷ lexeme LexKind.Number 5 6 5 ∷ lexeme (LexKind.Mark Mark.RightParen) 6 7 6 ∷ [])) ≡ Some (of Form.Identifier (Cons (of (Form.Segment name) (Cons (of (Form.JunctionList (sym (LexKind.Sym Op.And))) (Cons (of (Form.Number (sym LexKind.Number)) Nil) Nil)) Nil)) Nil))
unfolding meets joins same_edge same_op op_number fix_number choose
passed_list-tree = refl

-- /\ LET n == 1 IN n | /\ b
let_list-tree : option_map outline (parse (lexeme (LexKind.Sym Op.And) 0 2 0 ∷ lexeme (LexKind.Word Word.Let) 3 6 3 ∷ lexeme LexKind.Name 7 8 7 ∷ lexeme (LexKind.Mark Mark.Define) 9 11 9 ∷ lexeme LexKind.Number 12 13 12 ∷ lexeme (LexKind.Word Word.In) 14 16 14 ∷ lexeme LexKind.Name 17 18 17 ∷ lexeme (LexKind.Sym Op.And) 19 21 0 ∷ lexeme LexKind.Name 22 23 3 ∷ [])) ≡ Some (of (Form.JunctionList (sym (LexKind.Sym Op.And))) (Cons (of Form.Let (Cons (of (Form.OperatorDefinition name) (Cons (of (Form.Number (sym LexKind.Number)) Nil) Nil)) (Cons id Nil))) (Cons id Nil)))
unfolding meets joins same_edge same_op op_number fix_number choose
let_list-tree = refl

-- [f EXCEPT !.a[i, j] = 1, ![k] = @]
except-tree : option_map outline (parse (lexeme (LexKind.Mark Mark.LeftBracket) 0 1 0 ∷ lexeme LexKind.Name 1 2 1 ∷ lexeme (LexKind.Word Word.Except) 3 9 3 ∷ lexeme (LexKind.Mark Mark.Bang) 10 11 10 ∷ lexeme (LexKind.Mark Mark.Dot) 11 12 11 ∷ lexeme LexKind.Name 12 13 12 ∷ lexeme (LexKind.Mark Mark.LeftBracket) 13 14 13 ∷ lexeme LexKind.Name 14 15 14 ∷ lexeme (LexKind.Mark Mark.Comma) 15 16 15 ∷ lexeme LexKind.Name 17 18 17 ∷ lexeme (LexKind.Mark Mark.RightBracket) 18 19 18 ∷ lexeme (LexKind.Sym Op.Equal) 20 21 20 ∷ lexeme LexKind.Number 22 23 22 ∷ lexeme (LexKind.Mark Mark.Comma) 23 24 23 ∷ lexeme (LexKind.Mark Mark.Bang) 25 26 25 ∷ lexeme (LexKind.Mark Mark.LeftBracket) 26 27 26 ∷ lexeme LexKind.Name 27 28 27 ∷ lexeme (LexKind.Mark Mark.RightBracket) 28 29 28 ∷ lexeme (LexKind.Sym Op.Equal) 30 31 30 ∷ lexeme (LexKind.Mark Mark.At) 32 33 32 ∷ lexeme (LexKind.Mark Mark.RightBracket) 33 34 33 ∷ [])) ≡ Some (of Form.Except (Cons id (Cons (of Form.Update (Cons (of (Form.FieldStep name) Nil) (Cons (of Form.IndexStep (Cons id (Cons id Nil))) (Cons (of (Form.Number (sym LexKind.Number)) Nil) Nil)))) (Cons (of Form.Update (Cons (of Form.IndexStep (Cons id Nil)) (Cons (of (Form.At (sym (LexKind.Mark Mark.At))) Nil) Nil))) Nil))))
unfolding meets joins same_edge same_op op_number fix_number choose
except-tree = refl

-- [A]_I!x'
square_path-tree : option_map outline (parse (lexeme (LexKind.Mark Mark.LeftBracket) 0 1 0 ∷ lexeme LexKind.Name 1 2 1 ∷ lexeme (LexKind.Mark Mark.RightBracketSubscript) 2 4 2 ∷ lexeme LexKind.Name 4 5 4 ∷ lexeme (LexKind.Mark Mark.Bang) 5 6 5 ∷ lexeme LexKind.Name 6 7 6 ∷ lexeme (LexKind.Sym Op.Prime) 7 8 7 ∷ [])) ≡ Some (of (Form.Postfix (sym (LexKind.Sym Op.Prime))) (Cons (of Form.SquareAction (Cons id (Cons (of Form.Identifier (Cons (of (Form.Segment name) Nil) (Cons (of (Form.Segment name) Nil) Nil))) Nil))) Nil))
unfolding meets joins same_edge same_op op_number fix_number choose
square_path-tree = refl

-- WF_f!g(A)
fair-tree : option_map outline (parse (lexeme (LexKind.Word Word.WeakFair) 0 3 0 ∷ lexeme LexKind.Name 3 4 3 ∷ lexeme (LexKind.Mark Mark.Bang) 4 5 4 ∷ lexeme LexKind.Name 5 6 5 ∷ lexeme (LexKind.Mark Mark.LeftParen) 6 7 6 ∷ lexeme LexKind.Name 7 8 7 ∷ lexeme (LexKind.Mark Mark.RightParen) 8 9 8 ∷ [])) ≡ Some (of (Form.Fairness (sym (LexKind.Word Word.WeakFair))) (Cons (of Form.Identifier (Cons (of (Form.Segment name) Nil) (Cons (of (Form.Segment name) Nil) Nil))) (Cons id Nil)))
unfolding meets joins same_edge same_op op_number fix_number choose
fair-tree = refl

-- I(1)!Op(x)
path-tree : option_map outline (parse (lexeme LexKind.Name 0 1 0 ∷ lexeme (LexKind.Mark Mark.LeftParen) 1 2 1 ∷ lexeme LexKind.Number 2 3 2 ∷ lexeme (LexKind.Mark Mark.RightParen) 3 4 3 ∷ lexeme (LexKind.Mark Mark.Bang) 4 5 4 ∷ lexeme LexKind.Name 5 7 5 ∷ lexeme (LexKind.Mark Mark.LeftParen) 7 8 7 ∷ lexeme LexKind.Name 8 9 8 ∷ lexeme (LexKind.Mark Mark.RightParen) 9 10 9 ∷ [])) ≡ Some (of Form.Identifier (Cons (of (Form.Segment name) (Cons (of (Form.Number (sym LexKind.Number)) Nil) Nil)) (Cons (of (Form.Segment name) (Cons id Nil)) Nil)))
unfolding meets joins same_edge same_op op_number fix_number choose
path-tree = refl

-- - a - b
minus-tree : option_map outline (parse (lexeme (LexKind.Sym Op.Minus) 0 1 0 ∷ lexeme LexKind.Name 2 3 2 ∷ lexeme (LexKind.Sym Op.Minus) 4 5 4 ∷ lexeme LexKind.Name 6 7 6 ∷ [])) ≡ Some (infix_of (LexKind.Sym Op.Minus) (of (Form.Prefix (sym (LexKind.Sym Op.Minus))) (Cons id Nil)) id)
unfolding meets joins same_edge same_op op_number fix_number choose
minus-tree = refl
