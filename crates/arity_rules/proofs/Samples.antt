-- Sample modules with their faults of arity. The text of a sample has its names and symbols alone, one letter each, in the
-- order of the module; a place in it is a lexeme. The module's own name is M. N declares the constants c and d(_), and
-- defines F; K declares the constant c and defines F and G(_).
use Rattle.std.proofs.Common.{◌≡◌, ℕ, ◌+◌, List, [], ◌∷◌, refl, if◌then◌else◌}
use Rattle.std.specs.Prelude.{None, codes}
use Rattle.std.specs.Str.{bytes_eq}
use Rattle.tla_symbols.specs.declared.lexeme.LexKind.{LexKind}
use Rattle.tla_symbols.specs.declared.lexeme.Lexeme.{Lexeme}
use Rattle.tla_symbols.specs.declared.lexeme.Span.{Span}
use Rattle.tla_symbols.specs.declared.op.Op.TheVariants as Op
use Rattle.tla_tree.specs.declared.form.Form.TheVariants as Form
use Rattle.tla_tree.specs.Syntax.{Tree, Trees, Node, Nil, Cons}
use Rattle.tla_tree.specs.Lexemes.{one, two}
use Rattle.unit_grammar.specs.Units.{UnitTree, Constants, OperatorDefinition, ModuleDefinition}
use Rattle.tla_model.specs.declared.Diagnostic.{Diagnostic}
use Rattle.tla_model.specs.declared.names.Meaning.TheVariants.{Declared}
use Rattle.tla_model.specs.declared.entity.Entity.TheVariants as entity
use Rattle.tla_model.specs.Entities.{Meaning}
use Rattle.tla_model.specs.Tables.{Word}
use Rattle.module_model.specs.Bindings.{faults}
use Rattle.module_model.specs.Exports.{Exports, ModuleView, entries_from, none_known, nothing, parameters_in}
use Rattle.module_model.specs.Resolution.{findings}
use Rattle.arity_rules.specs.Arities.{arity_faults}

-- ---- lexemes and trees

abbrev span : ℕ → ℕ → Span
span from to = record { start = from; end = to }

abbrev word : ℕ → ℕ → Lexeme
word from to = record { kind = LexKind.Name; span = span from to; line = 0; col = from }

abbrev at : ℕ → Lexeme
at from = word from (from + 1)

abbrev sign : Op.the_data → ℕ → Lexeme
sign op from = record { kind = LexKind.Sym op; span = span from (from + 1); line = 0; col = from }

-- a form from one place to another
abbrev node : Form.the_data → ℕ → ℕ → Trees → Tree
node form from to parts = Node form (span from to) parts

abbrev number : ℕ → Tree
number from = node (Form.Number (at from)) from (from + 1) Nil

abbrev segment : ℕ → Trees → Tree
segment from arguments = node (Form.Segment (at from)) from (from + 1) arguments

-- a name with arguments, to this end
abbrev call : ℕ → ℕ → Trees → Tree
call from to arguments = node Form.Identifier from to (one (segment from arguments))

abbrev bare : ℕ → Tree
bare from = call from (from + 1) Nil

-- `I(e)!F(e)`, with arguments or with none
abbrev path : ℕ → Trees → ℕ → ℕ → Trees → Tree
path from outer name to inner = node Form.Identifier from to (two (segment from outer) (segment name inner))

abbrev symbol : Op.the_data → ℕ → Tree
symbol op from = node (Form.Symbol (sign op from)) from (from + 1) Nil

abbrev parentheses : ℕ → ℕ → Tree → Tree
parentheses from to inner = node Form.Parentheses from to (one inner)

abbrev itself : ℕ → Tree
itself from = node (Form.At (at from)) from (from + 1) Nil

-- `[f EXCEPT ![i] = e]`
abbrev except : Tree → Tree → Tree → Tree
except function index value = node Form.Except 0 0 (two function (node Form.Update 0 0 (two (node Form.IndexStep 0 0 (one index)) value)))

abbrev name : ℕ → Tree
name from = node (Form.Name (at from)) from (from + 1) Nil

abbrev operator_name : ℕ → ℕ → Tree
operator_name from places = node (Form.OperatorParameter (at from) places) from (from + 1) Nil

abbrev three : Tree → Tree → Tree → Trees
three x y z = Cons x (two y z)

-- ---- units

abbrev define : ℕ → Trees → UnitTree
define from parts = OperatorDefinition None (node (Form.OperatorDefinition (at from)) 0 0 parts)

abbrev constant : Tree → UnitTree
constant declaration = Constants (one declaration)

abbrev instance : ℕ → Trees → Tree
instance from replacements = node (Form.Instance (at from)) 0 0 replacements

abbrev replacement : ℕ → Tree → Tree
replacement from right = node (Form.Replacement (at from)) 0 0 (one right)

-- `I == INSTANCE N ..`
abbrev named : ℕ → Tree → UnitTree
named from inner = ModuleDefinition None (node (Form.ModuleDefinition (at from)) 0 0 (one inner))

-- `I(p) == INSTANCE N ..`
abbrev applied : ℕ → ℕ → Tree → UnitTree
applied from parameter inner = ModuleDefinition None (node (Form.ModuleDefinition (at from)) 0 0 (two (name parameter) inner))

-- ---- modules

abbrev declared : List ℕ → ℕ → entity.the_data → Meaning
declared file place what = Declared what (record { instance = 0; decl = record { «module» = file; place = place }; via = [] })

abbrev module_of : Exports → ModuleView
module_of exports = record { entries = entries_from none_known exports; parameters = parameters_in exports }

abbrev files : List ℕ → ModuleView
files file =
    if bytes_eq file (codes "N") then module_of ((Word (codes "c"), declared (codes "N") 0 (entity.Constant 0)) ∷ (Word (codes "d"), declared (codes "N") 1 (entity.Constant 1)) ∷ (Word (codes "F"), declared (codes "N") 2 (entity.Definition [])) ∷ [])
    else if bytes_eq file (codes "K") then module_of ((Word (codes "c"), declared (codes "K") 0 (entity.Constant 0)) ∷ (Word (codes "F"), declared (codes "K") 1 (entity.Definition [])) ∷ (Word (codes "G"), declared (codes "K") 2 (entity.Definition (0 ∷ []))) ∷ [])
    else nothing

-- the faults of arity in a module of these units, and those of names
abbrev checked : List ℕ → List UnitTree → List Diagnostic
checked text units = arity_faults (findings files text (record { name = at 0; extends = []; units = units })) units

abbrev unresolved : List ℕ → List UnitTree → List Diagnostic
unresolved text units = faults (findings files text (record { name = at 0; extends = []; units = units }))

abbrev fault : ℕ → ℕ → ℕ → Diagnostic
fault code from to = record { code = code; span = span from to }

-- `F(x) == 1`, whose names stand at 1 and 2
abbrev unary : UnitTree
unary = define 1 (two (name 2) (number 0))

-- `G(f(_)) == 1` behind it, whose names stand at 3 and 4
abbrev taking : UnitTree
taking = define 3 (two (operator_name 4 1) (number 0))

-- ---- arguments

-- F(x) == 1 | U == F(1, 2) | V == F | W == @
by_number_bare_and_itself : checked (codes "MFxUF12VFW@") (unary ∷ define 3 (one (call 4 7 (two (number 5) (number 6)))) ∷ define 7 (one (bare 8)) ∷ define 9 (one (itself 10)) ∷ []) ≡ fault 501 4 5 ∷ fault 502 8 9 ∷ fault 503 10 11 ∷ []
by_number_bare_and_itself = refl

-- F(x) == 1 | U == F(1)
by_right_number : checked (codes "MFxUF1") (unary ∷ define 3 (one (call 4 6 (one (number 5)))) ∷ []) ≡ []
by_right_number = refl

-- CONSTANT c | U == c(1)
an_expression_takes_none : checked (codes "McUc1") (constant (name 1) ∷ define 2 (one (call 3 5 (one (number 4)))) ∷ []) ≡ fault 501 3 4 ∷ []
an_expression_takes_none = refl

-- CONSTANT c(_) | U == c(1) | V == c
a_constant_with_places : checked (codes "McUc1Vc") (constant (operator_name 1 1) ∷ define 2 (one (call 3 5 (one (number 4)))) ∷ define 5 (one (bare 6)) ∷ []) ≡ fault 502 6 7 ∷ []
a_constant_with_places = refl

-- U == TRUE | V == TRUE(1)
built_in_takes_none : checked (codes "MUTRUEVTRUE1") (define 1 (one (node Form.Identifier 2 6 (one (node (Form.Segment (word 2 6)) 2 6 Nil)))) ∷ define 6 (one (node Form.Identifier 7 12 (one (node (Form.Segment (word 7 11)) 7 11 (one (number 11)))))) ∷ []) ≡ fault 501 7 11 ∷ []
built_in_takes_none = refl

-- F(x) == 1 | U == F(F)
an_operator_for_an_expression : checked (codes "MFxUFF") (unary ∷ define 3 (one (call 4 6 (one (bare 5)))) ∷ []) ≡ fault 502 5 6 ∷ []
an_operator_for_an_expression = refl

-- F(x) == 1 | U == F(1, F): nothing is due of the surplus one, and its own parts are expressions
a_surplus_argument : checked (codes "MFxUF1FVF1F1F") (unary ∷ define 3 (one (call 4 7 (two (number 5) (bare 6)))) ∷ define 7 (one (call 8 12 (two (number 9) (call 10 12 (two (number 11) (bare 12)))))) ∷ []) ≡ fault 501 4 5 ∷ fault 501 8 9 ∷ fault 501 10 11 ∷ []
a_surplus_argument = refl

-- F(x) == 1 | U == Z(F): nothing is due below an unknown name
below_an_unknown_name : checked (codes "MFxUZF") (unary ∷ define 3 (one (call 4 6 (one (bare 5)))) ∷ []) ≡ []
below_an_unknown_name = refl

without_a_meaning : unresolved (codes "MFxUZF") (unary ∷ define 3 (one (call 4 6 (one (bare 5)))) ∷ []) ≡ fault 401 4 5 ∷ []
without_a_meaning = refl

-- F(x) == 1 | U == Z({F}): what stands inside of such an argument is judged by its own form
inside_of_an_argument : checked (codes "MFxUZF") (unary ∷ define 3 (one (call 4 6 (one (node Form.SetEnumeration 5 6 (one (bare 5)))))) ∷ []) ≡ fault 502 5 6 ∷ []
inside_of_an_argument = refl

-- F(x) == 1 | U == {F}
where_an_element_is_due : checked (codes "MFxUF") (unary ∷ define 3 (one (node Form.SetEnumeration 4 5 (one (bare 4)))) ∷ []) ≡ fault 502 4 5 ∷ []
where_an_element_is_due = refl

-- U == LET F(x) == x IN F
in_a_let : checked (codes "MUFxxF") (define 1 (one (node Form.Let 0 0 (two (node (Form.OperatorDefinition (at 2)) 0 0 (two (name 3) (bare 4))) (bare 5)))) ∷ []) ≡ fault 502 5 6 ∷ []
in_a_let = refl

-- ---- operators as arguments

-- F(x) == 1 | G(f(_)) == 1 | U == G(F) | V == G(1) | W == G(U) | X == G(F(1))
a_bare_operator_is_due : checked (codes "MFxGfUGFVG1WGUXGF1") (unary ∷ taking ∷ define 5 (one (call 6 8 (one (bare 7)))) ∷ define 8 (one (call 9 11 (one (number 10)))) ∷ define 11 (one (call 12 14 (one (bare 13)))) ∷ define 14 (one (call 15 18 (one (call 16 18 (one (number 17)))))) ∷ []) ≡ fault 502 10 11 ∷ fault 502 13 14 ∷ fault 502 16 18 ∷ []
a_bare_operator_is_due = refl

-- F(x) == 1 | G(f(_)) == 1 | U == G((F))
in_parentheses : checked (codes "MFxGfUG(F)") (unary ∷ taking ∷ define 5 (one (call 6 10 (one (parentheses 7 10 (bare 8))))) ∷ []) ≡ fault 502 7 10 ∷ fault 502 8 9 ∷ []
in_parentheses = refl

-- F(x) == 1 | G(f(_)) == 1 | U == G(G): its parameter is no expression
an_operator_with_an_operator_parameter : checked (codes "MFxGfUGG") (unary ∷ taking ∷ define 5 (one (call 6 8 (one (bare 7)))) ∷ []) ≡ fault 502 7 8 ∷ []
an_operator_with_an_operator_parameter = refl

-- F(x) == 1 | G(f(_)) == f(f) | U == G(Z) | V == G(Z(1))
an_unknown_operator : checked (codes "MFxGfffUGZVGZ1") (unary ∷ define 3 (two (operator_name 4 1) (call 5 7 (one (bare 6)))) ∷ define 7 (one (call 8 10 (one (bare 9)))) ∷ define 10 (one (call 11 14 (one (call 12 14 (one (number 13)))))) ∷ []) ≡ fault 502 6 7 ∷ fault 502 12 14 ∷ []
an_unknown_operator = refl

-- F(x) == 1 | G(f(_)) == 1 | U == G(') | V == G(\cup) | W == G(\oplus), which is not defined
symbols : checked (codes "MFxGfUG'VGuWGo") (unary ∷ taking ∷ define 5 (one (call 6 8 (one (symbol Op.Prime 7)))) ∷ define 8 (one (call 9 11 (one (symbol Op.Cup 10)))) ∷ define 11 (one (call 12 14 (one (symbol Op.CirclePlus 13)))) ∷ []) ≡ fault 502 10 11 ∷ []
symbols = refl

-- CONSTANT _ + _ | H(h(_, _)) == 1 | U == H(+) | K(x) == 1 | V == K(+)
a_declared_symbol : checked (codes "M+HhUH+KxVK+") (constant (node (Form.InfixParameter (sign Op.Plus 1)) 1 2 Nil) ∷ define 2 (two (operator_name 3 2) (number 0)) ∷ define 4 (one (call 5 7 (one (symbol Op.Plus 6)))) ∷ define 7 (two (name 8) (number 0)) ∷ define 9 (one (call 10 12 (one (symbol Op.Plus 11)))) ∷ []) ≡ fault 502 11 12 ∷ []
a_declared_symbol = refl

-- ---- @

-- CONSTANT f | U == [f EXCEPT ![@] = @]
in_a_right_side : checked (codes "MfUf@@") (constant (name 1) ∷ define 2 (one (except (bare 3) (itself 4) (itself 5))) ∷ []) ≡ fault 503 4 5 ∷ []
in_a_right_side = refl

-- CONSTANT f | U == [f EXCEPT ![1] = [@ EXCEPT ![@] = 1]]
in_an_inner_function : checked (codes "MfUf1@@1") (constant (name 1) ∷ define 2 (one (except (bare 3) (number 4) (except (itself 5) (itself 6) (number 7)))) ∷ []) ≡ []
in_an_inner_function = refl

-- U == [@ EXCEPT ![1] = 2]
in_a_function : checked (codes "MU@12") (define 1 (one (except (itself 2) (number 3) (number 4))) ∷ []) ≡ fault 503 2 3 ∷ []
in_a_function = refl

-- ---- instances

-- I(p) == INSTANCE K WITH c <- p | U == I!F
an_instance_needs_its_arguments : checked (codes "MIpKcpUIF") (applied 1 2 (instance 3 (one (replacement 4 (bare 5)))) ∷ define 6 (one (path 7 Nil 8 9 Nil)) ∷ []) ≡ fault 501 7 8 ∷ []
an_instance_needs_its_arguments = refl

-- I(p) == INSTANCE K WITH c <- p | U == I(1)!F | V == I(1)!G | W == I(1)!G(1) | X == I(1)!F(1)
behind_an_instance : checked (codes "MIpKcpUI1FVI1GWI1G1XI1F1") (applied 1 2 (instance 3 (one (replacement 4 (bare 5)))) ∷ define 6 (one (path 7 (one (number 8)) 9 10 Nil)) ∷ define 10 (one (path 11 (one (number 12)) 13 14 Nil)) ∷ define 14 (one (path 15 (one (number 16)) 17 19 (one (number 18)))) ∷ define 19 (one (path 20 (one (number 21)) 22 24 (one (number 23)))) ∷ []) ≡ fault 502 13 14 ∷ fault 501 22 23 ∷ []
behind_an_instance = refl

-- I(p) == INSTANCE K WITH c <- p | U == I | V == I(1) | W == I(1, 2)
an_instance_is_no_expression : checked (codes "MIpKcpUIVI1WI12") (applied 1 2 (instance 3 (one (replacement 4 (bare 5)))) ∷ define 6 (one (bare 7)) ∷ define 8 (one (call 9 11 (one (number 10)))) ∷ define 11 (one (call 12 15 (two (number 13) (number 14)))) ∷ []) ≡ fault 502 7 8 ∷ fault 502 9 10 ∷ fault 501 12 13 ∷ fault 502 12 13 ∷ []
an_instance_is_no_expression = refl

-- F(x) == 1 | U == F!G | V == F(1, 2)!G(@)!H(@): F is no instance, so G is unknown, and H is not looked at
no_instance : checked (codes "MFxUFGVF12G@H@") (unary ∷ define 3 (one (path 4 Nil 5 6 Nil)) ∷ define 6 (one (node Form.Identifier 7 14 (three (segment 7 (two (number 8) (number 9))) (segment 10 (one (itself 11))) (segment 12 (one (itself 13)))))) ∷ []) ≡ fault 501 7 8 ∷ fault 503 11 12 ∷ []
no_instance = refl

found_nothing : unresolved (codes "MFxUFGVF12G@H@") (unary ∷ define 3 (one (path 4 Nil 5 6 Nil)) ∷ define 6 (one (node Form.Identifier 7 14 (three (segment 7 (two (number 8) (number 9))) (segment 10 (one (itself 11))) (segment 12 (one (itself 13)))))) ∷ []) ≡ fault 401 5 6 ∷ fault 401 10 11 ∷ []
found_nothing = refl

-- F(x) == 1 | G(f(_)) == 1 | I == INSTANCE K WITH c <- 1 | U == G(I!G) | V == G(I!F) | W == G(I) | X == G(I!Z)
an_operator_behind_an_instance : checked (codes "MFxGfIKc1UGIGVGIFWGIXGIZ") (unary ∷ taking ∷ named 5 (instance 6 (one (replacement 7 (number 8)))) ∷ define 9 (one (call 10 13 (one (path 11 Nil 12 13 Nil)))) ∷ define 13 (one (call 14 17 (one (path 15 Nil 16 17 Nil)))) ∷ define 17 (one (call 18 20 (one (bare 19)))) ∷ define 20 (one (call 21 24 (one (path 22 Nil 23 24 Nil)))) ∷ []) ≡ fault 502 15 17 ∷ fault 502 19 20 ∷ []
an_operator_behind_an_instance = refl

-- ---- replacements

-- F(x) == 1 | I == INSTANCE N WITH c <- F, d <- F
replaced_by_an_operator : checked (codes "MFxINcFdF") (unary ∷ named 3 (instance 4 (two (replacement 5 (bare 6)) (replacement 7 (bare 8)))) ∷ []) ≡ fault 502 6 7 ∷ []
replaced_by_an_operator = refl

-- F(x) == 1 | I == INSTANCE N WITH c <- F(1), d <- F(1)
replaced_by_an_expression : checked (codes "MFxINcF1dF1") (unary ∷ named 3 (instance 4 (two (replacement 5 (call 6 8 (one (number 7)))) (replacement 8 (call 9 11 (one (number 10)))))) ∷ []) ≡ fault 502 9 11 ∷ []
replaced_by_an_expression = refl

-- F(x) == 1 | I == INSTANCE K WITH c <- 1, c <- F, z <- F: of a parameter replaced twice the same is due, and nothing where none is replaced
replaced_twice_or_not : checked (codes "MFxIKc1cFzF") (unary ∷ named 3 (instance 4 (three (replacement 5 (number 6)) (replacement 7 (bare 8)) (replacement 9 (bare 10)))) ∷ []) ≡ fault 502 8 9 ∷ []
replaced_twice_or_not = refl

left_sides : unresolved (codes "MFxIKc1cFzF") (unary ∷ named 3 (instance 4 (three (replacement 5 (number 6)) (replacement 7 (bare 8)) (replacement 9 (bare 10)))) ∷ []) ≡ fault 406 7 8 ∷ fault 405 9 10 ∷ []
left_sides = refl

-- c(x) == 1 | d == 1 | I == INSTANCE N
not_written : checked (codes "McxdIN") (define 1 (two (name 2) (number 0)) ∷ define 3 (one (number 0)) ∷ named 4 (instance 5 Nil) ∷ []) ≡ fault 502 5 6 ∷ fault 502 5 6 ∷ []
not_written = refl

-- d(x) == 1 | CONSTANT c | I == INSTANCE N
not_written_and_right : checked (codes "MdxcIN") (define 1 (two (name 2) (number 0)) ∷ constant (name 3) ∷ named 4 (instance 5 Nil) ∷ []) ≡ []
not_written_and_right = refl
