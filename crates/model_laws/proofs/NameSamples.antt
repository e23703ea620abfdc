-- Sample modules with what their names mean. The text of a sample has its names alone, one letter each, in the order of
-- the module; a place in it is a lexeme. The module's own name is M. A and C bring one constant x, and B another.
use Rattle.std.proofs.Common.{◌≡◌, ℕ, ◌+◌, List, [], ◌∷◌, true, false, refl, map, if◌then◌else◌}
use Rattle.std.specs.Prelude.{None, Option, Some, codes}
use Rattle.std.specs.Str.{bytes_eq}
use Rattle.tla_symbols.specs.declared.lexeme.LexKind.{LexKind}
use Rattle.tla_symbols.specs.declared.lexeme.Lexeme.{Lexeme}
use Rattle.tla_symbols.specs.declared.op.Op.TheVariants as Op
use Rattle.tla_tree.specs.declared.form.Form.TheVariants as Form
use Rattle.tla_tree.specs.Syntax.{Tree, Trees, Nil, Cons}
use Rattle.tla_tree.specs.Lexemes.{built, one, two}
use Rattle.unit_grammar.specs.Units.{UnitTree, Variables, Constants, OperatorDefinition, FunctionDefinition, Assumption, ModuleBegin, ModuleEnd, ModuleUnits}
use Rattle.precedence.specs.Choices.{op_number}
use Rattle.tla_model.specs.declared.names.Finding.TheVariants.{Means, Unknown, Taken, Clashes}
use Rattle.tla_model.specs.declared.names.Binder.{Binder}
use Rattle.tla_model.specs.declared.names.Meaning.TheVariants.{BuiltIn, Declared}
use Rattle.tla_model.specs.declared.Diagnostic.{Diagnostic}
use Rattle.tla_model.specs.declared.entity.Entity.TheVariants as entity
use Rattle.tla_model.specs.declared.ids.Callee.{Callee}
use Rattle.module_model.specs.Bindings.{Resolved, faults, resolved}
use Rattle.tla_model.specs.Entities.{Meaning, declaring}
use Rattle.module_model.specs.Exports.{Exports, ModuleView, entries_from, none_known, nothing, parameters_in}
use Rattle.module_model.specs.Modules.{text_of}
use Rattle.module_model.specs.Resolution.{exports_in, findings, first, read_all}
use Rattle.tla_model.specs.Scopes.{Finding}
use Rattle.tla_model.specs.Tables.{Word, Symbol, lookup}

-- ---- lexemes and trees

abbrev pub word : ℕ → ℕ → Lexeme
word from to = record { kind = LexKind.Name; span = record { start = from; end = to }; line = 0; col = from }

abbrev pub at : ℕ → Lexeme
at from = word from (from + 1)

abbrev pub sign : Op.the_data → ℕ → Lexeme
sign op from = record { kind = LexKind.Sym op; span = record { start = from; end = from + 1 }; line = 0; col = from }

abbrev pub three : Tree → Tree → Tree → Trees
three x y z = Cons x (two y z)

-- 1, and a name with arguments or with none
abbrev pub number : Tree
number = built (Form.Number (at 0)) Nil []

abbrev pub segment : ℕ → Trees → Tree
segment from arguments = built (Form.Segment (at from)) arguments []

abbrev pub identifier : Trees → Tree
identifier segments = built Form.Identifier segments []

abbrev pub call : ℕ → Trees → Tree
call from arguments = identifier (one (segment from arguments))

abbrev pub bare : ℕ → Tree
bare from = call from Nil

-- a name where it is declared or bound, and `x \in e`
abbrev pub name : ℕ → Tree
name from = built (Form.Name (at from)) Nil []

abbrev pub bound : ℕ → Tree → Tree
bound from set = built Form.Bound (two (name from) set) []

-- `\E`, and `\EE` of one name
abbrev pub exists : Trees → Tree
exists parts = built (Form.BoundedQuantifier (at 0)) parts []

abbrev pub hidden : ℕ → Tree → Tree
hidden from body = built (Form.TemporalQuantifier (at 0)) (two (built Form.Names (one (name from)) []) body) []

abbrev pub let_in : Trees → Tree
let_in parts = built Form.Let parts []

abbrev pub infix_of : Op.the_data → ℕ → Tree
infix_of op from = built (Form.Infix (sign op from)) (two number number) []

-- ---- units

abbrev pub operator_of : ℕ → Trees → Tree
operator_of from parts = built (Form.OperatorDefinition (at from)) parts []

abbrev pub operator : ℕ → Trees → UnitTree
operator from parts = OperatorDefinition None (operator_of from parts)

-- `F == e`, and `F == 1`
abbrev pub define : ℕ → Tree → UnitTree
define from body = operator from (one body)

abbrev pub defined : ℕ → UnitTree
defined from = define from number

abbrev pub function : ℕ → Trees → UnitTree
function from parts = FunctionDefinition None (built (Form.FunctionDefinition (at from)) parts [])

-- `x + y == e`
abbrev pub infix_defined : ℕ → Tree → UnitTree
infix_defined from body = OperatorDefinition None (built (Form.InfixDefinition (sign Op.Plus (from + 1))) (three (name from) (name (from + 2)) body) [])

abbrev pub constant : ℕ → UnitTree
constant from = Constants (one (name from))

abbrev pub begin : ℕ → UnitTree
begin from = ModuleBegin (at 0) (at from) []

abbrev pub end : UnitTree
end = ModuleEnd (at 0)

abbrev pub module_with : List Lexeme → List UnitTree → ModuleUnits
module_with extends units = record { name = at 0; extends = extends; units = units }

-- ---- what names mean

abbrev pub callee : List ℕ → ℕ → Callee
callee file place = record { instance = 0; decl = record { «module» = file; place = place }; via = [] }

abbrev pub brought : List ℕ → Meaning
brought file = Declared (entity.Constant 0) (callee file 0)

-- a module that exports these, and no instance
abbrev pub module_of : Exports → ModuleView
module_of exports = record { entries = entries_from none_known exports; parameters = parameters_in exports }

abbrev files : List ℕ → ModuleView
files file =
    if bytes_eq file (codes "A") then module_of ((Word (codes "x"), brought (codes "A")) ∷ [])
    else if bytes_eq file (codes "C") then module_of ((Word (codes "x"), brought (codes "A")) ∷ [])
    else if bytes_eq file (codes "B") then module_of ((Word (codes "x"), brought (codes "B")) ∷ [])
    else nothing

abbrev pub own : entity.the_data → ℕ → Meaning
own what place = Declared what (callee (codes "M") place)

-- a use of what M declares, by how many names stand before the declaring one
abbrev pub means : ℕ → entity.the_data → ℕ → Finding
means from what place = Means (at from) (own what place)

abbrev pub unknown : ℕ → Finding
unknown from = Unknown (at from)

abbrev pub taken : ℕ → Finding
taken from = Taken (at from)

abbrev pub value : entity.the_data
value = entity.Definition []

abbrev pub bound_name : entity.the_data
bound_name = entity.Bound false

-- what is found in a module that extends these
abbrev found_with : List Lexeme → List ℕ → List UnitTree → List Finding
found_with extends text units = findings files text (module_with extends units)

abbrev found : List ℕ → List UnitTree → List Finding
found text units = found_with [] text units

-- ---- names in order

-- F == TRUE
built_in_name : found (codes "MFTRUE") (define 1 (identifier (one (built (Form.Segment (word 2 6)) Nil []))) ∷ []) ≡ Means (word 2 6) BuiltIn ∷ []
built_in_name = refl

-- F == TRUE!x
nothing_behind_built_in : found (codes "MFTRUEx") (define 1 (identifier (two (built (Form.Segment (word 2 6)) Nil []) (segment 6 Nil))) ∷ []) ≡ Means (word 2 6) BuiltIn ∷ unknown 6 ∷ []
nothing_behind_built_in = refl

-- CONSTANT TRUE
built_in_is_taken : found (codes "MTRUE") (Constants (one (built (Form.Name (word 1 5)) Nil [])) ∷ []) ≡ Taken (word 1 5) ∷ []
built_in_is_taken = refl

-- CONSTANT x | VARIABLE y | F == x | G == y
declared_before : found (codes "MxyFxGy") (constant 1 ∷ Variables (at 2 ∷ []) ∷ define 3 (bare 4) ∷ define 5 (bare 6) ∷ []) ≡ means 4 (entity.Constant 0) 0 ∷ means 6 entity.Variable 1 ∷ []
declared_before = refl

-- F == G | G == 1
not_yet_there : found (codes "MFGG") (define 1 (bare 2) ∷ defined 3 ∷ []) ≡ unknown 2 ∷ []
not_yet_there = refl

-- F == F
in_its_own_body : found (codes "MFF") (define 1 (bare 2) ∷ []) ≡ unknown 2 ∷ []
in_its_own_body = refl

-- F == 1 | F == F | G == F | H == G
refused_definition : found (codes "MFFFGFHG") (defined 1 ∷ define 2 (bare 3) ∷ define 4 (bare 5) ∷ define 6 (bare 7) ∷ []) ≡ taken 2 ∷ means 3 value 0 ∷ means 5 value 0 ∷ means 7 value 2 ∷ []
refused_definition = refl

-- CONSTANT x | VARIABLE x | F == x
refused_declaration : found (codes "MxxFx") (constant 1 ∷ Variables (at 2 ∷ []) ∷ define 3 (bare 4) ∷ []) ≡ taken 2 ∷ means 4 (entity.Constant 0) 0 ∷ []
refused_declaration = refl

-- ---- parameters and bound names

-- F(x) == x | G(x) == x | CONSTANT x
scopes_apart : found (codes "MFxxGxxx") (operator 1 (two (name 2) (bare 3)) ∷ operator 4 (two (name 5) (bare 6)) ∷ constant 7 ∷ []) ≡ means 3 (entity.Parameter 0) 1 ∷ means 6 (entity.Parameter 0) 3 ∷ []
scopes_apart = refl

-- F(F, x, x) == F
parameters_are_taken : found (codes "MFFxxF") (operator 1 (Cons (name 2) (three (name 3) (name 4) (bare 5))) ∷ []) ≡ taken 2 ∷ taken 4 ∷ unknown 5 ∷ []
parameters_are_taken = refl

-- F(G(_)) == G(x) | H == F
operator_parameter : found (codes "MFGGxHF") (operator 1 (two (built (Form.OperatorParameter (at 2) 1) Nil []) (call 3 (one (bare 4)))) ∷ define 5 (bare 6) ∷ []) ≡ means 3 (entity.Parameter 1) 1 ∷ unknown 4 ∷ means 6 (entity.Definition (1 ∷ [])) 0 ∷ []
operator_parameter = refl

-- CONSTANT x | F == \E x \in x : x
bound_name_is_taken : found (codes "MxFxxx") (constant 1 ∷ define 2 (exists (two (bound 3 (bare 4)) (bare 5))) ∷ []) ≡ means 4 (entity.Constant 0) 0 ∷ taken 3 ∷ means 5 (entity.Constant 0) 0 ∷ []
bound_name_is_taken = refl

-- F == \E x \in x, y \in x : y | G == y
sets_stand_outside : found (codes "MFxxyxyGy") (define 1 (exists (three (bound 2 (bare 3)) (bound 4 (bare 5)) (bare 6))) ∷ define 7 (bare 8) ∷ []) ≡ unknown 3 ∷ unknown 5 ∷ means 6 bound_name 2 ∷ unknown 8 ∷ []
sets_stand_outside = refl

-- F == {x : x \in x}
image_stands_inside : found (codes "MFxxx") (define 1 (built Form.SetImage (two (bare 2) (bound 3 (bare 4))) []) ∷ []) ≡ means 2 bound_name 1 ∷ unknown 4 ∷ []
image_stands_inside = refl

-- F == {<<x, y>> \in x : y}
tuple_of_names : found (codes "MFxyxy") (define 1 (built Form.SetFilter (two (built Form.TupleBound (three (name 2) (name 3) (bare 4)) []) (bare 5)) []) ∷ []) ≡ unknown 4 ∷ means 5 bound_name 2 ∷ []
tuple_of_names = refl

-- F == \EE x : CHOOSE y : x
bound_over_no_set : found (codes "MFxyx") (define 1 (hidden 2 (built Form.Choose (two (built Form.Names (one (name 3)) []) (bare 4)) [])) ∷ []) ≡ means 4 (entity.Bound true) 1 ∷ []
bound_over_no_set = refl

-- f[x \in f] == f | F == f
function_in_its_body : found (codes "MfxffFf") (function 1 (two (bound 2 (bare 3)) (bare 4)) ∷ define 5 (bare 6) ∷ []) ≡ unknown 3 ∷ means 4 bound_name 0 ∷ means 6 value 0 ∷ []
function_in_its_body = refl

-- f[f \in 1] == f
function_binds_no_other : found (codes "Mfff") (function 1 (two (bound 2 number) (bare 3)) ∷ []) ≡ taken 2 ∷ means 3 bound_name 0 ∷ []
function_binds_no_other = refl

-- F(_ + _) == 1 + 1 | G == 1 + 1
symbol_parameter : found (codes "MF++G+") (operator 1 (two (built (Form.InfixParameter (sign Op.Plus 2)) Nil []) (infix_of Op.Plus 3)) ∷ define 4 (infix_of Op.Plus 5) ∷ []) ≡ Means (sign Op.Plus 3) (own (entity.Parameter 2) 1) ∷ Unknown (sign Op.Plus 5) ∷ []
unfolding op_number
symbol_parameter = refl

-- F(x) == [x |-> x].x | ASSUME x
fields_are_no_names : found (codes "MFxxxxx") (operator 1 (two (name 2) (built (Form.FieldAccess (at 5)) (one (built Form.Record (one (built (Form.Field (at 3)) (one (bare 4)) [])) [])) [])) ∷ Assumption (at 0) None (bare 6) ∷ []) ≡ means 4 (entity.Parameter 0) 1 ∷ unknown 6 ∷ []
fields_are_no_names = refl

-- ---- LET

-- F == LET G == H  H == G IN H
let_in_order : found (codes "MFGHHGH") (define 1 (let_in (three (operator_of 2 (one (bare 3))) (operator_of 4 (one (bare 5))) (bare 6))) ∷ []) ≡ unknown 3 ∷ means 5 value 1 ∷ means 6 value 2 ∷ []
let_in_order = refl

-- F == LET G == 1 IN G | H == G | G == 1
let_is_gone_behind : found (codes "MFGGHGG") (define 1 (let_in (two (operator_of 2 (one number)) (bare 3))) ∷ define 4 (bare 5) ∷ defined 6 ∷ []) ≡ means 3 value 1 ∷ unknown 5 ∷ []
let_is_gone_behind = refl

-- F == LET F == 1 IN F
let_takes_no_name_again : found (codes "MFFF") (define 1 (let_in (two (operator_of 2 (one number)) (bare 3))) ∷ []) ≡ taken 2 ∷ unknown 3 ∷ []
let_takes_no_name_again = refl

-- ---- names behind others

-- F == 1 | G == F(x)!y(z)
second_segment : found (codes "MFGFxyz") (defined 1 ∷ define 2 (identifier (two (segment 3 (one (bare 4))) (segment 5 (one (bare 6))))) ∷ []) ≡ means 3 value 0 ∷ unknown 4 ∷ unknown 5 ∷ unknown 6 ∷ []
second_segment = refl

-- F == 1 | G == F!x!y(\E z \in z : z) | H == G
later_segments_are_not_looked_at : found (codes "MFGFxyzzzHG") (defined 1 ∷ define 2 (identifier (three (segment 3 Nil) (segment 4 Nil) (segment 5 (one (exists (two (bound 6 (bare 7)) (bare 8))))))) ∷ define 9 (bare 10) ∷ []) ≡ means 3 value 0 ∷ unknown 4 ∷ means 10 value 1 ∷ []
later_segments_are_not_looked_at = refl

-- and what they bind is counted
later_segments_are_counted : (text_of (codes "MFGFxyzzzHG") (module_with [] (defined 1 ∷ define 2 (identifier (three (segment 3 Nil) (segment 4 Nil) (segment 5 (one (exists (two (bound 6 (bare 7)) (bare 8))))))) ∷ define 9 (bare 10) ∷ []))).starts ≡ 1 ∷ 2 ∷ 6 ∷ 9 ∷ []
later_segments_are_counted = refl

-- F == x(y)!z(y)
first_segment : found (codes "MFxyzy") (define 1 (identifier (two (segment 2 (one (bare 3))) (segment 4 (one (bare 5))))) ∷ []) ≡ unknown 2 ∷ unknown 3 ∷ []
first_segment = refl

-- ---- symbols

-- F == 1 + 1 | x + y == y | G == 1 + 1
symbol_defined : found (codes "MF+x+yyG+") (define 1 (infix_of Op.Plus 2) ∷ infix_defined 3 (bare 6) ∷ define 7 (infix_of Op.Plus 8) ∷ []) ≡ Unknown (sign Op.Plus 2) ∷ means 6 (entity.Parameter 0) 3 ∷ Means (sign Op.Plus 8) (own (entity.Definition (0 ∷ 0 ∷ [])) 2) ∷ []
unfolding op_number
symbol_defined = refl

-- CONSTANT -. _ | F == -1 | G == 1 - 1 | H == x(-.)
minus_before_its_operand : found (codes "M-F-G-Hx-") (Constants (one (built (Form.PrefixParameter (sign Op.Negative 1)) Nil [])) ∷ define 2 (built (Form.Prefix (sign Op.Minus 3)) (one number) []) ∷ define 4 (infix_of Op.Minus 5) ∷ define 6 (call 7 (one (built (Form.Symbol (sign Op.Negative 8)) Nil []))) ∷ []) ≡ Means (sign Op.Minus 3) (own (entity.Constant 1) 0) ∷ Unknown (sign Op.Minus 5) ∷ unknown 7 ∷ Means (sign Op.Negative 8) (own (entity.Constant 1) 0) ∷ []
unfolding op_number
minus_before_its_operand = refl

-- F == 1 \cup 1
symbol_of_the_language : found (codes "MF+") (define 1 (infix_of Op.Cup 2) ∷ []) ≡ []
symbol_of_the_language = refl

-- ---- other modules

-- EXTENDS A, C | F == x | CONSTANT x
same_on_two_ways : found_with (at 1 ∷ at 2 ∷ []) (codes "MACFxx") (define 3 (bare 4) ∷ constant 5 ∷ []) ≡ Means (at 4) (brought (codes "A")) ∷ taken 5 ∷ []
same_on_two_ways = refl

-- EXTENDS A, B | F == x
another_of_a_name : found_with (at 1 ∷ at 2 ∷ []) (codes "MABFx") (define 3 (bare 4) ∷ []) ≡ Clashes (at 2) ∷ Means (at 4) (brought (codes "A")) ∷ []
another_of_a_name = refl

-- EXTENDS A | CONSTANT y | LOCAL F == y | G(z) == F
exported : exports_in files (codes "MAyFyGzF") (module_with (at 1 ∷ []) (constant 2 ∷ OperatorDefinition (Some (at 0)) (operator_of 3 (one (bare 4))) ∷ operator 5 (two (name 6) (bare 7)) ∷ [])) ≡ (Word (codes "x"), brought (codes "A")) ∷ (Word (codes "y"), own (entity.Constant 0) 0) ∷ (Word (codes "G"), own (entity.Definition (0 ∷ [])) 2) ∷ []
exported = refl

-- LOCAL F == 1 | G == F
local_is_there : found (codes "MFGF") (OperatorDefinition (Some (at 0)) (operator_of 1 (one number)) ∷ define 2 (bare 3) ∷ []) ≡ means 3 value 0 ∷ []
local_is_there = refl

-- x + y == 1 | F == 1
symbols_are_exported : exports_in files (codes "Mx+yF") (module_with [] (infix_defined 1 number ∷ defined 4 ∷ [])) ≡ (Word (codes "F"), own value 3) ∷ (Symbol Op.Plus, own (entity.Definition (0 ∷ 0 ∷ [])) 1) ∷ []
symbols_are_exported = refl

-- ---- nested modules

-- CONSTANT x | MODULE N | F == x | G == y | x == 1 | end | CONSTANT y | H == F
nested_sees_earlier_names : found (codes "MxNFxGyxyHF") (constant 1 ∷ begin 2 ∷ define 3 (bare 4) ∷ define 5 (bare 6) ∷ defined 7 ∷ end ∷ constant 8 ∷ define 9 (bare 10) ∷ []) ≡ means 4 (entity.Constant 0) 0 ∷ unknown 6 ∷ taken 7 ∷ unknown 10 ∷ []
nested_sees_earlier_names = refl

-- MODULE A | F == 1 | end | MODULE P EXTENDS A | G == F | H == x | end
nested_before_file : found (codes "MAFPAGFHx") (begin 1 ∷ defined 2 ∷ end ∷ ModuleBegin (at 0) (at 3) (at 4 ∷ []) ∷ define 5 (bare 6) ∷ define 7 (bare 8) ∷ end ∷ []) ≡ means 6 value 1 ∷ unknown 8 ∷ []
nested_before_file = refl

-- MODULE P EXTENDS A | F == x | end | MODULE A | end
file_before_nested : found (codes "MPAFxA") (ModuleBegin (at 0) (at 1) (at 2 ∷ []) ∷ define 3 (bare 4) ∷ end ∷ begin 5 ∷ end ∷ []) ≡ Means (at 4) (brought (codes "A")) ∷ []
file_before_nested = refl

-- MODULE N | F == 1 | end | MODULE N | G == 1 | end | MODULE P EXTENDS N | H == F | I == G | end
first_nested_stays : found (codes "MNFNGPNHFIG") (begin 1 ∷ defined 2 ∷ end ∷ begin 3 ∷ defined 4 ∷ end ∷ ModuleBegin (at 0) (at 5) (at 6 ∷ []) ∷ define 7 (bare 8) ∷ define 9 (bare 10) ∷ end ∷ []) ≡ taken 3 ∷ means 8 value 1 ∷ unknown 10 ∷ []
first_nested_stays = refl

-- MODULE N | MODULE M | end | MODULE N | end | MODULE P | end | end | MODULE P | end
named_as_round_it : found (codes "MNMNPP") (begin 1 ∷ begin 2 ∷ end ∷ begin 3 ∷ end ∷ begin 4 ∷ end ∷ end ∷ begin 5 ∷ end ∷ []) ≡ taken 2 ∷ taken 3 ∷ []
named_as_round_it = refl

-- F == 1 | MODULE F | G == F | end | MODULE N | G == F | end
modules_are_named_apart : found (codes "MFFGFNGF") (defined 1 ∷ begin 2 ∷ define 3 (bare 4) ∷ end ∷ begin 5 ∷ define 6 (bare 7) ∷ end ∷ []) ≡ means 4 value 0 ∷ means 7 value 0 ∷ []
modules_are_named_apart = refl

-- EXTENDS A | MODULE N EXTENDS B | F == x | end
clash_with_a_name_round_it : found_with (at 1 ∷ []) (codes "MANBFx") (ModuleBegin (at 0) (at 2) (at 3 ∷ []) ∷ define 4 (bare 5) ∷ end ∷ []) ≡ Clashes (at 3) ∷ Means (at 5) (brought (codes "A")) ∷ []
clash_with_a_name_round_it = refl

-- what a module exports, if it is there and can be named
abbrev exports_there : Option (Option ModuleView) → Option (Option Exports)
exports_there None = None
exports_there (Some None) = Some None
exports_there (Some (Some view)) = Some (Some (view.entries []))

-- what the nested module of a name exports behind these units
abbrev nested_exports : List Lexeme → List ℕ → List UnitTree → List ℕ → Option (Option Exports)
nested_exports extends text units file = exports_there (lookup bytes_eq (read_all (text_of text (module_with extends units)) files [] (first files text (module_with extends units)) units).place.here.modules file)

-- EXTENDS A | MODULE N EXTENDS C | F == 1 | end
nested_exports_what_it_brings : nested_exports (at 1 ∷ []) (codes "MANCF") (ModuleBegin (at 0) (at 2) (at 3 ∷ []) ∷ defined 4 ∷ end ∷ []) (codes "N") ≡ Some (Some ((Word (codes "x"), brought (codes "A")) ∷ (Word (codes "F"), own value 1) ∷ []))
nested_exports_what_it_brings = refl

-- ---- faults

-- EXTENDS A, B | CONSTANT x | F == y
codes_of_faults : map (λ (fault : Diagnostic). fault.code) (faults (found_with (at 1 ∷ at 2 ∷ []) (codes "MABxFy") (constant 3 ∷ define 4 (bare 5) ∷ []))) ≡ 403 ∷ 402 ∷ 401 ∷ []
codes_of_faults = refl

-- ---- declarations and uses

-- where a declaring name stands, and as what; where a use stands, and which declaration it means
abbrev entry_of : Binder → ℕ × entity.the_data
entry_of binder = (binder.name.span.start, binder.entity)

abbrev place_of : Resolved → ℕ × ℕ
place_of resolved = (resolved.«use».name.start, resolved.callee.decl.place)

-- x + y == \E z \in 1 : 1 | f[w \in 1] == 1 | CONSTANT c(_) | MODULE N | VARIABLE v | end
declared_in_order : map entry_of (declaring (infix_defined 1 (exists (two (bound 4 number) number)) ∷ function 5 (two (bound 6 number) number) ∷ Constants (one (built (Form.OperatorParameter (at 7) 1) Nil [])) ∷ begin 8 ∷ Variables (at 9 ∷ []) ∷ end ∷ [])) ≡ (1, entity.Parameter 0) ∷ (2, entity.Definition (0 ∷ 0 ∷ [])) ∷ (3, entity.Parameter 0) ∷ (4, bound_name) ∷ (5, value) ∷ (6, bound_name) ∷ (7, entity.Constant 1) ∷ (8, entity.Module) ∷ (9, entity.Variable) ∷ []
declared_in_order = refl

-- CONSTANT x | F(y) == y(x, F, z, TRUE)
uses_of_declarations : map place_of (resolved (found (codes "MxFyyxFzTRUE") (constant 1 ∷ operator 2 (two (name 3) (call 4 (Cons (bare 5) (three (bare 6) (bare 7) (identifier (one (built (Form.Segment (word 8 12)) Nil []))))))) ∷ []))) ≡ (4, 2) ∷ (5, 0) ∷ []
uses_of_declarations = refl
