-- Trees, units and modules for samples. The text of a sample has its names alone, one letter each, in the order of the
-- module; a place in it is a lexeme. The first letter is the module's own name.
use Rattle.std.proofs.Common.{ℕ, ◌+◌, List, [], ◌∷◌, if◌then◌else◌}
use Rattle.std.specs.Prelude.{None}
use Rattle.std.specs.Str.{bytes_eq}
use Rattle.tla_symbols.specs.declared.lexeme.LexKind.{LexKind}
use Rattle.tla_symbols.specs.declared.lexeme.Lexeme.{Lexeme}
use Rattle.tla_symbols.specs.declared.op.Op.TheVariants as Op
use Rattle.tla_tree.specs.declared.form.Form.TheVariants as Form
use Rattle.tla_tree.specs.Lexemes.{one, two}
use Rattle.tla_tree.specs.Syntax.{Tree, Trees, Node, Nil, Cons}
use Rattle.unit_grammar.specs.Units.{UnitTree, Variables, Constants, OperatorDefinition, ModuleDefinition, ModuleBegin, ModuleEnd, ModuleUnits}
use Rattle.tla_model.specs.declared.Diagnostic.{Diagnostic}
use Rattle.tla_model.specs.declared.entity.Level.{Level}
use Rattle.tree_kinds.specs.Standing.{Outside}
use Rattle.tree_kinds.specs.TreeLevels.{LevelFinding}
use Rattle.module_kinds.specs.ModuleKinds.{kind_faults, level_findings, level_of, nowhere}

-- ---- lexemes and trees

abbrev pub at : ℕ → Lexeme
at from = record { kind = LexKind.Name; span = record { start = from; end = from + 1 }; line = 0; col = from }

abbrev pub sign : Op.the_data → ℕ → Lexeme
sign op from = record { kind = LexKind.Sym op; span = record { start = from; end = from + 1 }; line = 0; col = from }

abbrev pub node : Form.the_data → ℕ → ℕ → Trees → Tree
node form from to parts = Node form (record { start = from; end = to }) parts

abbrev pub three : Tree → Tree → Tree → Trees
three x y z = Cons x (two y z)

-- 1, a name with arguments or with none, and `I!F`
abbrev pub number : Tree
number = node (Form.Number (at 0)) 0 1 Nil

abbrev pub segment : ℕ → Trees → Tree
segment from arguments = node (Form.Segment (at from)) from (from + 1) arguments

abbrev pub call : ℕ → ℕ → Trees → Tree
call from to arguments = node Form.Identifier from to (one (segment from arguments))

abbrev pub bare : ℕ → Tree
bare from = call from (from + 1) Nil

abbrev pub path : ℕ → ℕ → Tree
path from to = node Form.Identifier from (to + 1) (two (segment from Nil) (segment to Nil))

-- a name where it is declared or bound
abbrev pub name : ℕ → Tree
name from = node (Form.Name (at from)) from (from + 1) Nil

abbrev pub bound : ℕ → Tree → Tree
bound from set = node Form.Bound from (from + 1) (two (name from) set)

-- forms from a place to another
abbrev pub primed : ℕ → ℕ → Tree → Tree
primed from to x = node (Form.Postfix (sign Op.Prime 0)) from to (one x)

abbrev pub always : ℕ → ℕ → Tree → Tree
always from to x = node (Form.Prefix (sign Op.Always 0)) from to (one x)

abbrev pub equal : ℕ → ℕ → Tree → Tree → Tree
equal from to x y = node (Form.Infix (sign Op.Equal 0)) from to (two x y)

abbrev pub both : ℕ → ℕ → Tree → Tree → Tree
both from to x y = node (Form.Infix (sign Op.And 0)) from to (two x y)

abbrev pub square : ℕ → ℕ → Tree → Tree → Tree
square from to x y = node Form.SquareAction from to (two x y)

abbrev pub tuple : ℕ → ℕ → Trees → Tree
tuple from to parts = node Form.Tuple from to parts

abbrev pub let_in : ℕ → ℕ → Trees → Tree
let_in from to parts = node Form.Let from to parts

-- ---- definitions and units

abbrev pub operator_of : ℕ → Trees → Tree
operator_of from parts = node (Form.OperatorDefinition (at from)) from (from + 1) parts

abbrev pub operator : ℕ → Trees → UnitTree
operator from parts = OperatorDefinition None (operator_of from parts)

abbrev pub define : ℕ → Tree → UnitTree
define from body = operator from (one body)

abbrev pub constant : ℕ → UnitTree
constant from = Constants (one (name from))

abbrev pub variable : ℕ → UnitTree
variable from = Variables (at from ∷ [])

abbrev pub with : ℕ → Tree → Tree
with from right = node (Form.Replacement (at from)) from (from + 1) (one right)

abbrev pub instance : ℕ → Trees → Tree
instance from rights = node (Form.Instance (at from)) from (from + 1) rights

abbrev pub instance_of : ℕ → Trees → Tree
instance_of from parts = node (Form.ModuleDefinition (at from)) from (from + 1) parts

abbrev pub named_unit : ℕ → Trees → UnitTree
named_unit from parts = ModuleDefinition None (instance_of from parts)

abbrev pub begin : ℕ → UnitTree
begin from = ModuleBegin (at 0) (at from) []

abbrev pub end : UnitTree
end = ModuleEnd (at 0)

abbrev pub module_with : List Lexeme → List UnitTree → ModuleUnits
module_with extends units = record { name = at 0; extends = extends; units = units }

-- ---- files

abbrev pub no_files : List ℕ → Outside
no_files file = nowhere

-- one more file
abbrev pub and_file : (List ℕ → Outside) → List ℕ → Outside → List ℕ → Outside
and_file files title there file = if bytes_eq file title then there else files file

-- ---- what is found

-- a fault from a place to another
abbrev pub fault : ℕ → ℕ → ℕ → Diagnostic
fault code from to = record { code = code; span = record { start = from; end = to } }

-- the faults of a module that extends none
abbrev pub faults : (List ℕ → Outside) → List ℕ → List UnitTree → List Diagnostic
faults files text units = kind_faults files text (module_with [] units)

-- the levels of the uses at these places, by what is found
abbrev pub levels_among : List LevelFinding → List ℕ → List Level
levels_among found [] = []
levels_among found (start ∷ rest) = level_of found start ∷ levels_among found rest

-- the same in a module
abbrev pub levels_at : (List ℕ → Outside) → List ℕ → ModuleUnits → List ℕ → List Level
levels_at files text units starts = levels_among (level_findings files text units) starts
