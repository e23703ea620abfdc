-- Sample modules with their derivations. Lines are parted by a bar.
use Rattle.std.proofs.Common.{◌≡◌, ℕ, ◌+◌, inl, List, [], ◌∷◌, ◌++◌, Option, Some, None, refl}
use Rattle.tla_symbols.specs.declared.op.Op.TheVariants as Op
use Rattle.tla_symbols.specs.declared.lexeme.LexKind.{LexKind}
use Rattle.tla_symbols.specs.declared.lexeme.Word.TheVariants as Word
use Rattle.tla_symbols.specs.declared.lexeme.Mark.TheVariants as Mark
use Rattle.tla_symbols.specs.declared.lexeme.Lexeme.{Lexeme}
use Rattle.tla_tree.specs.declared.form.Form.TheVariants as Form
use Rattle.tla_tree.specs.Syntax.{Tree, Nil}
use Rattle.tla_tree.specs.Lexemes.{built, one, two}
use Rattle.tla_tree.specs.Headings.{constant, plain, of_places, last_place, last_parameter, more_parameters, by_name}
use Rattle.tla_tree.specs.Derivation.{Derives, node, identifier, last_segment, bare, operator, module_of, without, with_replacements, last_replacement, replaced}
use Rattle.unit_grammar.specs.Units.{UnitTree, Variables, Constants, OperatorDefinition, ModuleDefinition, Instance, Theorem, Line, ModuleBegin, ModuleEnd}
use Rattle.unit_grammar.specs.Derivation.{BeginsModule, alone, last_name, more_names, exported, kept, variables, constants, definition, instance, theorem, line, nested, DerivesUnits, no_units, more_units, DerivesModule, outermost}
use Rattle.unit_grammar.specs.Heights.{module_height}
use Rattle.precedence.specs.Choices.{meets, joins, same_edge, same_op, op_number, fix_number, choose}
use Rattle.unit_machine.specs.Machine.{parse, RefusesAt}
use Rattle.std.specs.Prelude.{true, is_some}

abbrev at : LexKind → ℕ → Lexeme
at kind from = record { kind = kind; span = record { start = from; end = from + 1 }; line = 0; col = from }

abbrev name : ℕ → Lexeme
name from = at LexKind.Name from

abbrev used : Lexeme → Tree
used n = built Form.Identifier (one (built (Form.Segment n) Nil (n ∷ []))) (n ∷ [])

abbrev named : Lexeme → Tree
named n = built (Form.Name n) Nil (n ∷ [])

uses : (from : ℕ) (o : Option Lexeme) → Derives (used (name from)) (name from ∷ []) 0 o
uses from o = node (identifier (last_segment (bare refl)))

-- ---- MODULE Id ----
abbrev header : ℕ → List Lexeme
header from = at LexKind.Dashes from ∷ at (LexKind.Word Word.Module) (from + 1) ∷ name (from + 2) ∷ at LexKind.Dashes (from + 3) ∷ []

header-begins : (from : ℕ) → BeginsModule (at LexKind.Dashes from) (name (from + 2)) [] (header from)
header-begins from = alone refl refl refl refl

-- ---- MODULE A ---- | VARIABLE x, y | ---- | F == x | ====
abbrev first_units : List UnitTree
first_units = Variables (name 5 ∷ name 7 ∷ []) ∷ Line (at LexKind.Dashes 8) ∷ OperatorDefinition None (built (Form.OperatorDefinition (name 9)) (one (used (name 11))) (name 9 ∷ at (LexKind.Mark Mark.Define) 10 ∷ name 11 ∷ [])) ∷ []

abbrev first_lexemes : List Lexeme
first_lexemes = at (LexKind.Word Word.Variable) 4 ∷ name 5 ∷ at (LexKind.Mark Mark.Comma) 6 ∷ name 7 ∷ at LexKind.Dashes 8 ∷ name 9 ∷ at (LexKind.Mark Mark.Define) 10 ∷ name 11 ∷ []

first-units : DerivesUnits first_units first_lexemes (at LexKind.Close 12)
first-units = more_units (variables (inl refl) (more_names refl refl (last_name refl))) (more_units (line refl (λ e. cc)) (more_units (definition exported (operator (at (LexKind.Mark Mark.Define) 10) (constant refl) refl (uses 11 _))) no_units))

first-module : DerivesModule (record { name = name 2; extends = []; units = first_units }) (header 0 ++ (first_lexemes ++ at LexKind.Close 12 ∷ []))
first-module = outermost (at LexKind.Close 12) (header-begins 0) first-units refl

-- ---- MODULE A ---- | ---- MODULE B ---- | CONSTANT c, G(_) | LOCAL INSTANCE M WITH c <- c | ==== | I == INSTANCE B | THEOREM c | ====
abbrev places : Tree
places = built (Form.OperatorParameter (name 11) 1) Nil (name 11 ∷ at (LexKind.Mark Mark.LeftParen) 12 ∷ at (LexKind.Mark Mark.Underscore) 13 ∷ at (LexKind.Mark Mark.RightParen) 14 ∷ [])

abbrev replacement : Tree
replacement = built (Form.Replacement (name 19)) (one (used (name 21))) (name 19 ∷ at (LexKind.Mark Mark.LeftArrow) 20 ∷ name 21 ∷ [])

abbrev local_instance : Tree
local_instance = built (Form.Instance (name 17)) (one replacement) (at (LexKind.Word Word.Instance) 16 ∷ name 17 ∷ at (LexKind.Word Word.With) 18 ∷ name 19 ∷ at (LexKind.Mark Mark.LeftArrow) 20 ∷ name 21 ∷ [])

abbrev inner_units : List UnitTree
inner_units = Constants (two (named (name 9)) places) ∷ Instance (Some (at (LexKind.Word Word.Local) 15)) local_instance ∷ []

abbrev inner_lexemes : List Lexeme
inner_lexemes = at (LexKind.Word Word.Constant) 8 ∷ name 9 ∷ at (LexKind.Mark Mark.Comma) 10 ∷ name 11 ∷ at (LexKind.Mark Mark.LeftParen) 12 ∷ at (LexKind.Mark Mark.Underscore) 13 ∷ at (LexKind.Mark Mark.RightParen) 14 ∷ at (LexKind.Word Word.Local) 15 ∷ at (LexKind.Word Word.Instance) 16 ∷ name 17 ∷ at (LexKind.Word Word.With) 18 ∷ name 19 ∷ at (LexKind.Mark Mark.LeftArrow) 20 ∷ name 21 ∷ []

inner-units : DerivesUnits inner_units inner_lexemes (at LexKind.Equals 22)
inner-units = more_units (constants (inl refl) (more_parameters (at (LexKind.Mark Mark.Comma) 10) refl (plain refl) (last_parameter (of_places (at (LexKind.Mark Mark.RightParen) 14) refl refl refl (last_place refl))))) (more_units (instance (kept refl) (with_replacements refl refl refl (last_replacement (replaced (by_name refl) refl (uses 21 _))))) no_units)

abbrev outer_units : List UnitTree
outer_units =
    ModuleBegin (at LexKind.Dashes 4) (name 6) [] ∷ (inner_units ++ (ModuleEnd (at LexKind.Equals 22)
    ∷ ModuleDefinition None (built (Form.ModuleDefinition (name 23)) (one (built (Form.Instance (name 26)) Nil (at (LexKind.Word Word.Instance) 25 ∷ name 26 ∷ []))) (name 23 ∷ at (LexKind.Mark Mark.Define) 24 ∷ at (LexKind.Word Word.Instance) 25 ∷ name 26 ∷ []))
    ∷ Theorem (at (LexKind.Word Word.Theorem) 27) None (used (name 28))
    ∷ []))

abbrev outer_lexemes : List Lexeme
outer_lexemes = header 4 ++ (inner_lexemes ++ (at LexKind.Equals 22 ∷ name 23 ∷ at (LexKind.Mark Mark.Define) 24 ∷ at (LexKind.Word Word.Instance) 25 ∷ name 26 ∷ at (LexKind.Word Word.Theorem) 27 ∷ name 28 ∷ []))

outer-units : DerivesUnits outer_units outer_lexemes (at LexKind.Close 29)
outer-units = more_units (nested (at LexKind.Equals 22) (header-begins 4) inner-units refl) (more_units (definition exported (module_of (at (LexKind.Mark Mark.Define) 24) (constant refl) refl (without refl refl))) (more_units (theorem refl (uses 28 _)) no_units))

outer-module : DerivesModule (record { name = name 2; extends = []; units = outer_units }) (header 0 ++ (outer_lexemes ++ at LexKind.Close 29 ∷ []))
outer-module = outermost (at LexKind.Close 29) (header-begins 0) outer-units refl

-- the machine finds them
first-parsed : parse (header 0 ++ (first_lexemes ++ at LexKind.Close 12 ∷ [])) ≡ Some (record { name = name 2; extends = []; units = first_units })
unfolding meets joins same_edge same_op op_number fix_number choose
first-parsed = refl

outer-parsed : parse (header 0 ++ (outer_lexemes ++ at LexKind.Close 29 ∷ [])) ≡ Some (record { name = name 2; extends = []; units = outer_units })
unfolding meets joins same_edge same_op op_number fix_number choose
outer-parsed = refl

-- ---- MODULE A ---- | EXTENDS B, C | f[x \in S] == x | a + b == a | -. a == a | CONSTANT _ + _, -. _ | ASSUME f | ====
forms-parsed : is_some (parse (header 0 ++ (at (LexKind.Word Word.Extends) 4 ∷ name 5 ∷ at (LexKind.Mark Mark.Comma) 6 ∷ name 7
    ∷ name 8 ∷ at (LexKind.Mark Mark.LeftBracket) 9 ∷ name 10 ∷ at (LexKind.Sym Op.In) 11 ∷ name 12 ∷ at (LexKind.Mark Mark.RightBracket) 13 ∷ at (LexKind.Mark Mark.Define) 14 ∷ name 15
    ∷ name 16 ∷ at (LexKind.Sym Op.Plus) 17 ∷ name 18 ∷ at (LexKind.Mark Mark.Define) 19 ∷ name 20
    ∷ at (LexKind.Sym Op.Negative) 21 ∷ name 22 ∷ at (LexKind.Mark Mark.Define) 23 ∷ name 24
    ∷ at (LexKind.Word Word.Constant) 25 ∷ at (LexKind.Mark Mark.Underscore) 26 ∷ at (LexKind.Sym Op.Plus) 27 ∷ at (LexKind.Mark Mark.Underscore) 28 ∷ at (LexKind.Mark Mark.Comma) 29 ∷ at (LexKind.Sym Op.Negative) 30 ∷ at (LexKind.Mark Mark.Underscore) 31
    ∷ at (LexKind.Word Word.Assume) 32 ∷ name 33 ∷ at LexKind.Close 34 ∷ []))) ≡ true
unfolding meets joins same_edge same_op op_number fix_number choose
forms-parsed = refl

-- the bound's set ends before `=>`, and nothing but `]` or a comma may follow it: f[x \in S => T]
arrow-refused : RefusesAt (header 0 ++ (name 4 ∷ at (LexKind.Mark Mark.LeftBracket) 5 ∷ name 6 ∷ at (LexKind.Sym Op.In) 7 ∷ name 8 ∷ at (LexKind.Sym Op.Implies) 9 ∷ [])) 9
unfolding meets joins same_edge same_op op_number fix_number choose
arrow-refused = record { reached = _; reads = refl; refuses = refl }

-- LOCAL stands before no declaration
local-refused : RefusesAt (header 0 ++ (at (LexKind.Word Word.Local) 4 ∷ at (LexKind.Word Word.Variable) 5 ∷ [])) 5
local-refused = record { reached = _; reads = refl; refuses = refl }

-- a LET has no body: B == LET C == 2 | ====
let-refused : RefusesAt (header 0 ++ (name 4 ∷ at (LexKind.Mark Mark.Define) 5 ∷ at (LexKind.Word Word.Let) 6 ∷ name 7 ∷ at (LexKind.Mark Mark.Define) 8 ∷ at LexKind.Number 9 ∷ at LexKind.Close 10 ∷ [])) 10
unfolding meets joins same_edge same_op op_number fix_number choose
let-refused = record { reached = _; reads = refl; refuses = refl }

-- a nested module adds 1, also one without units
outer-height : module_height (record { name = name 2; extends = []; units = outer_units }) ≡ 2
outer-height = refl

empty-height : module_height (record { name = name 2; extends = []; units = ModuleBegin (at LexKind.Dashes 4) (name 6) [] ∷ ModuleEnd (at LexKind.Equals 8) ∷ [] }) ≡ 1
empty-height = refl
