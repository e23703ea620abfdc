-- The tables of moves for units: what a lexeme does where some lexeme of a module is due, and to a frame of a unit's part.
use Rattle.std.specs.Prelude.{ℕ, ◌+◌, Bool, true, false, cond, Some, None}
use Rattle.tla_symbols.specs.declared.op.Op.TheVariants as Op
use Rattle.tla_symbols.specs.declared.place.Fix.{Fix}
use Rattle.tla_symbols.specs.declared.lexeme.LexKind.{LexKind}
use Rattle.tla_symbols.specs.declared.lexeme.Word.TheVariants as Word
use Rattle.tla_symbols.specs.declared.lexeme.Lexeme.{Lexeme}
use Rattle.tla_tree.specs.declared.form.Form.{Form}
use Rattle.expr_grammar.specs.Kinds.{is_name, is_define, is_left_arrow, is_comma, is_left_paren, is_right_paren, is_left_bracket, is_right_bracket, is_underscore, is_instance, is_with, is_negative}
use Rattle.expr_grammar.specs.Tables.{defines, is_given_kind, is_replaceable}
use Rattle.unit_machine.specs.declared.wait.Due.{Due}
use Rattle.unit_machine.specs.declared.wait.DueMove.{DueMove}
use Rattle.unit_machine.specs.declared.wait.UnitStart.{UnitStart}
use Rattle.unit_machine.specs.declared.wait.Wait.{Wait}
use Rattle.unit_machine.specs.declared.wait.Move.{Move}

-- four or more `-`: a line, or a part of a module's header
abbrev pub is_dashes : LexKind → Bool
is_dashes LexKind.Dashes = true
is_dashes _ = false

-- the word MODULE, which makes a module's begin of the dashes before it
abbrev pub is_module : LexKind → Bool
is_module (LexKind.Word Word.Module) = true
is_module _ = false

-- the word EXTENDS, behind a module's header
abbrev pub is_extends : LexKind → Bool
is_extends (LexKind.Word Word.Extends) = true
is_extends _ = false

-- what begins a definition or an instance, and so may stand after LOCAL
abbrev pub may_be_local : LexKind → Bool
may_be_local LexKind.Name = true
may_be_local (LexKind.Sym Op.Negative) = true
may_be_local (LexKind.Word Word.Instance) = true
may_be_local _ = false

-- what a lexeme begins where a unit is due
abbrev pub unit_start : LexKind → Lexeme → UnitStart
unit_start LexKind.Name t = UnitStart.Definition (Wait.DefinitionName t)
unit_start (LexKind.Sym Op.Negative) t = UnitStart.Definition (Wait.PrefixName t)
unit_start LexKind.Dashes t = UnitStart.Goes (Due.Dashes t)
unit_start LexKind.Equals t = UnitStart.Ends
unit_start LexKind.Close t = UnitStart.Closes
unit_start (LexKind.Word Word.Variable) t = UnitStart.Goes Due.VariableName
unit_start (LexKind.Word Word.Variables) t = UnitStart.Goes Due.VariableName
unit_start (LexKind.Word Word.Constant) t = UnitStart.Constants
unit_start (LexKind.Word Word.Constants) t = UnitStart.Constants
unit_start (LexKind.Word Word.Local) t = UnitStart.Goes (Due.Local t)
unit_start (LexKind.Word Word.Instance) t = UnitStart.Instance
unit_start (LexKind.Word Word.Assume) t = UnitStart.Assumption
unit_start (LexKind.Word Word.Assumption) t = UnitStart.Assumption
unit_start (LexKind.Word Word.Axiom) t = UnitStart.Assumption
unit_start (LexKind.Word Word.Theorem) t = UnitStart.Theorem
unit_start _ t = UnitStart.Refused

-- the move where the test holds; else the lexeme is refused
abbrev pub if_due : Bool → DueMove → DueMove
if_due test move = cond test move DueMove.Refused

-- what a lexeme does where something is due
abbrev pub due_move : Due → Lexeme → DueMove
due_move Due.Opening t = if_due (is_dashes t.kind) (DueMove.Goes (Due.OpeningWord t))
due_move (Due.OpeningWord d) t = if_due (is_module t.kind) (DueMove.Goes (Due.ModuleName d))
due_move (Due.ModuleName d) t = if_due (is_name t.kind) (DueMove.Goes (Due.ModuleDashes d t))
due_move (Due.ModuleDashes d n) t = if_due (is_dashes t.kind) (DueMove.Goes (Due.ModuleRead d n))
due_move (Due.ModuleRead d n) t = cond (is_extends t.kind) (DueMove.Goes (Due.ExtendsName d n)) (DueMove.Begun d n)
due_move (Due.ExtendsName d n) t = if_due (is_name t.kind) (DueMove.Named (Due.ExtendsRead d n))
due_move (Due.ExtendsRead d n) t = cond (is_comma t.kind) (DueMove.Goes (Due.ExtendsName d n)) (DueMove.Begun d n)
due_move Due.Unit t = DueMove.Begins None
due_move (Due.Dashes d) t = cond (is_module t.kind) (DueMove.Goes (Due.ModuleName d)) (DueMove.Lined d)
due_move (Due.Local w) t = if_due (may_be_local t.kind) (DueMove.Begins (Some w))
due_move Due.VariableName t = if_due (is_name t.kind) (DueMove.Named Due.VariableRead)
due_move Due.VariableRead t = cond (is_comma t.kind) (DueMove.Goes Due.VariableName) DueMove.Listed
due_move Due.Closed t = DueMove.Refused

-- the move of a frame where the test holds; else the lexeme is refused
abbrev pub if_move : Bool → Move → Move
if_move test move = cond test move Move.Refused

-- the places of an operator's declaration that were read
abbrev pub places_of : Wait → ℕ
places_of (Wait.Places n places) = places
places_of _ = 0

-- what a lexeme does to a frame
abbrev pub move : Wait → Lexeme → Move
move Wait.Declaration t =
    cond (is_name t.kind) (Move.Shift (Wait.DeclarationName t))
    (cond (is_negative t.kind) (Move.Shift (Wait.PrefixPlace t)) (if_move (is_underscore t.kind) (Move.Shift Wait.SymbolPlace)))
move (Wait.DeclarationName n) t = cond (is_left_paren t.kind) (Move.Shift (Wait.Places n 0)) (Move.Ends (Form.Name n))
move (Wait.Places n places) t = if_move (is_underscore t.kind) (Move.Shift (Wait.PlacesRead n (places + 1)))
move (Wait.PlacesRead n places) t =
    cond (is_comma t.kind) (Move.Shift (Wait.Places n places)) (if_move (is_right_paren t.kind) (Move.Close (Form.OperatorParameter n places)))
move (Wait.PrefixPlace s) t = if_move (is_underscore t.kind) (Move.Close (Form.PrefixParameter s))
move Wait.SymbolPlace t =
    cond (defines Fix.Infix t.kind) (Move.Shift (Wait.InfixPlace t)) (if_move (defines Fix.Postfix t.kind) (Move.Close (Form.PostfixParameter t)))
move (Wait.InfixPlace s) t = if_move (is_underscore t.kind) (Move.Close (Form.InfixParameter s))
move (Wait.DefinitionName n) t =
    cond (is_define t.kind) (Move.Shift (Wait.Body n))
    (cond (is_left_paren t.kind) (Move.Opens (Wait.Parameters n) Wait.Declaration)
    (cond (is_left_bracket t.kind) (Move.Bounds (Wait.Bounds n))
    (cond (defines Fix.Infix t.kind) (Move.LeafOf (Form.Name n) n (Wait.InfixName t))
    (if_move (defines Fix.Postfix t.kind) (Move.LeafOf (Form.Name n) n (Wait.PostfixDefine t))))))
move (Wait.ParametersRead n) t =
    cond (is_comma t.kind) (Move.Opens (Wait.Parameters n) Wait.Declaration) (if_move (is_right_paren t.kind) (Move.Shift (Wait.Define n)))
move (Wait.Define n) t = if_move (is_define t.kind) (Move.Shift (Wait.Body n))
move (Wait.Body n) t = cond (is_instance t.kind) (Move.Push Wait.InstanceName) Move.Expression
move (Wait.PrefixName s) t = if_move (is_name t.kind) (Move.Leaf (Form.Name t) (Wait.PrefixDefine s))
move (Wait.PrefixDefine s) t = if_move (is_define t.kind) (Move.Shift (Wait.Right (Form.PrefixDefinition s)))
move (Wait.InfixName s) t = if_move (is_name t.kind) (Move.Leaf (Form.Name t) (Wait.InfixDefine s))
move (Wait.InfixDefine s) t = if_move (is_define t.kind) (Move.Shift (Wait.Right (Form.InfixDefinition s)))
move (Wait.PostfixDefine s) t = if_move (is_define t.kind) (Move.Shift (Wait.Right (Form.PostfixDefinition s)))
move (Wait.BoundsRead n) t = if_move (is_right_bracket t.kind) (Move.Shift (Wait.BoundsDefine n))
move (Wait.BoundsDefine n) t = if_move (is_define t.kind) (Move.Shift (Wait.Right (Form.FunctionDefinition n)))
move (Wait.Right form) t = Move.Expression
move Wait.InstanceName t = if_move (is_name t.kind) (Move.Shift (Wait.InstanceRead t))
move (Wait.InstanceRead m) t = cond (is_with t.kind) (Move.Opens (Wait.Replacements m) Wait.ReplacementStart) (Move.Ends (Form.Instance m))
move (Wait.ReplacementsRead m) t = cond (is_comma t.kind) (Move.Opens (Wait.Replacements m) Wait.ReplacementStart) (Move.Ends (Form.Instance m))
move Wait.ReplacementStart t = if_move (is_replaceable t.kind) (Move.Shift (Wait.ReplacementArrow t))
move (Wait.ReplacementArrow n) t = if_move (is_left_arrow t.kind) (Move.Shift (Wait.ReplacementRight n))
move (Wait.ReplacementRight n) t = cond (is_given_kind t.kind) (Move.Leaf (Form.Symbol t) (Wait.Complete (Form.Replacement n))) Move.Expression
move (Wait.Complete form) t = Move.Ends form
move _ t = Move.Refused

-- what a frame waits for once it has the part that stood in a frame of its own
abbrev pub after_part : Wait → Wait
after_part (Wait.Parameters n) = Wait.ParametersRead n
after_part (Wait.Replacements m) = Wait.ReplacementsRead m
after_part (Wait.Body n) = Wait.Complete (Form.ModuleDefinition n)
after_part w = w

-- and once it has the expression
abbrev pub after_expression : Wait → Wait
after_expression (Wait.Body n) = Wait.Complete (Form.OperatorDefinition n)
after_expression (Wait.Right form) = Wait.Complete form
after_expression (Wait.ReplacementRight n) = Wait.Complete (Form.Replacement n)
after_expression w = w

-- and once it has the bounds of a function's head
abbrev pub after_bounds : Wait → Wait
after_bounds (Wait.Bounds n) = Wait.BoundsRead n
after_bounds w = w
