-- Tests for the kinds of lexemes.
use Rattle.std.specs.Prelude.{Bool, true, false}
use Rattle.tla_symbols.specs.declared.op.Op.TheVariants as Op
use Rattle.tla_symbols.specs.declared.lexeme.LexKind.{LexKind}
use Rattle.tla_symbols.specs.declared.lexeme.Word.TheVariants as Word
use Rattle.tla_symbols.specs.declared.lexeme.Mark.TheVariants as Mark

-- an Identifier: reserved words have other kinds
abbrev pub is_name : LexKind → Bool
is_name LexKind.Name = true
is_name _ = false

-- `==`, before the body of a definition
abbrev pub is_define : LexKind → Bool
is_define (LexKind.Mark Mark.Define) = true
is_define _ = false

-- `->`, in a function set and in the arms of a CASE
abbrev pub is_arrow : LexKind → Bool
is_arrow (LexKind.Mark Mark.Arrow) = true
is_arrow _ = false

-- `<-`, between the sides of a replacement
abbrev pub is_left_arrow : LexKind → Bool
is_left_arrow (LexKind.Mark Mark.LeftArrow) = true
is_left_arrow _ = false

-- `|->`, before the body of a function and the value of a record's field
abbrev pub is_maps_to : LexKind → Bool
is_maps_to (LexKind.Mark Mark.MapsTo) = true
is_maps_to _ = false

-- `,`, which parts the members of a list
abbrev pub is_comma : LexKind → Bool
is_comma (LexKind.Mark Mark.Comma) = true
is_comma _ = false

-- `:`, after what a quantifier or CHOOSE binds, in braces, and after the name of a field of a set of records
abbrev pub is_colon : LexKind → Bool
is_colon (LexKind.Mark Mark.Colon) = true
is_colon _ = false

-- `!`, between the segments of an identifier and at the beginning of an update
abbrev pub is_bang : LexKind → Bool
is_bang (LexKind.Mark Mark.Bang) = true
is_bang _ = false

-- `(`, before arguments, parameters, places and the action of a fairness
abbrev pub is_left_paren : LexKind → Bool
is_left_paren (LexKind.Mark Mark.LeftParen) = true
is_left_paren _ = false

-- `)`, behind arguments, parameters, places or an expression
abbrev pub is_right_paren : LexKind → Bool
is_right_paren (LexKind.Mark Mark.RightParen) = true
is_right_paren _ = false

-- `[`, before the bounds in a function's head and before an index of an update
abbrev pub is_left_bracket : LexKind → Bool
is_left_bracket (LexKind.Mark Mark.LeftBracket) = true
is_left_bracket _ = false

-- `]`, which closes all brackets but those of an action
abbrev pub is_right_bracket : LexKind → Bool
is_right_bracket (LexKind.Mark Mark.RightBracket) = true
is_right_bracket _ = false

-- `]_`, which closes the brackets of an action
abbrev pub is_right_bracket_subscript : LexKind → Bool
is_right_bracket_subscript (LexKind.Mark Mark.RightBracketSubscript) = true
is_right_bracket_subscript _ = false

-- `}`, behind the elements of a set, or behind what filters or maps another one
abbrev pub is_right_brace : LexKind → Bool
is_right_brace (LexKind.Mark Mark.RightBrace) = true
is_right_brace _ = false

-- `<<`, before names that are bound as a tuple
abbrev pub is_left_angle : LexKind → Bool
is_left_angle (LexKind.Mark Mark.LeftAngle) = true
is_left_angle _ = false

-- `>>`, which closes a tuple
abbrev pub is_right_angle : LexKind → Bool
is_right_angle (LexKind.Mark Mark.RightAngle) = true
is_right_angle _ = false

-- `>>_`, which closes the angles of an action
abbrev pub is_right_angle_subscript : LexKind → Bool
is_right_angle_subscript (LexKind.Mark Mark.RightAngleSubscript) = true
is_right_angle_subscript _ = false

-- `_`, the place of an operand in a parameter that is an operator
abbrev pub is_underscore : LexKind → Bool
is_underscore (LexKind.Mark Mark.Underscore) = true
is_underscore _ = false

-- `.`, before the name of a field
abbrev pub is_dot : LexKind → Bool
is_dot (LexKind.Mark Mark.Dot) = true
is_dot _ = false

-- the word EXCEPT, after the function that is updated
abbrev pub is_except : LexKind → Bool
is_except (LexKind.Word Word.Except) = true
is_except _ = false

-- the word IN, which ends the definitions of a LET; the symbol is another lexeme
abbrev pub is_in_word : LexKind → Bool
is_in_word (LexKind.Word Word.In) = true
is_in_word _ = false

-- the word THEN, behind the test of an IF
abbrev pub is_then : LexKind → Bool
is_then (LexKind.Word Word.Then) = true
is_then _ = false

-- the word ELSE, behind what holds where the test does
abbrev pub is_else : LexKind → Bool
is_else (LexKind.Word Word.Else) = true
is_else _ = false

-- the word OTHER, in place of the guard of a last arm
abbrev pub is_other : LexKind → Bool
is_other (LexKind.Word Word.Other) = true
is_other _ = false

-- the word INSTANCE, in place of the body of a definition
abbrev pub is_instance : LexKind → Bool
is_instance (LexKind.Word Word.Instance) = true
is_instance _ = false

-- the word WITH, before the replacements of an instance
abbrev pub is_with : LexKind → Bool
is_with (LexKind.Word Word.With) = true
is_with _ = false

-- the symbol `\in`, which may turn out to bind what stands before it
abbrev pub is_member : LexKind → Bool
is_member (LexKind.Sym Op.In) = true
is_member _ = false

-- the symbol `[]`, which parts the arms of a CASE
abbrev pub is_always : LexKind → Bool
is_always (LexKind.Sym Op.Always) = true
is_always _ = false

-- the symbol `=`, before the new value of an update
abbrev pub is_equal : LexKind → Bool
is_equal (LexKind.Sym Op.Equal) = true
is_equal _ = false

-- the symbol `-.`, the minus before its operand
abbrev pub is_negative : LexKind → Bool
is_negative (LexKind.Sym Op.Negative) = true
is_negative _ = false
