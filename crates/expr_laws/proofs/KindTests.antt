-- What the tests for kinds say.
use Rattle.std.proofs.Common.{◌≡◌, Bool, true, false, refl}
use Rattle.std.specs.Prelude.{cond}
use Rattle.tla_symbols.specs.declared.op.Op.TheVariants as Op
use Rattle.tla_symbols.specs.declared.lexeme.LexKind.{LexKind}
use Rattle.tla_symbols.specs.declared.lexeme.Word.TheVariants as Word
use Rattle.tla_symbols.specs.declared.lexeme.Mark.TheVariants as Mark
use Rattle.expr_grammar.specs.Kinds.{is_name, is_define, is_arrow, is_left_arrow, is_maps_to, is_comma, is_colon, is_bang, is_left_paren, is_right_paren, is_left_bracket, is_right_bracket, is_right_bracket_subscript, is_right_brace, is_left_angle, is_right_angle, is_right_angle_subscript, is_underscore, is_dot, is_except, is_in_word, is_then, is_else, is_other, is_instance, is_with, is_member, is_always, is_equal, is_negative}

pub name-is : (k : LexKind) → is_name k ≡ true → k ≡ LexKind.Name
name-is LexKind.Name h = refl
name-is _ h = cc

pub define-is : (k : LexKind) → is_define k ≡ true → k ≡ LexKind.Mark Mark.Define
define-is (LexKind.Mark Mark.Define) h = refl
define-is _ h = cc

pub arrow-is : (k : LexKind) → is_arrow k ≡ true → k ≡ LexKind.Mark Mark.Arrow
arrow-is (LexKind.Mark Mark.Arrow) h = refl
arrow-is _ h = cc

pub left_arrow-is : (k : LexKind) → is_left_arrow k ≡ true → k ≡ LexKind.Mark Mark.LeftArrow
left_arrow-is (LexKind.Mark Mark.LeftArrow) h = refl
left_arrow-is _ h = cc

pub maps_to-is : (k : LexKind) → is_maps_to k ≡ true → k ≡ LexKind.Mark Mark.MapsTo
maps_to-is (LexKind.Mark Mark.MapsTo) h = refl
maps_to-is _ h = cc

pub comma-is : (k : LexKind) → is_comma k ≡ true → k ≡ LexKind.Mark Mark.Comma
comma-is (LexKind.Mark Mark.Comma) h = refl
comma-is _ h = cc

pub colon-is : (k : LexKind) → is_colon k ≡ true → k ≡ LexKind.Mark Mark.Colon
colon-is (LexKind.Mark Mark.Colon) h = refl
colon-is _ h = cc

pub bang-is : (k : LexKind) → is_bang k ≡ true → k ≡ LexKind.Mark Mark.Bang
bang-is (LexKind.Mark Mark.Bang) h = refl
bang-is _ h = cc

pub left_paren-is : (k : LexKind) → is_left_paren k ≡ true → k ≡ LexKind.Mark Mark.LeftParen
left_paren-is (LexKind.Mark Mark.LeftParen) h = refl
left_paren-is _ h = cc

pub right_paren-is : (k : LexKind) → is_right_paren k ≡ true → k ≡ LexKind.Mark Mark.RightParen
right_paren-is (LexKind.Mark Mark.RightParen) h = refl
right_paren-is _ h = cc

pub left_bracket-is : (k : LexKind) → is_left_bracket k ≡ true → k ≡ LexKind.Mark Mark.LeftBracket
left_bracket-is (LexKind.Mark Mark.LeftBracket) h = refl
left_bracket-is _ h = cc

pub right_bracket-is : (k : LexKind) → is_right_bracket k ≡ true → k ≡ LexKind.Mark Mark.RightBracket
right_bracket-is (LexKind.Mark Mark.RightBracket) h = refl
right_bracket-is _ h = cc

pub right_bracket_subscript-is : (k : LexKind) → is_right_bracket_subscript k ≡ true → k ≡ LexKind.Mark Mark.RightBracketSubscript
right_bracket_subscript-is (LexKind.Mark Mark.RightBracketSubscript) h = refl
right_bracket_subscript-is _ h = cc

pub right_brace-is : (k : LexKind) → is_right_brace k ≡ true → k ≡ LexKind.Mark Mark.RightBrace
right_brace-is (LexKind.Mark Mark.RightBrace) h = refl
right_brace-is _ h = cc

pub left_angle-is : (k : LexKind) → is_left_angle k ≡ true → k ≡ LexKind.Mark Mark.LeftAngle
left_angle-is (LexKind.Mark Mark.LeftAngle) h = refl
left_angle-is _ h = cc

pub right_angle-is : (k : LexKind) → is_right_angle k ≡ true → k ≡ LexKind.Mark Mark.RightAngle
right_angle-is (LexKind.Mark Mark.RightAngle) h = refl
right_angle-is _ h = cc

pub right_angle_subscript-is : (k : LexKind) → is_right_angle_subscript k ≡ true → k ≡ LexKind.Mark Mark.RightAngleSubscript
right_angle_subscript-is (LexKind.Mark Mark.RightAngleSubscript) h = refl
right_angle_subscript-is _ h = cc

pub underscore-is : (k : LexKind) → is_underscore k ≡ true → k ≡ LexKind.Mark Mark.Underscore
underscore-is (LexKind.Mark Mark.Underscore) h = refl
underscore-is _ h = cc

pub dot-is : (k : LexKind) → is_dot k ≡ true → k ≡ LexKind.Mark Mark.Dot
dot-is (LexKind.Mark Mark.Dot) h = refl
dot-is _ h = cc

pub except-is : (k : LexKind) → is_except k ≡ true → k ≡ LexKind.Word Word.Except
except-is (LexKind.Word Word.Except) h = refl
except-is _ h = cc

pub in_word-is : (k : LexKind) → is_in_word k ≡ true → k ≡ LexKind.Word Word.In
in_word-is (LexKind.Word Word.In) h = refl
in_word-is _ h = cc

pub then-is : (k : LexKind) → is_then k ≡ true → k ≡ LexKind.Word Word.Then
then-is (LexKind.Word Word.Then) h = refl
then-is _ h = cc

pub else-is : (k : LexKind) → is_else k ≡ true → k ≡ LexKind.Word Word.Else
else-is (LexKind.Word Word.Else) h = refl
else-is _ h = cc

pub other-is : (k : LexKind) → is_other k ≡ true → k ≡ LexKind.Word Word.Other
other-is (LexKind.Word Word.Other) h = refl
other-is _ h = cc

pub instance-is : (k : LexKind) → is_instance k ≡ true → k ≡ LexKind.Word Word.Instance
instance-is (LexKind.Word Word.Instance) h = refl
instance-is _ h = cc

pub with-is : (k : LexKind) → is_with k ≡ true → k ≡ LexKind.Word Word.With
with-is (LexKind.Word Word.With) h = refl
with-is _ h = cc

pub member-is : (k : LexKind) → is_member k ≡ true → k ≡ LexKind.Sym Op.In
member-is (LexKind.Sym Op.In) h = refl
member-is _ h = cc

pub always-is : (k : LexKind) → is_always k ≡ true → k ≡ LexKind.Sym Op.Always
always-is (LexKind.Sym Op.Always) h = refl
always-is _ h = cc

pub equal-is : (k : LexKind) → is_equal k ≡ true → k ≡ LexKind.Sym Op.Equal
equal-is (LexKind.Sym Op.Equal) h = refl
equal-is _ h = cc

pub negative-is : (k : LexKind) → is_negative k ≡ true → k ≡ LexKind.Sym Op.Negative
negative-is (LexKind.Sym Op.Negative) h = refl
negative-is _ h = cc

-- what holds of both cases of a test holds of its answer
pub by-test : {A : Type 0} (P : A → Type 0) (b : Bool) (m n : A) → (b ≡ true → P m) → (b ≡ false → P n) → P (cond b m n)
by-test P true m n f g = f refl
by-test P false m n f g = g refl
