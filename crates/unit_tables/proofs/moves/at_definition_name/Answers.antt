use Rattle.std.proofs.Common.{sym, ◌∙◌}
use Rattle.unit_tables.proofs.moves.at_definition_name.Goals as goal

pub returns-then-is_define : goal.returns-then-is_define
returns-then-is_define c = rw (sym c.is_define.ensures ∙ c.if-is_define.true)

pub returns-then-is_left_paren : goal.returns-then-is_left_paren
returns-then-is_left_paren c = rw (sym c.is_define.ensures ∙ c.if-is_define.false, sym c.is_left_paren.ensures ∙ c.if-is_left_paren.true)

pub returns-then-is_left_bracket : goal.returns-then-is_left_bracket
returns-then-is_left_bracket c = rw (sym c.is_define.ensures ∙ c.if-is_define.false, sym c.is_left_paren.ensures ∙ c.if-is_left_paren.false, sym c.is_left_bracket.ensures ∙ c.if-is_left_bracket.true)

pub returns-then-defines : goal.returns-then-defines
returns-then-defines c = rw (sym c.is_define.ensures ∙ c.if-is_define.false, sym c.is_left_paren.ensures ∙ c.if-is_left_paren.false, sym c.is_left_bracket.ensures ∙ c.if-is_left_bracket.false, sym c.defines.ensures ∙ c.if-defines.true)

pub returns : goal.returns
returns c = rw (sym c.is_define.ensures ∙ c.if-is_define.false, sym c.is_left_paren.ensures ∙ c.if-is_left_paren.false, sym c.is_left_bracket.ensures ∙ c.if-is_left_bracket.false, sym c.defines.ensures ∙ c.if-defines.false, c.if_move.ensures, c.defines-2.ensures)
