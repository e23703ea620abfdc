use Rattle.std.proofs.Common.{sym, ◌∙◌}
use Rattle.unit_tables.proofs.moves.at_declaration.Goals as goal

pub returns-then-is_name : goal.returns-then-is_name
returns-then-is_name c = rw (sym c.is_name.ensures ∙ c.if-is_name.true)

pub returns-then-is_negative : goal.returns-then-is_negative
returns-then-is_negative c = rw (sym c.is_name.ensures ∙ c.if-is_name.false, sym c.is_negative.ensures ∙ c.if-is_negative.true)

pub returns : goal.returns
returns c = rw (sym c.is_name.ensures ∙ c.if-is_name.false, sym c.is_negative.ensures ∙ c.if-is_negative.false, c.if_move.ensures, c.is_underscore.ensures)
