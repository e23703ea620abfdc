use Rattle.std.proofs.Common.{sym, ◌∙◌}
use Rattle.unit_tables.proofs.moves.at_parameters_read.Goals as goal

pub returns-then-is_comma : goal.returns-then-is_comma
returns-then-is_comma c = rw (sym c.is_comma.ensures ∙ c.if-is_comma.true)

pub returns : goal.returns
returns c = rw (sym c.is_comma.ensures ∙ c.if-is_comma.false, c.if_move.ensures, c.is_right_paren.ensures)
