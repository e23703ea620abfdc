use Rattle.std.proofs.Common.{sym, ◌∙◌}
use Rattle.unit_tables.proofs.moves.at_symbol_place.Goals as goal

pub returns-then-defines : goal.returns-then-defines
returns-then-defines c = rw (sym c.defines.ensures ∙ c.if-defines.true)

pub returns : goal.returns
returns c = rw (sym c.defines.ensures ∙ c.if-defines.false, c.if_move.ensures, c.defines-2.ensures)
