use Rattle.unit_tables.proofs.moves.right_side.Goals as goal

pub returns : goal.returns
returns c = rw (c.if_move.ensures, c.is_define.ensures)
