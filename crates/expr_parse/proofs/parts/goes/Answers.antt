use Rattle.expr_parse.proofs.Going.{opens-then}
use Rattle.expr_parse.proofs.parts.goes.Goals as goal

pub returns : goal.returns
returns c frame below tree spelled b =
    let v = c.in_ok-opening.ensures frame.parts frame.read below tree spelled b.opens b.is in
    let o = opens-then _ c.convert.new.stack c.in_ok-opening.opening _ c.args.lexeme _ frame.read spelled below c.reads.ensures v.opens in
    record { grows = v.grows; few = v.few; turned = c.in_ok-turn.ensures _ _ _ below o }
