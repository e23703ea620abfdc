use Rattle.std.proofs.Common.{[], ◌∷◌, ◌++◌}
use Rattle.expr_parse.specs.declared.turn.Turn.TheVariants as Turn
use Rattle.expr_parse.proofs.Turning.{turns-still}
use Rattle.expr_parse.proofs.Going.{opens-then}
use Rattle.expr_parse.proofs.parts.take.Goals as goal

pub returns : goal.returns
returns c nodes top below tree spelled b =
    turns-still nodes c.put.new.self Turn.Due _ 0
    (c.in_ok-put.ensures nodes (top.parts ++ tree ∷ []) _ below
    (opens-then nodes c.hold.new.self c.in_ok-opening.opening _ c.args.lexeme (top.parts ++ tree ∷ []) top.read spelled below c.reads.ensures
    (c.in_ok-opening.ensures.more nodes top.parts top.read below tree spelled b.opens b.is)))
