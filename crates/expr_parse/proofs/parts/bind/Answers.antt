use Rattle.std.proofs.Common.{[], ◌∷◌, ◌++◌, refl}
use Rattle.expr_grammar.specs.Tables as tables
use Rattle.expr_stack.proofs.Growing.{opens-grow}
use Rattle.expr_parse.proofs.Going.{opens-then}
use Rattle.expr_parse.proofs.parts.bind.Goals as goal

pub returns : goal.returns
returns c frame below tree spelled b =
    let nodes = c.name_of.new.tree in
    let n = c.in_ok-name.ensures tree spelled b.is in
    let s = c.in_ok-put.ensures nodes frame.parts frame.read below (opens-grow _ _ c.args.stack.now _ frame.parts frame.read below n.grows b.opens) in
    let o = c.in_ok-opening.ensures.more nodes [] [] _ (tables.name_of tree) spelled (c.opening-opening.ensures nodes _ [] s refl) n.is in
    let p = opens-then nodes c.hold.new.self c.in_ok-opening.opening _ c.args.lexeme (tables.name_of tree ∷ []) [] spelled _ c.reads.ensures o in
    record { grows = n.grows; few = n.few; turned = c.in_ok-put-2.ensures nodes (tables.name_of tree ∷ []) (spelled ++ c.args.lexeme ∷ []) _ p }
