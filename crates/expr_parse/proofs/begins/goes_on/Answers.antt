use Rattle.std.proofs.Common.{[], ◌∷◌, subst}
use Rattle.expr_grammar.specs.Tables as tables
use Rattle.expr_grammar.specs.Machine as machine
use Rattle.expr_stack.specs.StackMeaning.{Stands}
use Rattle.expr_parse.proofs.Turning.{goes-child, goes-alone}
use Rattle.expr_parse.proofs.begins.goes_on.Goals as goal

pub returns-in_ok-put-2 : goal.returns-in_ok-put-2
returns-in_ok-put-2 c nodes parts read below opens =
    let s = subst (λ w. Stands nodes c.put.new.self (machine.frame w parts read ∷ below)) c.entry.ensures (c.in_ok-put.ensures nodes parts read below opens) in
    goes-child nodes c.put-in-Some.new.self c.in-Some.part _ (tables.child c.args.wait) c.in-Some.ensures
    (λ d e. c.in_ok-put-2.ensures nodes [] d.read _ (c.opening-opening.ensures nodes _ d.read s (c.handed.ensures d e)))

pub returns-in_default : goal.returns-in_default
returns-in_default c nodes parts read below opens =
    goes-alone nodes c.put.new.self _ (tables.child c.args.wait) c.in_default.ensures
    (subst (λ w. Stands nodes c.put.new.self (machine.frame w parts read ∷ below)) c.entry.ensures (c.in_ok-put.ensures nodes parts read below opens))
