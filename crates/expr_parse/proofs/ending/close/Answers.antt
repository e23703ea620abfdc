use Rattle.std.proofs.Common.{subst}
use Rattle.expr_parse.specs.TurnMeaning.{IsTurn}
use Rattle.expr_parse.proofs.Closing.{read-closed, due-closed-state, refused-closes, turn-ready, turn-due}
use Rattle.expr_parse.proofs.ending.close.Goals as goal

pub returns-in-Refused : goal.returns-in-Refused
returns-in-Refused c state turn = refused-closes c.args.tree.now c.args.stack.now state (subst (λ z. IsTurn c.args.tree.now c.args.stack.now z state) c.in-Refused.is turn)

pub close_due-requires : goal.close_due-requires
close_due-requires c = turn-due _ c.args.stack.now c.requires.0 (subst (λ z. IsTurn c.args.tree.now c.args.stack.now z c.requires.0) c.in-Due.is c.requires.1)

pub returns-in_ok-left-in-Due : goal.returns-in_ok-left-in-Due
returns-in_ok-left-in-Due c state turn =
    due-closed-state _ _ c.args.stack.now c.close_due.new.stack _ state (subst (λ z. IsTurn c.args.tree.now c.args.stack.now z state) c.in-Due.is turn) c.in_ok-left-in-Due.ensures

pub close_all-requires : goal.close_all-requires
close_all-requires c = turn-ready _ c.args.stack.now c.in-Read.part c.requires.0 (subst (λ z. IsTurn c.args.tree.now c.args.stack.now z c.requires.0) c.in-Read.is c.requires.1)

pub returns-in_ok-left-in-Read : goal.returns-in_ok-left-in-Read
returns-in_ok-left-in-Read c state turn =
    read-closed _ _ c.args.stack.now c.close_all.new.stack c.in-Read.part _ state (subst (λ z. IsTurn c.args.tree.now c.args.stack.now z state) c.in-Read.is turn) c.in_ok-left-in-Read.ensures
