use Rattle.std.proofs.Common.{subst}
use Rattle.expr_parse.specs.TurnMeaning.{IsTurn}
use Rattle.expr_parse.proofs.Answering.{read-turns}
use Rattle.expr_parse.proofs.Closing.{turn-ready}
use Rattle.expr_parse.proofs.machine.advance.Goals as goal

pub have-requires : goal.have-requires
have-requires c = turn-ready _ c.args.stack.now c.in-Read.part c.requires.0 (subst (λ z. IsTurn c.args.tree.now c.args.stack.now z c.requires.0) c.in-Read.is c.requires.1)

pub returns-in_ok-next-in-Read : goal.returns-in_ok-next-in-Read
returns-in_ok-next-in-Read c state turn =
    read-turns _ _ c.args.stack.now c.have.new.stack c.in-Read.part _ state c.args.lexeme (subst (λ z. IsTurn c.args.tree.now c.args.stack.now z state) c.in-Read.is turn) c.in_ok-next-in-Read.ensures
