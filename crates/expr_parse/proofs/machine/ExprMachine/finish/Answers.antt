use Rattle.std.proofs.Common.{subst}
use Rattle.expr_parse.specs.Ending.{ending_of, Closes}
use Rattle.expr_grammar.specs.Counting.{made_finish}
use Rattle.expr_parse.proofs.Answering.{whole-done, closes-grow}
use Rattle.expr_parse.proofs.machine.ExprMachine.finish.Goals as goal

pub returns-clause-done : goal.returns-clause-done
returns-clause-done c state last turn q =
    whole-done _ _ _ c.close.new.stack c.in-Some.part c.args.self.now.goal _ (ending_of state) last (made_finish state) q
    (subst (λ z. Closes c.args.tree.now c.close.new.tree c.close.new.stack z (ending_of state) (made_finish state)) c.in-Some.is (c.in_ok-left.ensures state turn)) c.in_ok-node.ensures

pub returns-clause-grows : goal.returns-clause-grows
returns-clause-grows c =
    let state = c.requires.0 in
    closes-grow _ _ _ c.close.new.stack c.in-Some.part c.args.self.now.goal _ (ending_of state) (made_finish state)
    (subst (λ z. Closes c.args.tree.now c.close.new.tree c.close.new.stack z (ending_of state) (made_finish state)) c.in-Some.is (c.in_ok-left.ensures state c.requires.1)) c.in_ok-node.ensures
