use Rattle.expr_grammar.specs.Machine.{run}
use Rattle.std.proofs.Common.{Some, None, true, false, ◌≡◌, sym, ◌∙◌}
use Rattle.expr_parse.specs.MachineMeaning.{start_of}
use Rattle.expr_parse.proofs.Answering.{done-by, read-by, refused-stays, refused-stands, ends-not}
use Rattle.expr_parse.proofs.machine.ExprMachine.answer.Goals as goal

pub returns-then-ends-clause-answer : goal.returns-then-ends-clause-answer
returns-then-ends-clause-answer c before lexemes h =
    let t = c.in_ok-turn.ensures.turn _ (run (Some (start_of c.args.self.now.goal)) lexemes) h.stands in
    (done-by _ _ c.args.self.now c.finish.new.self before lexemes c.args.lexeme _ c.ends.result c.begun.new.self.stack c.in_ok-turn.turn c.begun.new.self.goal c.in_ok-turn.ensures.goal c.in_ok-step.ensures.goal c.in_ok-step.ensures.refused t (c.ends.ensures _ t) c.if-ends.true c.in_ok-step.ensures.done h).0

pub returns-then-ends-clause-few : goal.returns-then-ends-clause-few
returns-then-ends-clause-few c before lexemes h =
    let t = c.in_ok-turn.ensures.turn _ (run (Some (start_of c.args.self.now.goal)) lexemes) h.stands in
    (done-by _ _ c.args.self.now c.finish.new.self before lexemes c.args.lexeme _ c.ends.result c.begun.new.self.stack c.in_ok-turn.turn c.begun.new.self.goal c.in_ok-turn.ensures.goal c.in_ok-step.ensures.goal c.in_ok-step.ensures.refused t (c.ends.ensures _ t) c.if-ends.true c.in_ok-step.ensures.done h).1

pub returns-clause-answer : goal.returns-clause-answer
returns-clause-answer c before lexemes h =
    let t = c.in_ok-turn.ensures.turn _ (run (Some (start_of c.args.self.now.goal)) lexemes) h.stands in
    (read-by _ _ c.args.self.now c.read.new.self before lexemes c.args.lexeme _ c.ends.result c.begun.new.self.goal c.in_ok-turn.ensures.goal c.in_ok-step-2.ensures.goal (c.ends.ensures _ t) c.if-ends.false (c.in_ok-step-2.ensures.read _ t) h).0

pub returns-clause-few : goal.returns-clause-few
returns-clause-few c before lexemes h =
    let t = c.in_ok-turn.ensures.turn _ (run (Some (start_of c.args.self.now.goal)) lexemes) h.stands in
    (read-by _ _ c.args.self.now c.read.new.self before lexemes c.args.lexeme _ c.ends.result c.begun.new.self.goal c.in_ok-turn.ensures.goal c.in_ok-step-2.ensures.goal (c.ends.ensures _ t) c.if-ends.false (c.in_ok-step-2.ensures.read _ t) h).1

pub returns-then-ends-clause-refusing : goal.returns-then-ends-clause-refusing
returns-then-ends-clause-refusing c q =
    let t = c.in_ok-turn.ensures.turn c.args.tree.now None (refused-stands c.args.tree.now c.args.self.now q) in
    let k : true ≡ false = sym c.if-ends.true ∙ (c.ends.ensures None t ∙ ends-not c.begun.new.self.goal c.args.lexeme.kind) in
    cc

pub returns-clause-refusing : goal.returns-clause-refusing
returns-clause-refusing c q =
    let t = c.in_ok-turn.ensures.turn c.args.tree.now None (refused-stands c.args.tree.now c.args.self.now q) in
    refused-stays _ _ c.read.new.self _ c.args.lexeme (c.in_ok-step-2.ensures.read None t)
