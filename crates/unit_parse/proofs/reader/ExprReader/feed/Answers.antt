use Rattle.unit_parse.proofs.Counting.{feeds-going, feeds-other}
use Rattle.unit_parse.proofs.Feeding.{feed-going, feed-done, feed-refused}
use Rattle.unit_parse.proofs.reader.ExprReader.feed.Goals as goal

pub returns-in-Going-clause-feeds : goal.returns-in-Going-clause-feeds
returns-in-Going-clause-feeds c aim st read i =
    feed-going _ _ c.args.self.now (record { machine = c.step.new.self; span = c.joined-self.result }) aim st read c.args.lexeme c.in_ok-step.ensures.goal c.joined-self.ensures c.in_ok-step.ensures.grows i _ c.in-Going.is (c.in_ok-step.ensures.answer i.before read i.has)

pub returns-in-Done-clause-feeds : goal.returns-in-Done-clause-feeds
returns-in-Done-clause-feeds c aim st read i =
    feed-done _ _ c.args.self.now (record { machine = c.step.new.self; span = c.args.self.now.span }) c.in-Done.node aim st read c.args.lexeme c.in_ok-step.ensures.goal c.in_ok-step.ensures.grows i _ c.in-Done.is (c.in_ok-step.ensures.answer i.before read i.has)

pub returns-in-Refused-clause-feeds : goal.returns-in-Refused-clause-feeds
returns-in-Refused-clause-feeds c aim st read i =
    feed-refused _ _ c.args.self.now (record { machine = c.step.new.self; span = c.args.self.now.span }) aim st read c.args.lexeme c.in_ok-step.ensures.goal c.in_ok-step.ensures.grows i _ c.in-Refused.is (c.in_ok-step.ensures.answer i.before read i.has)

pub returns-in-Going-clause-few : goal.returns-in-Going-clause-few
returns-in-Going-clause-few c before read h = feeds-going _ c.step.new.self before read c.args.lexeme _ c.in-Going.is (c.in_ok-step.ensures.few before read h) (c.in_ok-step.ensures.answer before read h)

pub returns-in-Done-clause-few : goal.returns-in-Done-clause-few
returns-in-Done-clause-few c before read h = feeds-other _ c.step.new.self before read c.args.lexeme _ (λ e. cc) (c.in_ok-step.ensures.few before read h)

pub returns-in-Refused-clause-few : goal.returns-in-Refused-clause-few
returns-in-Refused-clause-few c before read h = feeds-other _ c.step.new.self before read c.args.lexeme _ (λ e. cc) (c.in_ok-step.ensures.few before read h)
