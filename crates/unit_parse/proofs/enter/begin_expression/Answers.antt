use Rattle.unit_parse.proofs.Feeding.{reader-ready}
use Rattle.unit_parse.proofs.enter.begin_expression.Goals as goal

pub feed-requires : goal.feed-requires
feed-requires c = reader-ready (c.new-reader.ensures.reading _)

pub returns-clause-moves : goal.returns-clause-moves
returns-clause-moves c st b = c.expression_begun.ensures.moves _ _ c.args.first st b (c.in-Ok.ensures.feeds _ _ _ (c.new-reader.ensures.reading _))

pub returns-clause-few : goal.returns-clause-few
returns-clause-few c count r = c.expression_begun.ensures.few _ _ c.args.first count (c.in-Ok.ensures.few _ _ (c.new-reader.ensures.read _)) r
