use Rattle.std.proofs.lemmas.Result.{IfOk-weaker}
use Rattle.expr_parse.specs.declared.goal.Goal.{Goal}
use Rattle.unit_parse.proofs.Counting.{more-read}
use Rattle.unit_parse.proofs.Stepping.{fed-still, expression-going, expression-refused, expression-done, fed-done}
use Rattle.unit_parse.proofs.parts.expression_fed.Goals as goal

pub returns-in-Going-clause-moves : goal.returns-in-Going-clause-moves
returns-in-Going-clause-moves c d us b fs st read u h =
    expression-going _ _ c.args.unfinished c.args.reader b fs d us st read c.args.lexeme _ c.in-Going.is u (fed-still h)

pub returns-in-Going-clause-few : goal.returns-in-Going-clause-few
returns-in-Going-clause-few c count f = more-read _ _ _ count c.args.lexeme _ c.in-Going.is f

pub returns-in-Refused-clause-moves : goal.returns-in-Refused-clause-moves
returns-in-Refused-clause-moves c d us b fs st read u h =
    expression-refused _ _ c.args.reader b fs d us st read c.args.lexeme _ c.in-Refused.is (fed-still h)

pub give-requires : goal.give-requires
give-requires c =
    let r = c.requires in
    let h = fed-done _ _ c.args.reader Goal.Expression r.4 r.5 c.args.lexeme _ c.in-Done.part c.in-Done.is (fed-still r.7) in
    (r.0, r.1, r.2, r.3, _, r.5, r.6, h.is.1)

pub returns-in-Done-clause-moves : goal.returns-in-Done-clause-moves
returns-in-Done-clause-moves c =
    IfOk-weaker c.enter.result _ _
    (λ moved m d us b fs st read u i.
    let h = fed-done _ _ c.args.reader Goal.Expression st read c.args.lexeme _ c.in-Done.part c.in-Done.is (fed-still i) in
    expression-done _ _ _ c.args.reader c.in-Done.part b fs d us st read c.args.lexeme _ h
    (m _ _ (IfOk-weaker c.give.result _ _ (λ next n. n d us b fs _ read u h.is.1) c.give.ensures.moves)))
    c.enter.ensures.moves
