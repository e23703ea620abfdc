use Rattle.std.proofs.lemmas.Result.{IfOk-weaker}
use Rattle.expr_parse.specs.declared.goal.Goal.{Goal}
use Rattle.unit_parse.proofs.Counting.{more-read}
use Rattle.unit_parse.proofs.Stepping.{fed-still, bounds-going, bounds-refused, bounds-done-is, fed-done}
use Rattle.unit_parse.proofs.parts.bounds_fed.Goals as goal

pub returns-in-Going-clause-moves : goal.returns-in-Going-clause-moves
returns-in-Going-clause-moves c d us b f st read u i h =
    bounds-going _ _ c.args.unfinished c.args.frame c.args.reader b f d us st read c.args.lexeme _ c.in-Going.is u i (fed-still h)

pub returns-in-Going-clause-few : goal.returns-in-Going-clause-few
returns-in-Going-clause-few c count f = more-read _ _ _ count c.args.lexeme _ c.in-Going.is f

pub returns-in-Refused-clause-moves : goal.returns-in-Refused-clause-moves
returns-in-Refused-clause-moves c d us b f st read u i h =
    bounds-refused _ _ c.args.reader b f d us st read c.args.lexeme _ c.in-Refused.is (fed-still h)

pub take_bounds-requires : goal.take_bounds-requires
take_bounds-requires c =
    let r = c.requires in
    let h = fed-done _ _ c.args.reader Goal.Bounds r.4 r.5 c.args.lexeme _ c.in-Done.part c.in-Done.is (fed-still r.8) in
    (r.0, _, r.1, r.2, r.3, _, r.5, r.6, r.7, h.is.1)

pub returns-in-Done-clause-moves : goal.returns-in-Done-clause-moves
returns-in-Done-clause-moves c =
    IfOk-weaker c.enter.result _ _
    (λ moved m d us b f st read u i j.
    let h = fed-done _ _ c.args.reader Goal.Bounds st read c.args.lexeme _ c.in-Done.part c.in-Done.is (fed-still j) in
    bounds-done-is _ _ _ c.args.reader c.in-Done.part b f d us st read c.args.lexeme _ h
    (m _ _ (IfOk-weaker c.take_bounds.result _ _ (λ next n. n d us b _ f _ read u i h.is.1) c.take_bounds.ensures.moves)))
    c.enter.ensures.moves
