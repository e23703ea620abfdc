use Rattle.std.proofs.lemmas.Result.{IfOk-weaker}
use Rattle.unit_frames.proofs.Growing.{under-grows}
use Rattle.unit_parse.proofs.Counting.{few-fed}
use Rattle.unit_parse.proofs.Feeding.{reader-ready}
use Rattle.unit_parse.proofs.Stepping.{moves-later}
use Rattle.unit_parse.proofs.parts.expression_step.Goals as goal

pub feed-requires : goal.feed-requires
feed-requires c = reader-ready c.requires.7

pub expression_fed-requires : goal.expression_fed-requires
expression_fed-requires c =
    let r = c.requires in
    let h = c.in-Ok.ensures.feeds _ r.4 r.5 r.7 in
    (r.0, r.1, r.2, r.3, r.4, r.5, under-grows _ _ c.args.unfinished r.0 r.1 r.2 r.3 h.grows r.6, h.is)

pub returns-clause-moves : goal.returns-clause-moves
returns-clause-moves c =
    IfOk-weaker c.expression_fed.result _ _
    (λ moved m d us b fs st read u i.
    let h = c.in-Ok.ensures.feeds _ st read i in
    moves-later _ _ _ moved _ h.grows (m d us b fs st read (under-grows _ _ c.args.unfinished b fs d us h.grows u) h.is))
    c.expression_fed.ensures.moves

pub returns-clause-few : goal.returns-clause-few
returns-clause-few c =
    IfOk-weaker c.expression_fed.result _ _
    (λ moved m count f. m count (few-fed _ _ _ _ _ count c.args.lexeme _ f (c.in-Ok.ensures.few f.before f.read f.has)))
    c.expression_fed.ensures.few
