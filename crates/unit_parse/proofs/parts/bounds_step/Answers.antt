use Rattle.std.proofs.lemmas.Result.{IfOk-weaker}
use Rattle.unit_frames.proofs.Growing.{under-grows, frame-grows}
use Rattle.unit_parse.proofs.Counting.{few-fed}
use Rattle.unit_parse.proofs.Feeding.{reader-ready}
use Rattle.unit_parse.proofs.Stepping.{moves-later}
use Rattle.unit_parse.proofs.parts.bounds_step.Goals as goal

pub feed-requires : goal.feed-requires
feed-requires c = reader-ready c.requires.8

pub bounds_fed-requires : goal.bounds_fed-requires
bounds_fed-requires c =
    let r = c.requires in
    let h = c.in-Ok.ensures.feeds _ r.4 r.5 r.8 in
    (r.0, r.1, r.2, r.3, r.4, r.5, under-grows _ _ c.args.unfinished r.0 _ r.1 r.2 h.grows r.6, frame-grows _ _ c.args.frame r.3 h.grows r.7, h.is)

pub returns-clause-moves : goal.returns-clause-moves
returns-clause-moves c =
    IfOk-weaker c.bounds_fed.result _ _
    (λ moved m d us b f st read u i j.
    let h = c.in-Ok.ensures.feeds _ st read j in
    moves-later _ _ _ moved _ h.grows (m d us b f st read (under-grows _ _ c.args.unfinished b _ d us h.grows u) (frame-grows _ _ c.args.frame f h.grows i) h.is))
    c.bounds_fed.ensures.moves

pub returns-clause-few : goal.returns-clause-few
returns-clause-few c =
    IfOk-weaker c.bounds_fed.result _ _
    (λ moved m count f. m count (few-fed _ _ _ _ _ count c.args.lexeme _ f (c.in-Ok.ensures.few f.before f.read f.has)))
    c.bounds_fed.ensures.few
