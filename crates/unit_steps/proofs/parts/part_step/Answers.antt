use Rattle.std.proofs.lemmas.Result.{IfOk-weaker}
use Rattle.unit_frames.proofs.Growing.{reached-grows, begun-grows}
use Rattle.unit_steps.proofs.Stepping.{moves-later}
use Rattle.unit_steps.proofs.parts.part_step.Goals as goal

pub end_frames-requires : goal.end_frames-requires
end_frames-requires c = let r = c.requires in (r.4, r.1, r.6, r.5.below)

pub go_on-requires : goal.go_on-requires
go_on-requires c = let r = c.requires in (r.1, r.4, (c.in-Ok.ensures.ends r.4 r.1 r.6 r.5.below).is)

pub returns-clause-moves : goal.returns-clause-moves
returns-clause-moves c =
    IfOk-weaker c.go_on.result _ _
    (λ moved h d us b fs f u i.
    let e = c.in-Ok.ensures.ends f fs i u.below in
    moves-later _ _ _ moved _ e.grows
    (h d us b fs f (reached-grows _ _ c.args.unfinished.reached d us e.grows u.reached) (begun-grows _ _ c.args.unfinished.begun b e.grows u.begun) e.is))
    c.go_on.ensures.moves
