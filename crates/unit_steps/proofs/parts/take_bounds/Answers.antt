use Rattle.std.proofs.lemmas.Result.{IfOk-weaker}
use Rattle.unit_steps.proofs.Stepping.{bounds-wait}
use Rattle.unit_steps.proofs.parts.take_bounds.Goals as goal

pub takes_bounds-requires : goal.takes_bounds-requires
takes_bounds-requires c = c.requires.9.there

pub part_step-requires : goal.part_step-requires
part_step-requires c =
    let r = c.requires in
    (r.0, r.1, r.2, r.3, _, r.7, c.in-Ok.ensures r.4 r.5 r.6 r.8 r.9)

pub returns-clause-moves : goal.returns-clause-moves
returns-clause-moves c =
    IfOk-weaker c.part_step.result _ _
    (λ moved h d us b fs f x spelled u i p.
    h d us b fs _ u (bounds-wait _ c.takes_bounds.new.self c.args.frame _ f _ _ c.after_bounds-wait.ensures i (c.in-Ok.ensures f x spelled i p)))
    c.part_step.ensures.moves
