use Rattle.std.proofs.Common.{refl, arith}
use Rattle.std.proofs.lemmas.Result.{IfOk-weaker}
use Rattle.unit_frames.specs.declared.unfinished.Unfinished.{Unfinished}
use Rattle.unit_frames.proofs.Popping.{popped, nothing-left, under-popped, under-none}
use Rattle.unit_steps.proofs.Stepping.{given-none, given-frame}
use Rattle.unit_steps.proofs.parts.give.Goals as goal

pub give_to-requires : goal.give_to-requires
give_to-requires c =
    let r = c.requires in
    let after : Unfinished = record { reached = c.args.unfinished.reached; begun = c.args.unfinished.begun; below = c.pop.new.self } in
    let k = under-popped _ c.args.unfinished after c.in-Some.frame r.0 r.1 r.2 r.3 refl refl (popped c.args.unfinished.below.items c.pop.new.self.items c.in-Some.frame c.in-Some.ensures.items) r.6 in
    (r.0, k.1, r.2, r.3, k.0, r.4, r.5, k.4, k.3, r.7)

pub returns-in-None-clause-moves : goal.returns-in-None-clause-moves
returns-in-None-clause-moves c =
    let none = nothing-left c.args.unfinished.below.items (omega (arith, c.in-None.ensures.cases.0)) in
    IfOk-weaker c.finish.result _ _
    (λ moved h d us b fs x spelled u p. given-none _ b fs x spelled d us c.args.lexeme moved (under-none _ c.args.unfinished b fs d us none u) (h d us b x spelled u.reached u.begun p))
    c.finish.ensures.moves

pub returns-in-Some-clause-moves : goal.returns-in-Some-clause-moves
returns-in-Some-clause-moves c =
    let after : Unfinished = record { reached = c.args.unfinished.reached; begun = c.args.unfinished.begun; below = c.pop.new.self } in
    IfOk-weaker c.give_to.result _ _
    (λ moved h d us b fs x spelled u p.
    let k = under-popped _ c.args.unfinished after c.in-Some.frame b fs d us refl refl (popped c.args.unfinished.below.items c.pop.new.self.items c.in-Some.frame c.in-Some.ensures.items) u in
    given-frame _ _ b fs k.1 k.0 x spelled d us c.args.lexeme moved k.2 (h d us b k.1 k.0 x spelled k.4 k.3 p))
    c.give_to.ensures.moves
