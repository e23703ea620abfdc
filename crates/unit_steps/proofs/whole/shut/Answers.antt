use Rattle.std.proofs.Common.{refl, arith, subst, sym}
use Rattle.std.proofs.lemmas.Result.{IfOk-weaker}
use Rattle.unit_frames.specs.FrameMeaning.{IsBegun, IsReached}
use Rattle.unit_frames.specs.declared.unfinished.Unfinished.{Unfinished}
use Rattle.unit_frames.proofs.Popping.{popped, nothing-left}
use Rattle.unit_steps.proofs.Concluding.{shut-none, shut-frame}
use Rattle.unit_steps.proofs.whole.shut.Goals as goal

pub returns-in_default-clause-moves : goal.returns-in_default-clause-moves
returns-in_default-clause-moves c =
    let none = nothing-left c.args.unfinished.below.items (omega (arith, c.in_default.ensures.cases.0)) in
    IfOk-weaker c.conclude.result _ _
    (λ moved h nodes d us b fs x spelled u p. shut-none nodes c.args.unfinished b fs x spelled d us moved none u (h nodes d us b x spelled c.args.part
    (subst (λ whole. IsReached nodes whole.0 d us) (sym c.into_begun-reached.ensures) u.reached)
    (subst (λ whole. IsBegun nodes whole.1 b) (sym c.into_begun-reached.ensures) u.begun) refl p))
    c.conclude.ensures.moves

pub returns-clause-moves : goal.returns-clause-moves
returns-clause-moves c nodes d us b fs x spelled u p =
    let after : Unfinished = record { reached = c.args.unfinished.reached; begun = c.args.unfinished.begun; below = c.pop.new.self } in
    shut-frame nodes c.args.unfinished after c.in-Some.frame c.takes.new.self _ b fs x spelled d us refl refl (popped c.args.unfinished.below.items c.pop.new.self.items c.in-Some.frame c.in-Some.ensures.items) c.after_part-wait.ensures u
    (λ g i. c.in-Ok.ensures nodes g x spelled i p)
