use Rattle.std.proofs.Common.{subst, ◌++◌, arith}
use Rattle.tla_tree.specs.Lexemes.{then}
use Rattle.unit_machine.specs.Machine.{frame}
use Rattle.unit_frames.specs.FrameMeaning.{IsFrame}
use Rattle.unit_frames.proofs.Popping.{popped, nothing-left}
use Rattle.unit_steps.proofs.Stepping.{ended-alone, ended-below}
use Rattle.unit_steps.proofs.endings.end_frame.Goals as goal

pub returns-in_default-clause-ends : goal.returns-in_default-clause-ends
returns-in_default-clause-ends c f fs i a =
    ended-alone _ _ c.args.below.now.items c.pop.new.self.items _ c.in_ok-part.part c.args.form f fs (nothing-left c.args.below.now.items (omega (arith, c.in_default.ensures.cases.0))) a (c.in_ok-part.ensures.made f i)

pub returns-clause-ends : goal.returns-clause-ends
returns-clause-ends c f fs i a =
    ended-below _ _ c.args.below.now.items c.pop.new.self.items c.in-Some.outer c.takes.new.self c.in_ok-part.part c.args.form f fs (popped c.args.below.now.items c.pop.new.self.items c.in-Some.outer c.in-Some.ensures.items) a (c.in_ok-part.ensures.made f i)
    (λ h x b j p. subst (λ w. IsFrame c.node.new.tree c.takes.new.self (frame w (then h.parts x) (h.read ++ b))) c.after_part-wait.ensures (c.in_ok-takes.ensures _ h x b j p))
