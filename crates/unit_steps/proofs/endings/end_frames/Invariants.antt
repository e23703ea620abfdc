use Rattle.std.proofs.Common.{◌+◌, ◌≤◌, List, length}
use Rattle.std.specs.Prelude.{reverse}
use Rattle.unit_machine.specs.Machine.{Frame}
use Rattle.unit_frames.specs.FrameMeaning.{IsFrame, AreFrames}
use Rattle.unit_steps.proofs.Stepping.{Goes}
use Rattle.unit_steps.proofs.endings.end_frames.Given as goal

abbrev pub invariant-ending : goal.invariant-ending
invariant-ending l = record {
  goes : (f : Frame) → (fs : List Frame) → IsFrame l.initial.tree l.initial.frame f → AreFrames l.initial.tree (reverse l.initial.below.items) fs → Goes l.initial.tree l.tree l.below.items l.frame f fs l.lexeme;
  few : length l.tree + (length l.below.items + 1) ≤ length l.initial.tree + (length l.initial.below.items + 1);
}

abbrev pub decreases-ending : goal.decreases-ending
decreases-ending l = length l.below.items
