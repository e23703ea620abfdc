use Rattle.std.proofs.Common.{◌↔◌, length}
use Rattle.rpc_frame.specs.Frames.{EndsInside}
use Rattle.rpc_frame.specs.HeaderMachine.{HasRead}
use Rattle.rpc_frame.proofs.framer.ends_inside.Given as goal

abbrev pub invariant-frames : goal.invariant-frames
invariant-frames l = HasRead l.rest l.progress × (EndsInside l.bytes ↔ EndsInside l.rest)

abbrev pub decreases-frames : goal.decreases-frames
decreases-frames l = length l.rest
