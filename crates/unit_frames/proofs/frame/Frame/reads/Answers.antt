use Rattle.unit_frames.proofs.Taking.{frame-reads}
use Rattle.unit_frames.proofs.frame.Frame.reads.Goals as goal

pub returns : goal.returns
returns c nodes frame is = rw c.joined.ensures (frame-reads nodes c.args.self c.args.wait c.args.lexeme frame is)
