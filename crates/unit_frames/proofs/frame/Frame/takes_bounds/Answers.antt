use Rattle.unit_frames.proofs.Taking.{frame-bounds}
use Rattle.unit_frames.proofs.frame.Frame.takes_bounds.Goals as goal

pub returns : goal.returns
returns c frame bounds spelled is part =
    rw c.joined-self.ensures (frame-bounds _ c.args.self.now c.args.wait c.args.part _ _ frame bounds spelled c.in_ok-self.ensures c.requires c.children.ensures.before c.children.ensures.children is part)
