use Rattle.std.proofs.Common.{refl}
use Rattle.unit_frames.proofs.Taking.{frame-takes, parts-more}
use Rattle.unit_frames.proofs.frame.Frame.takes.Goals as goal

pub returns : goal.returns
returns c nodes frame tree spelled is part =
    let held = c.args.self.now in
    rw c.joined-self.ensures (frame-takes nodes held c.args.wait c.args.part _ frame tree spelled (parts-more nodes held.parts _ c.args.part.node frame.parts tree spelled c.args.part c.in_ok-push.ensures.ok is.parts refl part) is part)
