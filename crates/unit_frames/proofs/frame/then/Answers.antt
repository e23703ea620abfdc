use Rattle.unit_frames.proofs.Taking.{parts-more}
use Rattle.unit_frames.proofs.frame.then.Goals as goal

pub returns : goal.returns
returns c nodes parts tree spelled part a n i = parts-more nodes c.args.numbers _ c.args.node parts tree spelled part c.in_ok-push.ensures.ok a n i
