use Rattle.std.proofs.lemmas.Result.{IfOk-weaker}
use Rattle.unit_frames.proofs.frame.Frame.closed.Goals as goal

pub node-requires : goal.node-requires
node-requires c = (c.reads-frame.ensures _ c.requires.0 c.requires.1).parts.there

pub returns-clause-made : goal.returns-clause-made
returns-clause-made c = IfOk-weaker c.node.result _ _ (λ part h frame is. h _ (c.reads-frame.ensures _ frame is)) c.node.ensures.made
