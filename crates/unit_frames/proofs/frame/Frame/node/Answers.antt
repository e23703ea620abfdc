use Rattle.unit_frames.proofs.Taking.{node-made}
use Rattle.unit_frames.proofs.frame.Frame.node.Goals as goal

pub returns-clause-made : goal.returns-clause-made
returns-clause-made c frame is =
    node-made _ _ c.args.self.now c.args.form _ _ _ frame c.as_slice.ensures c.covered.ensures c.in_ok-node.ensures.ok c.in_ok-node.ensures.number is
