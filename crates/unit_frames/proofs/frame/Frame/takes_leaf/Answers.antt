use Rattle.std.proofs.lemmas.Result.{IfOk-weaker}
use Rattle.unit_frames.proofs.Taking.{frame-leaf}
use Rattle.unit_frames.proofs.frame.Frame.takes_leaf.Goals as goal

pub returns-clause-takes : goal.returns-clause-takes
returns-clause-takes c =
    IfOk-weaker c.takes.result _ _
    (λ done h frame is. frame-leaf _ _ c.args.self.now _ _ c.args.form c.args.name c.args.lexeme c.args.wait frame c.in_ok-part.ensures (λ i p. h _ frame _ _ i p) is)
    c.takes.ensures
