use Rattle.std.proofs.Common.{◌∙◌, ap}
use Rattle.unit_heights.proofs.HighNodes.{node-start}
use Rattle.unit_heights.proofs.high.begins_with.Goals as goal

pub returns-in-None : goal.returns-in-None
returns-in-None c = rw c.in-None.is (ap (λ s. s.start) c.span.ensures ∙ node-start c.args.tree.now c.args.node c.requires)
