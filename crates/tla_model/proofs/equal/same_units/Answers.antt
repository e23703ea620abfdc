use Rattle.tla_model.proofs.Feeding.{units-apart}
use Rattle.tla_model.proofs.equal.same_units.Goals as goal

pub returns-then-left-right : goal.returns-then-left-right
returns-then-left-right c = units-apart c.args.left.now c.args.right.now c.if-left-right.true
