use Rattle.std.proofs.Common.{refl}
use Rattle.unit_steps.proofs.point.Point.opening.Goals as goal

pub returns-clause-stands : goal.returns-clause-stands
returns-clause-stands c nodes = (refl, c.new-2.ensures, c.new.ensures nodes)
