use Rattle.order_rec.proofs.Order.{along-step}
use Rattle.order_rec.proofs.along_unfolds.Goals as goal

pub returns : goal.returns
returns g c d step i = along-step d step i
