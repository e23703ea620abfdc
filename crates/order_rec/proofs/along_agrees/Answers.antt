use Rattle.order_rec.proofs.Order.{along-same}
use Rattle.order_rec.proofs.along_agrees.Goals as goal

pub returns : goal.returns
returns g c d step later n h i l = along-same d step later n h i l
