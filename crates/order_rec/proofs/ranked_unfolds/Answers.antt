use Rattle.order_rec.proofs.Rank.{ranked-step}
use Rattle.order_rec.proofs.ranked_unfolds.Goals as goal

pub returns : goal.returns
returns g c d rank step x = ranked-step d rank step x
