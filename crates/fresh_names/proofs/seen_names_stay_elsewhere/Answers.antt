use Rattle.fresh_names.proofs.Kept.{kept}
use Rattle.fresh_names.proofs.seen_names_stay_elsewhere.Goals as goal

pub returns : goal.returns
returns c = kept
