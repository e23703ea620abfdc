use Rattle.level_spans.proofs.Standing.{all-deep-lie}
use Rattle.level_spans.proofs.deep_names_lie.Goals as goal

pub returns : goal.returns
returns c = all-deep-lie
