use Rattle.name_spans.proofs.Standing.{all-uses-stand}
use Rattle.name_spans.proofs.uses_stand_in_text.Goals as goal

pub returns : goal.returns
returns c = all-uses-stand
