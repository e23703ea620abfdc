use Rattle.level_spans.proofs.Standing.{all-stand}
use Rattle.level_spans.proofs.level_faults_stand_in_text.Goals as goal

pub returns : goal.returns
returns c = all-stand
