use Rattle.level_spans.proofs.Standing.{findings-stand}
use Rattle.level_spans.proofs.findings_stand_in_text.Goals as goal

pub returns : goal.returns
returns c = findings-stand
