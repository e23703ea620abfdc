use Rattle.name_spans.proofs.Standing.{all-decls-stand}
use Rattle.name_spans.proofs.decls_stand_in_text.Goals as goal

pub returns : goal.returns
returns c = all-decls-stand
