use Rattle.kind_text.proofs.Unfolding.{text-use}
use Rattle.kind_text.proofs.use_is_body.Goals as goal

pub returns : goal.returns
returns c = text-use
