use Rattle.server_texts.proofs.Looking.{looks}
use Rattle.server_texts.proofs.laws.looks_at_texts.Goals as goal

pub returns : goal.returns
returns c = looks
