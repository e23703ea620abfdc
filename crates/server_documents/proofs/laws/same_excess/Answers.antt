use Rattle.server_documents.proofs.Changing.{excess_same}
use Rattle.server_documents.proofs.laws.same_excess.Goals as goal

pub returns : goal.returns
returns c = excess_same
