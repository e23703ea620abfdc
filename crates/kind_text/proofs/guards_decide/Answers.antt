use Rattle.kind_text.proofs.Unfolding.{kind-guard}
use Rattle.kind_text.proofs.guards_decide.Goals as goal

pub returns : goal.returns
returns c = kind-guard
