use Rattle.kind_text.proofs.Unfolding.{text-step}
use Rattle.kind_text.proofs.text_unfolds.Goals as goal

pub returns : goal.returns
returns c = text-step
