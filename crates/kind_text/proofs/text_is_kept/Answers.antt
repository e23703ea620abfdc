use Rattle.kind_text.proofs.Unfolding.{text-kept}
use Rattle.kind_text.proofs.text_is_kept.Goals as goal

pub returns : goal.returns
returns c flat more i extends ordered here = text-kept flat more extends ordered i here
