use Rattle.kind_text.proofs.Putting.{put-text}
use Rattle.kind_text.proofs.text_is_put.Goals as goal

pub returns : goal.returns
returns c = put-text
