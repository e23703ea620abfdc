use Rattle.std.specs.Fmt.{digits}
use Rattle.serde_json.proofs.OnLiterals.{serde_json_on_literals}
use Rattle.lsp_wire.specs.Replies.{initialized_text}
use Rattle.lsp_wire.proofs.reply.initialized_text.Goals as goal

pub returns : goal.returns
unfolding initialized_text serde_json_on_literals digits
returns c = c.in_ok-text.ensures.ok
