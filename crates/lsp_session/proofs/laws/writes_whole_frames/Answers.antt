use Rattle.lsp_session.proofs.Whole.{handled_whole}
use Rattle.lsp_session.proofs.laws.writes_whole_frames.Goals as goal

pub returns : goal.returns
returns c = handled_whole
