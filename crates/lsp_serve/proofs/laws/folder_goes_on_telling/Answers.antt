use Rattle.lsp_serve.proofs.Telling.{folder_tells}
use Rattle.lsp_serve.proofs.laws.folder_goes_on_telling.Goals as goal

pub returns : goal.returns
returns c = folder_tells
