use Rattle.server_uris.proofs.ModuleTexts.{module_text_is}
use Rattle.server_uris.proofs.laws.module_text.Goals as goal

pub returns : goal.returns
returns c = module_text_is
