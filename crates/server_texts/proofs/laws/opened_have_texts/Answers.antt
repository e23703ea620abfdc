use Rattle.server_texts.proofs.HeldTexts.{root-texts, texts-kept}
use Rattle.server_texts.proofs.laws.opened_have_texts.Goals as goal

pub returns-clause-root : goal.returns-clause-root
returns-clause-root c = root-texts

pub returns-clause-kept : goal.returns-clause-kept
returns-clause-kept c = texts-kept
