use Rattle.server_texts.proofs.HeldTexts.{text-given, text-only, text-others}
use Rattle.server_texts.proofs.laws.texts_by_name.Goals as goal

pub returns-clause-only : goal.returns-clause-only
returns-clause-only c = text-only

pub returns-clause-given : goal.returns-clause-given
returns-clause-given c = text-given

pub returns-clause-others : goal.returns-clause-others
returns-clause-others c = text-others
