use Rattle.name_spans.proofs.Reading.{module-is-text}
use Rattle.name_spans.proofs.modules_are_texts.Goals as goal

pub returns : goal.returns
returns c = module-is-text
