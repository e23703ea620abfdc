use Rattle.kind_text.proofs.Likeness.{kind-put, text-same}
use Rattle.kind_text.proofs.kinds_alone_count.Goals as goal

pub returns-clause-put : goal.returns-clause-put
returns-clause-put c = kind-put

pub returns-clause-text : goal.returns-clause-text
returns-clause-text c = text-same
