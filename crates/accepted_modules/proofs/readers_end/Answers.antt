use Rattle.module_model.specs.Modules.{text_of}
use Rattle.module_model.specs.Resolution.{first, words_of}
use Rattle.accepted_modules.proofs.Leading.{reader-ends}
use Rattle.accepted_modules.proofs.Symbols.{module-round}
use Rattle.accepted_modules.proofs.readers_end.Goals as goal

pub returns-clause-states : goal.returns-clause-states
returns-clause-states c = λ files source units a derives. module-round (text_of source units) files (words_of units) derives (first files source units)

pub returns-clause-readers : goal.returns-clause-readers
returns-clause-readers c = reader-ends
