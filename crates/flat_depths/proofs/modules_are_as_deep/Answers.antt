use Rattle.flat_depths.proofs.Units.{module-deep}
use Rattle.flat_depths.proofs.modules_are_as_deep.Goals as goal

pub returns : goal.returns
returns c flat files source units symbols places extensions comings behind along = module-deep flat files source units symbols places extensions comings behind along
