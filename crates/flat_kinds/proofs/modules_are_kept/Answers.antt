use Rattle.flat_kinds.proofs.Modules.{module-read}
use Rattle.flat_kinds.proofs.modules_are_kept.Goals as goal

pub returns : goal.returns
returns c flat files source units symbols places extensions comings behind built = module-read flat files source units symbols places extensions comings behind built
