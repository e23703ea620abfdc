use Rattle.flat_kinds.proofs.Leaving.{meaning-left}
use Rattle.flat_kinds.proofs.meanings_are_left.Goals as goal

pub returns : goal.returns
returns c text files words state unit meaning leaves parameters = meaning-left text files words state unit meaning leaves parameters
