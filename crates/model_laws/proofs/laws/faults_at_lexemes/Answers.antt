use Rattle.model_laws.proofs.FaultPlaces.{faults-there}
use Rattle.model_laws.proofs.laws.faults_at_lexemes.Goals as goal

pub returns : goal.returns
returns c = faults-there
