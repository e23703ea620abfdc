use Rattle.flat_kinds.proofs.Places.{places-declared}
use Rattle.flat_kinds.proofs.places_are_declared.Goals as goal

pub returns : goal.returns
returns c declares source units apart places = places-declared declares source units apart places
