use Rattle.std.proofs.Common.{refl}
use Rattle.accepted_modules.proofs.Faces.{named-face, unit-faces}
use Rattle.accepted_modules.proofs.faces_go_together.Goals as goal

pub returns-clause-begins : goal.returns-clause-begins
returns-clause-begins c = λ name. record { here = (refl, tt, tt); round = tt }

pub returns-clause-kept : goal.returns-clause-kept
returns-clause-kept c = unit-faces

pub returns-clause-named : goal.returns-clause-named
returns-clause-named c = named-face
