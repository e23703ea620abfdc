use Rattle.family_facts.proofs.Members.{one-each}
use Rattle.module_interfaces.proofs.Found.{face-found}
use Rattle.module_interfaces.proofs.faces_are_found.Goals as goal

pub returns : goal.returns
returns c family member found given files distinct there front each others faces = face-found c.one_front.ensures.same family (one-each family distinct) member found given files there front each others faces (c.leveled_is.ensures.checked family member found given distinct there front each others)
