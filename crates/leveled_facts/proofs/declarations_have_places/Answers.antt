use Rattle.family_facts.proofs.Members.{one-each}
use Rattle.leveled_facts.proofs.Meeting.{places-declared}
use Rattle.leveled_facts.proofs.declarations_have_places.Goals as goal

pub returns : goal.returns
returns c = λ family member found distinct there front. places-declared c.one_front.ensures.same family (one-each family distinct) member found there front
