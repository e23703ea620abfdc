use Rattle.family_facts.proofs.Members.{one-each}
use Rattle.leveled_facts.proofs.Meeting.{fault-leveled, tree-leveled}
use Rattle.leveled_facts.proofs.leveled_is.Goals as goal

pub returns-clause-checked : goal.returns-clause-checked
returns-clause-checked c = λ family member found given distinct there front each others. tree-leveled c.one_front.ensures.same family (one-each family distinct) member found given there front each others

pub returns-clause-front : goal.returns-clause-front
returns-clause-front c = λ family member fault distinct there front. fault-leveled c.one_front.ensures.same family (one-each family distinct) member fault there front
