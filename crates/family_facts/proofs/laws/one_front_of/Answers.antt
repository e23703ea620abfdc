use Rattle.family_facts.specs.Fronts.{front_of}
use Rattle.family_facts.proofs.FrontLaws.{front-is}
use Rattle.family_facts.proofs.laws.one_front_of.Goals as goal

pub returns-clause-is : goal.returns-clause-is
returns-clause-is c = front-is

pub returns-clause-no_other : goal.returns-clause-no_other
returns-clause-no_other c name bytes front is = c.one_front.ensures.same name bytes front (front_of name bytes) is (front-is name bytes)
