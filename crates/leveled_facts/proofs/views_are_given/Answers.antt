use Rattle.leveled_facts.proofs.Others.{outside-view, view-given, views-given}
use Rattle.leveled_facts.proofs.views_are_given.Goals as goal

pub returns-clause-each : goal.returns-clause-each
returns-clause-each c = view-given

pub returns-clause-all : goal.returns-clause-all
returns-clause-all c = views-given

pub returns-clause-itself : goal.returns-clause-itself
returns-clause-itself c = outside-view
