use Rattle.accepted_modules.proofs.Views.{named-same, nested-same, outside-same, states-same}
use Rattle.accepted_modules.proofs.views_go_together.Goals as goal

pub returns-clause-states : goal.returns-clause-states
returns-clause-states c = λ outsides files source units before same. states-same outsides files source units same before

pub returns-clause-named : goal.returns-clause-named
returns-clause-named c = λ outsides files source units before name same. named-same outsides files source units same before name

pub returns-clause-nested : goal.returns-clause-nested
returns-clause-nested c = nested-same

pub returns-clause-outside : goal.returns-clause-outside
returns-clause-outside c = λ outsides files source units same. outside-same outsides files source units same
