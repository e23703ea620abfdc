use Rattle.server_texts.proofs.Ignoring.{change_ignored, backward_ignored, close_ignored, open_ignored}
use Rattle.server_texts.proofs.laws.nothing_happens.Goals as goal

pub returns-clause-changed : goal.returns-clause-changed
returns-clause-changed c = change_ignored

pub returns-clause-backward : goal.returns-clause-backward
returns-clause-backward c = backward_ignored

pub returns-clause-closed : goal.returns-clause-closed
returns-clause-closed c = close_ignored

pub returns-clause-opened : goal.returns-clause-opened
returns-clause-opened c = open_ignored
