use Rattle.lsp_session.proofs.Sent.{always_sent, ignored_sends_nothing}
use Rattle.lsp_session.proofs.laws.notes_are_sent.Goals as goal

pub returns-clause-always : goal.returns-clause-always
returns-clause-always c = always_sent

pub returns-clause-ignored : goal.returns-clause-ignored
returns-clause-ignored c = ignored_sends_nothing
