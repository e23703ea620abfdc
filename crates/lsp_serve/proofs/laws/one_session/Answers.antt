use Rattle.lsp_serve.proofs.Sessions.{comes, one}
use Rattle.lsp_serve.proofs.laws.one_session.Goals as goal

pub returns-clause-comes : goal.returns-clause-comes
returns-clause-comes c = comes

pub returns-clause-one : goal.returns-clause-one
returns-clause-one c = one
