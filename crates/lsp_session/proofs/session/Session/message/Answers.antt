use Rattle.lsp_session.proofs.Spending.{awake}
use Rattle.lsp_session.proofs.session.Session.message.Goals as goal

pub returns-in-Err-clause-spent : goal.returns-in-Err-clause-spent
returns-in-Err-clause-spent g c =
    awake (g.A.Answers.fault_count c.args.self.now.answers) (g.A.Answers.fault_count c.read_and_handle.new.answers) c.in-Err.fault c.args.self.now.spent c.in-Err.ensures.cause c.if-self.false
