use Rattle.std.proofs.Common.{◌∙◌}
use Rattle.workspace.proofs.Stating.{sent-over}
use Rattle.workspace.proofs.workspace.WorkspaceAnswers.due.Goals as goal

pub returns-clause-sent : goal.returns-clause-sent
returns-clause-sent g c =
    sent-over c.send.result c.args.self.now.documents c.send.new.self (g.F.Folder.told c.args.self.now.folder) c.as_slice.result.now (c.as_slice.ensures ∙ c.in_ok-notes.ensures) c.send.ensures.sent
