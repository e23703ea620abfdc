use Rattle.workspace.proofs.workspace.WorkspaceAnswers.change.Goals as goal

pub returns-clause-goes : goal.returns-clause-goes
returns-clause-goes g c = c.change.ensures.goes (g.F.Folder.told c.args.self.now.folder)
