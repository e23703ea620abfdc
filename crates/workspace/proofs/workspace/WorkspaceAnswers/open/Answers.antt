use Rattle.workspace.proofs.workspace.WorkspaceAnswers.open.Goals as goal

pub returns-clause-goes : goal.returns-clause-goes
returns-clause-goes g c = c.open.ensures.goes (g.F.Folder.told c.args.self.now.folder)
