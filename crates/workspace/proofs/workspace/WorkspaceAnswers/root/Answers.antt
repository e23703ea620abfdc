use Rattle.std.proofs.Common.{refl}
use Rattle.server_folder.specs.Folders.{with_told}
use Rattle.server_folder.proofs.RootReads.{judged-over}
use Rattle.workspace.proofs.workspace.WorkspaceAnswers.root.Goals as goal

pub returns-in-None-clause-goes : goal.returns-in-None-clause-goes
returns-in-None-clause-goes g c =
    rw c.in-None.is (λ tells. judged-over c.args.self.now.documents (with_told c.args.self.now.documents (g.F.Folder.told c.args.self.now.folder)) (g.F.Folder.told c.args.self.now.folder) c.judge.result refl c.judge.ensures.limit)
