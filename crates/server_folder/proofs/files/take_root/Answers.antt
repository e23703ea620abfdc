use Rattle.std.proofs.Common.{◌≡◌, None, refl, sym, subst, ◌∙◌}
use Rattle.lsp_answers.specs.States.{After, IsAfter, judged}
use Rattle.server_uris.specs.Uris.{client_root_of}
use Rattle.server_folder.specs.Folders.{with_told}
use Rattle.server_folder.proofs.RootReads.{judged-over, root-none}
use Rattle.server_folder.proofs.files.take_root.Goals as goal

pub returns-in_default-clause-goes : goal.returns-in_default-clause-goes
returns-in_default-clause-goes g c = λ tells.
    (let over = with_told c.args.documents.now (g.F.Folder.told c.args.folder.now) in
    let none : client_root_of c.args.uri.now ≡ None = sym c.in_ok-root.ensures ∙ c.in_default.is in
    subst (λ (a : After). IsAfter a c.judge.result over) (root-none over c.args.uri.now none)
    (judged-over c.args.documents.now over (g.F.Folder.told c.args.folder.now) c.judge.result refl c.judge.ensures.limit))
