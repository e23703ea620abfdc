use Rattle.std.proofs.Common.{IsSome, is_some, false, ◌≡◌, sym, ap, subst, ◌∙◌}
use Rattle.std.proofs.lemmas.Result.{on_ok_weaker}
use Rattle.lsp_answers.specs.States.{State}
use Rattle.server_documents.specs.Documents.{opened_as, opened_at, with_file}
use Rattle.server_folder.specs.Folders.{with_told}
use Rattle.server_folder.proofs.Closed.{closes-over, not-open}
use Rattle.server_folder.proofs.files.close.Goals as goal

pub read_file-requires : goal.read_file-requires
read_file-requires g c =
    subst (λ (s : State). is_some (opened_as s c.in-Some.closed) ≡ false) (sym c.in_ok-closed.ensures.closed)
    (not-open c.args.documents.now (opened_at c.args.documents.now c.args.uri.now) c.in-Some.closed (sym c.in-Some.is ∙ c.in_ok-closed.ensures.name))

pub returns-clause-goes : goal.returns-clause-goes
returns-clause-goes g c = λ tells.
    on_ok_weaker c.read_file.result
    (λ (left : (with_told c.read_file.new.documents (g.F.Folder.told c.read_file.new.folder) ≡ with_file (with_told c.close.new.self (g.F.Folder.told c.args.folder.now)) c.in-Some.closed) × IsSome (g.F.Folder.told c.read_file.new.folder)). (
      left.0
          ∙ ap (λ (s : State). with_file (with_told s (g.F.Folder.told c.args.folder.now)) c.in-Some.closed) c.in_ok-closed.ensures.closed
          ∙ closes-over c.closes_by_parts.ensures c.args.documents.now (g.F.Folder.told c.args.folder.now) (opened_at c.args.documents.now c.args.uri.now) c.in-Some.closed (sym c.in-Some.is ∙ c.in_ok-closed.ensures.name),
      left.1,
    ))
    (c.read_file.ensures.goes tells)
