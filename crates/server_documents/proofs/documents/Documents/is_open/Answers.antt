use Rattle.std.proofs.Common.{is_some, ap, ◌∙◌}
use Rattle.lsp_answers.specs.States.{State}
use Rattle.server_documents.specs.Documents.{opened_as}
use Rattle.server_documents.proofs.Entries.{lookup-same, open-named}
use Rattle.server_documents.proofs.documents.Documents.is_open.Goals as goal

pub returns : goal.returns
returns c =
    c.contains_key.ensures ∙ ap is_some (lookup-same c.args.name.now c.self.inside.opened.entries) ∙ open-named c.args.name.now c.self.inside.opened.entries
    ∙ ap (λ (s : State). is_some (opened_as s c.args.name.now)) c.self.view_is
