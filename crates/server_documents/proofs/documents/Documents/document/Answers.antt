use Rattle.std.proofs.Common.{◌≡◌, IsTrue, is_some, subst, ◌∙◌}
use Rattle.std.specs.Option.{option_copied}
use Rattle.lsp_answers.specs.States.{State}
use Rattle.server_documents.specs.Documents.{opened_as, text_of}
use Rattle.server_documents.proofs.Changing.{document-text}
use Rattle.server_documents.proofs.documents.Documents.document.Goals as goal

pub returns : goal.returns
returns c =
    subst (λ (s : State). IsTrue (is_some (opened_as s c.args.name.now)) → option_copied c.document_text.result ≡ text_of s c.args.name.now) c.self.view_is
    (λ some. c.document_text.ensures ∙ document-text c.self.inside.texts.entries c.self.inside.opened.entries c.args.name.now c.self.invariant.documents some)
