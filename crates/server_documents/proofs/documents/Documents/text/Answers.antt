use Rattle.std.proofs.Common.{Some, ap, ◌∙◌}
use Rattle.std.specs.Prelude.{option_map}
use Rattle.lsp_answers.specs.States.{State}
use Rattle.server_documents.specs.Documents.{text_of}
use Rattle.server_documents.specs.Held.{bytes_of}
use Rattle.server_documents.proofs.Entries.{held-named, lookup-same}
use Rattle.server_documents.proofs.documents.Documents.text.Goals as goal

pub returns-in-Some : goal.returns-in-Some
returns-in-Some c =
    ap Some c.bytes.ensures ∙ ap (option_map bytes_of) (c.in-Some.ensures.value ∙ lookup-same c.args.name.now c.self.inside.texts.entries) ∙ held-named c.args.name.now c.self.inside.texts.entries
    ∙ ap (λ (s : State). text_of s c.args.name.now) c.self.view_is

pub returns-in-None : goal.returns-in-None
returns-in-None c =
    ap (option_map bytes_of) (c.in-None.ensures.value ∙ lookup-same c.args.name.now c.self.inside.texts.entries) ∙ held-named c.args.name.now c.self.inside.texts.entries
    ∙ ap (λ (s : State). text_of s c.args.name.now) c.self.view_is
