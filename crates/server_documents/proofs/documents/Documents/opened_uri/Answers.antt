use Rattle.std.proofs.Common.{List, ℕ, Option, sym, ap, ◌∙◌}
use Rattle.std.specs.Prelude.{option_map}
use Rattle.lsp_answers.specs.States.{Opened, State}
use Rattle.server_documents.specs.Documents.{opened_as}
use Rattle.server_documents.specs.Held.{opened_entry}
use Rattle.server_documents.specs.declared.opened.Open.{Open}
use Rattle.server_documents.proofs.Entries.{lookup-same, open-entry}
use Rattle.server_documents.proofs.documents.Documents.opened_uri.Goals as goal

abbrev as_opened : List ℕ → Option Open → Option Opened
as_opened name document = option_map (λ (v : Open). opened_entry (name, v)) document

pub returns-in-Some : goal.returns-in-Some
returns-in-Some c =
    sym (ap (option_map (λ (o : Opened). o.uri)) (open-entry c.args.name.now c.self.inside.opened.entries ∙ ap (as_opened c.args.name.now) (sym (c.in-Some.ensures.value ∙ lookup-same c.args.name.now c.self.inside.opened.entries))))
    ∙ ap (λ (s : State). option_map (λ (o : Opened). o.uri) (opened_as s c.args.name.now)) c.self.view_is

pub returns-in-None : goal.returns-in-None
returns-in-None c =
    sym (ap (option_map (λ (o : Opened). o.uri)) (open-entry c.args.name.now c.self.inside.opened.entries ∙ ap (as_opened c.args.name.now) (sym (c.in-None.ensures.value ∙ lookup-same c.args.name.now c.self.inside.opened.entries))))
    ∙ ap (λ (s : State). option_map (λ (o : Opened). o.uri) (opened_as s c.args.name.now)) c.self.view_is
