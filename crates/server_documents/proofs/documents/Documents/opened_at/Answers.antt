use Rattle.std.proofs.Common.{Option, List, ℕ, sym, ap, ◌∙◌}
use Rattle.std.specs.Prelude.{option_and_then, option_map}
use Rattle.server_documents.specs.Documents.{opened_as}
use Rattle.server_uris.specs.Uris.{module_of}
use Rattle.lsp_answers.specs.States.{Root}
use Rattle.server_documents.proofs.Entries.{open-name}
use Rattle.server_documents.proofs.documents.Documents.opened_at.Goals as goal

pub returns-then-is_open : goal.returns-then-is_open
returns-then-is_open c =
    open-name c.in-Some.name c.args.self.now.opened (sym c.is_open.ensures ∙ c.if-is_open.true)
    ∙ ap (λ (o : Option (List ℕ)). option_map (λ o. o.name) (option_and_then (opened_as c.args.self.now) o))
    (sym c.in-Some.is ∙ c.in_ok-name.ensures ∙ ap (λ (r : Option Root). module_of r c.args.uri.now) c.root.ensures)
