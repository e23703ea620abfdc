use Rattle.std.proofs.Common.{◌≡◌, Option, Some, None, sym, ap, subst, ◌∙◌}
use Rattle.std.specs.Prelude.{map, option_map}
use Rattle.lsp_answers.specs.States.{Root, State}
use Rattle.server_uris.specs.Uris.{module_of}
use Rattle.server_documents.specs.Documents.{opened_at}
use Rattle.server_documents.specs.Held.{opened_entry, text_as, unopened_as}
use Rattle.server_documents.proofs.Closing.{closes-none, closes-some, names-none, names-some}
use Rattle.server_documents.proofs.documents.Documents.close.Goals as goal

pub returns-in_default-take_open-clause-closed : goal.returns-in_default-take_open-clause-closed
returns-in_default-take_open-clause-closed c =
    let none = sym c.take_open.ensures.value ∙ c.in_default-take_open.is in
    subst (λ (s : State). record { root = c.self.inside.root; texts = map text_as c.self.inside.texts.entries; opened = map opened_entry c.take_open.new.opened.entries; due = c.self.inside.due; folder = None } ≡ unopened_as s (opened_at s c.args.uri.now)) c.self.view_is
    (closes-none (c.self.inside.root) (map text_as c.self.inside.texts.entries) c.self.inside.opened.entries c.take_open.new.opened.entries c.self.inside.due c.args.uri.now c.in-Some.name (sym (c.in_ok-name.ensures ∙ ap (λ (r : Option Root). module_of r c.args.uri.now) c.as_ref.ensures.value) ∙ c.in-Some.is) none c.in_default-take_open.ensures.none)

pub returns-in_default-take_open-clause-name : goal.returns-in_default-take_open-clause-name
returns-in_default-take_open-clause-name c =
    subst (λ (s : State). None ≡ option_map (λ o. o.name) (opened_at s c.args.uri.now)) c.self.view_is
    (names-none (c.self.inside.root) (map text_as c.self.inside.texts.entries) c.self.inside.opened.entries c.take_open.new.opened.entries c.self.inside.due c.args.uri.now c.in-Some.name (sym (c.in_ok-name.ensures ∙ ap (λ (r : Option Root). module_of r c.args.uri.now) c.as_ref.ensures.value) ∙ c.in-Some.is) (sym c.take_open.ensures.value ∙ c.in_default-take_open.is))

pub invariant_of-self-in_err-uri : goal.invariant_of-self-in_err-uri
invariant_of-self-in_err-uri c = record { short = c.self.invariant.short; documents = c.take_open.ensures.documents c.self.inside.texts.entries c.self.invariant.documents }

pub invariant_of-self-in_err-copied : goal.invariant_of-self-in_err-copied
invariant_of-self-in_err-copied c = record { short = c.self.invariant.short; documents = c.take_open.ensures.documents c.self.inside.texts.entries c.self.invariant.documents }

pub invariant_of-self-2 : goal.invariant_of-self-2
invariant_of-self-2 c = record { short = c.self.invariant.short; documents = c.take_open.ensures.documents c.self.inside.texts.entries c.self.invariant.documents }

pub returns-clause-closed : goal.returns-clause-closed
returns-clause-closed c =
    subst (λ (s : State). record { root = c.self.inside.root; texts = map text_as c.self.inside.texts.entries; opened = map opened_entry c.take_open.new.opened.entries; due = Some (record { name = c.in_ok-copied.field-0; uri = c.in_ok-uri.uri }); folder = None } ≡ unopened_as s (opened_at s c.args.uri.now)) c.self.view_is
    (closes-some (c.self.inside.root) (map text_as c.self.inside.texts.entries) c.self.inside.opened.entries c.take_open.new.opened.entries c.self.inside.due c.args.uri.now c.in-Some.name (sym (c.in_ok-name.ensures ∙ ap (λ (r : Option Root). module_of r c.args.uri.now) c.as_ref.ensures.value) ∙ c.in-Some.is) c.in-Some-take_open.document c.in_ok-copied.field-0 c.in_ok-uri.uri (sym c.take_open.ensures.value ∙ c.in-Some-take_open.is) c.take_open.ensures.opened c.in_ok-copied.ensures c.in_ok-uri.ensures)

pub returns-clause-name : goal.returns-clause-name
returns-clause-name c =
    subst (λ (s : State). Some c.in-Some.name ≡ option_map (λ o. o.name) (opened_at s c.args.uri.now)) c.self.view_is
    (names-some (c.self.inside.root) (map text_as c.self.inside.texts.entries) c.self.inside.opened.entries c.take_open.new.opened.entries c.self.inside.due c.args.uri.now c.in-Some.name (sym (c.in_ok-name.ensures ∙ ap (λ (r : Option Root). module_of r c.args.uri.now) c.as_ref.ensures.value) ∙ c.in-Some.is) c.in-Some-take_open.document (sym c.take_open.ensures.value ∙ c.in-Some-take_open.is))
