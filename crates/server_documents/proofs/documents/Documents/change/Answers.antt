use Rattle.std.proofs.Common.{◌≡◌, ◌<◌, Option, List, ℕ, Some, None, length, refl, sym, ap, subst, ◌∙◌}
use Rattle.std.specs.Prelude.{map}
use Rattle.lsp_answers.specs.States.{Root, State, first_too_long}
use Rattle.std.proofs.lemmas.Result.{err_from_is_err_and}
use Rattle.doc_edit.specs.Edits.{after_changes, first_backward, first_excess}
use Rattle.server_uris.specs.Uris.{module_of}
use Rattle.server_documents.specs.Documents.{after_change, changed_texts}
use Rattle.server_documents.specs.Held.{IsChangeFault, held_as, opened_entry, text_as}
use Rattle.server_documents.proofs.Changing.{changes-all, document-is, edit-fault, excess-is, held, is-text-after, no-document, none-open, short-after, unchanged, unchanged-texts}
use Rattle.server_documents.proofs.Entries.{document-of, lookup-same, put-kept}
use Rattle.server_documents.proofs.documents.Documents.change.Goals as goal

pub returns-in_default-get-clause-changed : goal.returns-in_default-get-clause-changed
returns-in_default-get-clause-changed c =
    subst (λ (s : State). s ≡ after_change s c.args.uri.now c.args.changes.now) c.self.view_is
    (unchanged (held c.self.inside.root c.self.inside.texts.entries c.self.inside.opened.entries c.self.inside.due c.args.uri.now c.in-Some.name (sym (c.in_ok-name.ensures ∙ ap (λ (r : Option Root). module_of r c.args.uri.now) c.as_ref.ensures.value) ∙ c.in-Some.is) c.args.changes.now) c.args.uri.now c.args.changes.now (none-open c.self.inside.root c.self.inside.texts.entries c.self.inside.opened.entries c.self.inside.due c.args.uri.now c.in-Some.name (sym (c.in_ok-name.ensures ∙ ap (λ (r : Option Root). module_of r c.args.uri.now) c.as_ref.ensures.value) ∙ c.in-Some.is) c.args.changes.now (sym (c.in_default-get.ensures.value ∙ lookup-same c.in-Some.name c.self.inside.opened.entries))))

pub returns-in_default-get-clause-short : goal.returns-in_default-get-clause-short
returns-in_default-get-clause-short c =
    subst (λ (s : State). first_too_long (changed_texts s c.args.uri.now c.args.changes.now) ≡ None) c.self.view_is
    (unchanged-texts (held c.self.inside.root c.self.inside.texts.entries c.self.inside.opened.entries c.self.inside.due c.args.uri.now c.in-Some.name (sym (c.in_ok-name.ensures ∙ ap (λ (r : Option Root). module_of r c.args.uri.now) c.as_ref.ensures.value) ∙ c.in-Some.is) c.args.changes.now) c.args.uri.now c.args.changes.now (none-open c.self.inside.root c.self.inside.texts.entries c.self.inside.opened.entries c.self.inside.due c.args.uri.now c.in-Some.name (sym (c.in_ok-name.ensures ∙ ap (λ (r : Option Root). module_of r c.args.uri.now) c.as_ref.ensures.value) ∙ c.in-Some.is) c.args.changes.now (sym (c.in_default-get.ensures.value ∙ lookup-same c.in-Some.name c.self.inside.opened.entries))))

pub returns-in_default-document_text-clause-changed : goal.returns-in_default-document_text-clause-changed
returns-in_default-document_text-clause-changed c =
    let has = document-of c.self.inside.texts.entries c.in-Some.name c.self.inside.opened.entries c.in-Some-get.document.now c.self.invariant.documents (sym (c.in-Some-get.ensures.value ∙ lookup-same c.in-Some.name c.self.inside.opened.entries)) in
    absurd (no-document (held_as c.self.inside.texts.entries c.in-Some.name) has.0 c.in_default-document_text.ensures has.1)

pub returns-in_default-document_text-clause-short : goal.returns-in_default-document_text-clause-short
returns-in_default-document_text-clause-short c =
    let has = document-of c.self.inside.texts.entries c.in-Some.name c.self.inside.opened.entries c.in-Some-get.document.now c.self.invariant.documents (sym (c.in-Some-get.ensures.value ∙ lookup-same c.in-Some.name c.self.inside.opened.entries)) in
    absurd (no-document (held_as c.self.inside.texts.entries c.in-Some.name) has.0 c.in_default-document_text.ensures has.1)

pub changed-requires : goal.changed-requires
changed-requires c =
    let has = document-of c.self.inside.texts.entries c.in-Some.name c.self.inside.opened.entries c.in-Some-get.document.now c.self.invariant.documents (sym (c.in-Some-get.ensures.value ∙ lookup-same c.in-Some.name c.self.inside.opened.entries)) in
    subst (λ (t : List ℕ). length t < 2147483648) (document-is (held_as c.self.inside.texts.entries c.in-Some.name) c.in-Some-document_text.text.now has.0 c.in-Some-document_text.ensures has.1) has.2

pub returns-in_err-changed-clause-long : goal.returns-in_err-changed-clause-long
returns-in_err-changed-clause-long c =
    let found = (sym (c.in-Some-get.ensures.value ∙ lookup-same c.in-Some.name c.self.inside.opened.entries)) in
    let has = document-of c.self.inside.texts.entries c.in-Some.name c.self.inside.opened.entries c.in-Some-get.document.now c.self.invariant.documents found in
    let text = document-is (held_as c.self.inside.texts.entries c.in-Some.name) c.in-Some-document_text.text.now has.0 c.in-Some-document_text.ensures has.1 in
    let module_is = sym (c.in_ok-name.ensures ∙ ap (λ (r : Option Root). module_of r c.args.uri.now) c.as_ref.ensures.value) ∙ c.in-Some.is in
    let too = λ (clear : first_backward c.args.changes.now ≡ None). excess-is c.self.inside.root c.self.inside.texts.entries c.self.inside.opened.entries c.self.inside.due c.args.uri.now c.in-Some.name module_is c.args.changes.now c.in-Some-get.document.now found has clear ∙ ap (λ (t : List ℕ). first_excess t c.args.changes.now) text in
    let p = err_from_is_err_and c.from_residual-in_err-changed.result c.from_residual-in_err-changed.ensures.1 in
    rw p.1
    (subst (IsChangeFault (first_too_long (changed_texts c.args.self.now c.args.uri.now c.args.changes.now))) (sym p.2)
    (edit-fault (first_backward c.args.changes.now) (first_excess c.in-Some-document_text.text.now c.args.changes.now) _ _ c.in_err-changed.ensures.long
    (λ clear. subst (λ (s : State). first_too_long (changed_texts s c.args.uri.now c.args.changes.now) ≡ first_excess c.in-Some-document_text.text.now c.args.changes.now) c.self.view_is (too clear))))

pub invariant_of-self-2 : goal.invariant_of-self-2
invariant_of-self-2 c =
    let has = document-of c.self.inside.texts.entries c.in-Some.name c.self.inside.opened.entries c.in-Some-get.document.now c.self.invariant.documents (sym (c.in-Some-get.ensures.value ∙ lookup-same c.in-Some.name c.self.inside.opened.entries)) in
    let text = document-is (held_as c.self.inside.texts.entries c.in-Some.name) c.in-Some-document_text.text.now has.0 c.in-Some-document_text.ensures has.1 in
    let both = is-text-after (first_backward c.args.changes.now) c.in-Some-document_text.text.now c.in-Some-2.changed c.args.changes.now (sym c.in-Some-2.is ∙ c.in_ok-changed.ensures.text) in
    let short = short-after c.in-Some-document_text.text.now c.args.changes.now (c.in_ok-changed.ensures.short both.0) (subst (λ (t : List ℕ). length t < 2147483648) text has.2) in
    record { short = c.put_text.ensures.short c.self.invariant.short (subst (λ (t : List ℕ). length t < 2147483648) (sym both.1) short); documents = put-kept c.self.inside.texts.entries c.put_text.new.texts.entries c.in-Some.name c.in-Some-2.changed (subst (λ (t : List ℕ). length t < 2147483648) (sym both.1) short) c.in_ok-put_text.ensures.held c.self.inside.opened.entries c.self.invariant.documents }

pub returns-clause-changed : goal.returns-clause-changed
returns-clause-changed c =
    let found = (sym (c.in-Some-get.ensures.value ∙ lookup-same c.in-Some.name c.self.inside.opened.entries)) in
    let has = document-of c.self.inside.texts.entries c.in-Some.name c.self.inside.opened.entries c.in-Some-get.document.now c.self.invariant.documents (sym (c.in-Some-get.ensures.value ∙ lookup-same c.in-Some.name c.self.inside.opened.entries)) in
    let text = document-is (held_as c.self.inside.texts.entries c.in-Some.name) c.in-Some-document_text.text.now has.0 c.in-Some-document_text.ensures has.1 in
    let both = is-text-after (first_backward c.args.changes.now) c.in-Some-document_text.text.now c.in-Some-2.changed c.args.changes.now (sym c.in-Some-2.is ∙ c.in_ok-changed.ensures.text) in
    subst (λ (s : State). record { root = c.self.inside.root; texts = map text_as c.put_text.new.texts.entries; opened = map opened_entry c.self.inside.opened.entries; due = Some (record { name = c.in-Some.name; uri = c.in_ok-uri.uri }); folder = None } ≡ after_change s c.args.uri.now c.args.changes.now) c.self.view_is
    (changes-all c.self.inside.root c.self.inside.texts.entries c.self.inside.opened.entries c.self.inside.due c.args.uri.now c.in-Some.name (sym (c.in_ok-name.ensures ∙ ap (λ (r : Option Root). module_of r c.args.uri.now) c.as_ref.ensures.value) ∙ c.in-Some.is) c.args.changes.now c.in-Some-get.document.now found has both.0 c.put_text.new.texts.entries c.in-Some-2.changed c.in-Some.name c.in_ok-uri.uri c.in_ok-put_text.ensures.texts (both.1 ∙ ap (λ (t : List ℕ). after_changes t c.args.changes.now) (sym text)) refl c.in_ok-uri.ensures)

pub returns-clause-short : goal.returns-clause-short
returns-clause-short c =
    let found = (sym (c.in-Some-get.ensures.value ∙ lookup-same c.in-Some.name c.self.inside.opened.entries)) in
    let has = document-of c.self.inside.texts.entries c.in-Some.name c.self.inside.opened.entries c.in-Some-get.document.now c.self.invariant.documents (sym (c.in-Some-get.ensures.value ∙ lookup-same c.in-Some.name c.self.inside.opened.entries)) in
    let text = document-is (held_as c.self.inside.texts.entries c.in-Some.name) c.in-Some-document_text.text.now has.0 c.in-Some-document_text.ensures has.1 in
    let both = is-text-after (first_backward c.args.changes.now) c.in-Some-document_text.text.now c.in-Some-2.changed c.args.changes.now (sym c.in-Some-2.is ∙ c.in_ok-changed.ensures.text) in
    subst (λ (s : State). first_too_long (changed_texts s c.args.uri.now c.args.changes.now) ≡ None) c.self.view_is
    (excess-is c.self.inside.root c.self.inside.texts.entries c.self.inside.opened.entries c.self.inside.due c.args.uri.now c.in-Some.name (sym (c.in_ok-name.ensures ∙ ap (λ (r : Option Root). module_of r c.args.uri.now) c.as_ref.ensures.value) ∙ c.in-Some.is) c.args.changes.now c.in-Some-get.document.now found has both.0 ∙ ap (λ (t : List ℕ). first_excess t c.args.changes.now) text ∙ c.in_ok-changed.ensures.short both.0)
