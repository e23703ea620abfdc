use Rattle.std.proofs.Common.{ap, map, refl, subst, sym, ◌∙◌}
use Rattle.std.specs.Cmp.Lexicographic.{slice_cmp}
use Rattle.std.specs.Ordering.{is_eq, nat_cmp}
use Rattle.server_documents.specs.Held.{HaveDocuments, opened_entry}
use Rattle.server_documents.proofs.Entries.{documents-taken, lookup-same, taken-shown}
use Rattle.server_documents.proofs.documents.take_open.Goals as goal

pub returns-clause-value : goal.returns-clause-value
returns-clause-value c = c.remove.ensures.value ∙ lookup-same c.args.name.now c.args.opened.now.entries

pub returns-clause-opened : goal.returns-clause-opened
returns-clause-opened c =
    ap (map opened_entry) c.remove.ensures.entries ∙ taken-shown opened_entry (λ o. o.name) (λ e. refl) c.args.name.now c.args.opened.now.entries c.len-len.ensures.ordered

pub returns-clause-documents : goal.returns-clause-documents
returns-clause-documents c = λ texts all.
    subst (HaveDocuments texts) (sym c.remove.ensures.entries) (documents-taken texts (λ key. is_eq (slice_cmp nat_cmp c.args.name.now key)) c.args.opened.now.entries all)
