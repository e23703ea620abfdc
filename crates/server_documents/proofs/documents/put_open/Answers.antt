use Rattle.std.proofs.Common.{List, ℕ, ap, map, refl, subst, sym, ◌∙◌}
use Rattle.std.specs.BTreeMap.{insert_entry}
use Rattle.std.specs.Cmp.Lexicographic.{slice_cmp}
use Rattle.std.specs.Ordering.{nat_cmp}
use Rattle.server_documents.specs.Held.{HaveDocuments, opened_entry}
use Rattle.server_documents.proofs.Entries.{documents-put, put-shown}
use Rattle.server_documents.proofs.documents.put_open.Goals as goal

pub returns-in-Ok-insert-clause-opened : goal.returns-in-Ok-insert-clause-opened
returns-in-Ok-insert-clause-opened c =
    ap (map opened_entry) (c.in-Ok-insert.ensures.entries ∙ ap (λ (k : List ℕ). insert_entry (slice_cmp nat_cmp) c.args.opened.now.entries k c.args.document) c.in-Ok.ensures)
    ∙ put-shown opened_entry (λ o. o.name) (λ e. refl) c.args.opened.now.entries c.args.name.now c.args.document

pub returns-in-Ok-insert-clause-documents : goal.returns-in-Ok-insert-clause-documents
returns-in-Ok-insert-clause-documents c = λ texts here all.
    subst (HaveDocuments texts) (sym (c.in-Ok-insert.ensures.entries ∙ ap (λ (k : List ℕ). insert_entry (slice_cmp nat_cmp) c.args.opened.now.entries k c.args.document) c.in-Ok.ensures))
    (documents-put texts c.args.opened.now.entries c.args.name.now c.args.document here all)
