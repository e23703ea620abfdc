use Rattle.std.proofs.Common.{Some, sym, ap, ◌∙◌}
use Rattle.server_documents.specs.Held.{document_in}
use Rattle.server_documents.proofs.Entries.{lookup-same}
use Rattle.server_documents.proofs.documents.document_text.Goals as goal

pub returns-in-Some-Document : goal.returns-in-Some-Document
returns-in-Some-Document c = ap document_in (ap Some (sym c.in-Some-Document.field-0-is) ∙ c.in-Some-Document.ensures.value ∙ lookup-same c.args.name.now c.args.texts.now.entries)

pub returns-in-Some-File : goal.returns-in-Some-File
returns-in-Some-File c = ap document_in (ap Some (sym c.in-Some-File.field-0-is) ∙ c.in-Some-File.ensures.value ∙ lookup-same c.args.name.now c.args.texts.now.entries)

pub returns-in-None : goal.returns-in-None
returns-in-None c = ap document_in (c.in-None.ensures.value ∙ lookup-same c.args.name.now c.args.texts.now.entries)
