use Rattle.std.proofs.Common.{sym, ap, subst}
use Rattle.server_documents.specs.Held.{HaveDocuments}
use Rattle.server_documents.proofs.documents.Documents.send.Goals as goal

pub invariant_of-self-2 : goal.invariant_of-self-2
invariant_of-self-2 c = record {
  short = c.self.invariant.short;
  documents =
      c.in_ok-self-inside.ensures.documents c.self.inside.texts.entries
      (subst (HaveDocuments c.self.inside.texts.entries) (sym (ap (λ z. z.entries) c.replace-opened.ensures.value)) c.self.invariant.documents);
}
