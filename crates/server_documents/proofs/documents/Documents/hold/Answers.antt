use Rattle.std.proofs.Common.{subst, sym}
use Rattle.server_documents.specs.Held.{HaveDocuments}
use Rattle.server_documents.proofs.Entries.{put-has, put-kept}
use Rattle.server_documents.proofs.documents.Documents.hold.Goals as goal

pub invariant_of-self-in_err-copied : goal.invariant_of-self-in_err-copied
invariant_of-self-in_err-copied c = record {
  short = c.put_text.ensures.short c.self.invariant.short c.requires;
  documents =
      put-kept c.self.inside.texts.entries c.put_text.new.texts.entries c.args.name c.args.text c.requires c.in_ok-put_text.ensures.held c.self.inside.opened.entries c.self.invariant.documents;
}

pub invariant_of-self-in_err-put_open : goal.invariant_of-self-in_err-put_open
invariant_of-self-in_err-put_open c = record {
  short = c.put_text.ensures.short c.self.invariant.short c.requires;
  documents =
      subst (HaveDocuments c.put_text.new.texts.entries) (sym c.in_err-put_open.ensures.err)
      (put-kept c.self.inside.texts.entries c.put_text.new.texts.entries c.args.name c.args.text c.requires c.in_ok-put_text.ensures.held c.self.inside.opened.entries c.self.invariant.documents);
}

pub invariant_of-self-2 : goal.invariant_of-self-2
invariant_of-self-2 c = record {
  short = c.put_text.ensures.short c.self.invariant.short c.requires;
  documents =
      c.in_ok-put_open.ensures.documents c.put_text.new.texts.entries (put-has c.self.inside.texts.entries c.put_text.new.texts.entries c.args.name c.args.text c.requires c.in_ok-put_text.ensures.held)
      (put-kept c.self.inside.texts.entries c.put_text.new.texts.entries c.args.name c.args.text c.requires c.in_ok-put_text.ensures.held c.self.inside.opened.entries c.self.invariant.documents);
}
