use Rattle.std.proofs.Common.{is_some, ap, ◌∙◌, subst, IfSome, List, ℕ, length, ◌<◌, ◌^◌}
use Rattle.lsp_answers.specs.States.{State}
use Rattle.server_documents.specs.Documents.{opened_as}
use Rattle.server_documents.proofs.Entries.{others-kept}
use Rattle.server_documents.proofs.documents.Documents.set_file.Goals as goal

pub invariant_of-self : goal.invariant_of-self
invariant_of-self c = record {
  short = c.put_text.ensures.short c.self.invariant.short (subst (λ o. IfSome o (λ (bytes : List ℕ). length bytes < 2 ^ 31)) c.in-Some.is c.requires.short);
  documents =
      others-kept c.self.inside.texts.entries c.put_text.new.texts.entries c.args.name.now c.put_text.ensures.others c.self.inside.opened.entries
      (ap (λ (s : State). is_some (opened_as s c.args.name.now)) c.self.view_is ∙ c.requires.closed) c.self.invariant.documents;
}

pub invariant_of-self-in-None : goal.invariant_of-self-in-None
invariant_of-self-in-None c = record {
  short = c.take_text.ensures.short c.self.invariant.short;
  documents =
      others-kept c.self.inside.texts.entries c.take_text.new.texts.entries c.args.name.now c.take_text.ensures.others c.self.inside.opened.entries
      (ap (λ (s : State). is_some (opened_as s c.args.name.now)) c.self.view_is ∙ c.requires.closed) c.self.invariant.documents;
}
