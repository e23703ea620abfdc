use Rattle.std.proofs.Common.{◌++◌, sym, ap, ◌∙◌}
use Rattle.std.specs.Map.Iter.{deref}
use Rattle.std.proofs.lemmas.List.{append-nil}
use Rattle.std.proofs.lemmas.Map.Iter.{rest_all}
use Rattle.server_documents.proofs.Sending.{opened-names}
use Rattle.server_documents.proofs.notices.names_of.Goals as goal

pub returns : goal.returns
returns c =
    sym (append-nil c.loop-name.names)
    ∙ ap (λ z. c.loop-name.names ++ z) (sym (rest_all deref c.loop-name.name-iterator c.next.new.self c.next.result c.in-None.is c.next.ensures.steps))
    ∙ c.loop-name.invariant ∙ sym (opened-names c.args.opened.now.entries)
