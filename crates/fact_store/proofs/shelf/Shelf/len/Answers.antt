use Rattle.std.proofs.Common.{length, sym, ap, ◌∙◌}
use Rattle.fact_store.proofs.ShelfLemmas.{length-shelved}
use Rattle.fact_store.proofs.shelf.Shelf.len.Goals as goal

pub returns : goal.returns
returns g c = c.len.ensures.len ∙ sym (length-shelved c.self.inside.slots c.self.inside.names.entries c.self.invariant) ∙ ap length c.self.view_is
