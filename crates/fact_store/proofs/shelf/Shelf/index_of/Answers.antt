use Rattle.std.proofs.Common.{List, subst}
use Rattle.std.specs.Prelude.{MatchOption}
use Rattle.fact_store.specs.declared.slot.Slot.{Slot}
use Rattle.fact_store.specs.Slots.{HasNoSlot, IsIndexOf}
use Rattle.fact_store.proofs.ShelfLemmas.{looked_up}
use Rattle.fact_store.proofs.shelf.Shelf.index_of.Goals as goal

pub returns : goal.returns
returns g c =
    let s = c.self.inside in
    subst (λ (ss : List (Slot g.row.O.Denot g.row.F.Denot)). MatchOption c.get_index_of.result (HasNoSlot ss c.args.name.now) (IsIndexOf ss c.args.name.now)) c.self.view_is
    (looked_up s.slots s.names.entries c.self.invariant c.args.name.now c.get_index_of.result c.get_index_of.ensures.index)
