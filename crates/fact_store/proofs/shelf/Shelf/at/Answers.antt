use Rattle.std.proofs.Common.{◌<◌, List, length, ap, sym, ◌∙◌, arith}
use Rattle.std.specs.Prelude.{slice_get}
use Rattle.fact_store.specs.declared.slot.Slot.{Slot}
use Rattle.fact_store.specs.Shelf.{shelved}
use Rattle.fact_store.proofs.ShelfLemmas.{length-shelved, has_key, stands_at}
use Rattle.fact_store.proofs.shelf.Shelf.at.Goals as goal

pub index-requires : goal.index-requires
index-requires g c = let s = c.self.inside in omega (arith, c.requires, ap length c.self.view_is, length-shelved s.slots s.names.entries c.self.invariant)

pub index-requires-2 : goal.index-requires-2
index-requires-2 g c =
    let s = c.self.inside in
    let l : c.args.index < length (shelved s.slots s.names.entries) = omega (arith, c.requires, ap length c.self.view_is) in
    has_key s.slots s.names.entries c.self.invariant c.args.index c.index.result.now l c.index.ensures

pub returns : goal.returns
returns g c =
    let s = c.self.inside in
    let l : c.args.index < length (shelved s.slots s.names.entries) = omega (arith, c.requires, ap length c.self.view_is) in
    ap (λ (ss : List (Slot g.row.O.Denot g.row.F.Denot)). slice_get ss c.args.index) (sym c.self.view_is)
    ∙ stands_at s.slots s.names.entries c.self.invariant c.args.index c.index.result.now c.index-2.result.now l c.index.ensures c.index-2.ensures
