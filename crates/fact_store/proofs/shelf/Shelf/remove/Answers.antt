use Rattle.std.proofs.Common.{◌≡◌, ◌<◌, List, Option, Some, None, length, ℕ, ap, sym, subst, ◌∙◌, arith}
use Rattle.std.specs.Prelude.{remove, String}
use Rattle.std.specs.declared.alloc.Global.{Global}
use Rattle.list_laws.proofs.Lists.{item-at}
use Rattle.fact_store.specs.declared.slot.Slot.{Slot}
use Rattle.fact_store.specs.Shelf.{Names, shelved, IsShelf}
use Rattle.fact_store.proofs.ShelfLemmas.{length-shelved, entry_contained, shelf-remove, shelved-remove}
use Rattle.fact_store.proofs.shelf.Shelf.remove.Goals as goal

pub remove-requires : goal.remove-requires
remove-requires g c = let s = c.self.inside in entry_contained s.slots s.names.entries c.self.invariant c.args.index _ (sym c.in-Some.ensures.entry)

pub invariant_of-self : goal.invariant_of-self
invariant_of-self g c =
    let s = c.self.inside in
    subst (λ (ns : Names). IsShelf c.remove.new.self ns) (sym c.in-Some.ensures.entries)
    (shelf-remove s.slots s.names.entries c.self.invariant c.remove.new.self c.args.index _ (sym c.in-Some.ensures.entry) c.remove.ensures.updates c.remove.ensures.len)

pub returns : goal.returns
returns g c =
    let s = c.self.inside in
    ap (shelved c.remove.new.self) c.in-Some.ensures.entries
    ∙ shelved-remove s.slots s.names.entries c.self.invariant c.remove.new.self c.args.index _ (sym c.in-Some.ensures.entry) c.remove.ensures.updates c.remove.ensures.len
    ∙ ap (λ (ss : List (Slot g.row.O.Denot g.row.F.Denot)). remove ss c.args.index) c.self.view_is

pub unreachable-requires : goal.unreachable-requires
unreachable-requires g c =
    let s = c.self.inside in
    let l : c.args.index < length s.names.entries = omega (arith, c.requires, ap length c.self.view_is, length-shelved s.slots s.names.entries c.self.invariant) in
    let e = item-at s.names.entries c.args.index l in
    let k : ◌≡◌ {A = Option (String Global × ℕ)} None (Some e.0) = c.in_default.ensures.entry ∙ e.1 in cc k
