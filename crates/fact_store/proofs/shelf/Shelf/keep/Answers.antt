use Rattle.std.proofs.Common.{◌≡◌, ◌<◌, List, Option, Some, length, refl, ap, sym, ◌∙◌, arith}
use Rattle.std.specs.Prelude.{slice_get, slice_set}
use Rattle.fact_store.specs.declared.slot.Slot.{Slot}
use Rattle.fact_store.specs.Shelf.{shelved}
use Rattle.fact_store.proofs.ShelfLemmas.{length-shelved, has_key, stands_at, shelf-write, shelved-write}
use Rattle.fact_store.proofs.shelf.Shelf.keep.Goals as goal

pub index-key-requires : goal.index-key-requires
index-key-requires g c = let s = c.self.inside in omega (arith, c.requires, ap length c.self.view_is, length-shelved s.slots s.names.entries c.self.invariant)

pub index_mut-slot-requires : goal.index_mut-slot-requires
index_mut-slot-requires g c =
    let s = c.self.inside in
    let l : c.args.index < length (shelved s.slots s.names.entries) = omega (arith, c.requires, ap length c.self.view_is) in
    has_key s.slots s.names.entries c.self.invariant c.args.index c.index-key.result.now l c.index-key.ensures

pub invariant_of-self : goal.invariant_of-self
invariant_of-self g c =
    let s = c.self.inside in
    let l : c.args.index < length (shelved s.slots s.names.entries) = omega (arith, c.requires, ap length c.self.view_is) in
    shelf-write s.slots s.names.entries c.self.invariant c.args.index c.index-key.result.now c.index_mut-slot.result.now (record c.index_mut-slot.result.now { kept = Some c.args.kept }) l c.index-key.ensures c.index_mut-slot.ensures.value refl

pub returns : goal.returns
returns g c = λ slot at.
    let s = c.self.inside in let x = c.index_mut-slot.result.now in
    let l : c.args.index < length (shelved s.slots s.names.entries) = omega (arith, c.requires, ap length c.self.view_is) in
    let here = stands_at s.slots s.names.entries c.self.invariant c.args.index c.index-key.result.now x l c.index-key.ensures c.index_mut-slot.ensures.value in
    let k : ◌≡◌ {A = Option (Slot g.row.O.Denot g.row.F.Denot)} (Some x) (Some slot) = sym here ∙ ap (λ (ss : List (Slot g.row.O.Denot g.row.F.Denot)). slice_get ss c.args.index) c.self.view_is ∙ at in
    let same : x ≡ slot = cc in
    shelved-write s.slots s.names.entries c.self.invariant c.args.index c.index-key.result.now x (record c.index_mut-slot.result.now { kept = Some c.args.kept }) l c.index-key.ensures c.index_mut-slot.ensures.value refl
    ∙ (λ j. slice_set (c.self.view_is j) c.args.index ((ap (λ (z : Slot g.row.O.Denot g.row.F.Denot). record z { kept = Some c.args.kept }) same) j))
