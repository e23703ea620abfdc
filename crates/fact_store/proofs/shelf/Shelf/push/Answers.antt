use Rattle.std.proofs.Common.{sym, subst, ◌∙◌}
use Rattle.fact_store.specs.Shelf.{Names, IsShelf}
use Rattle.fact_store.proofs.ShelfLemmas.{shelf-room, pushed-shelf, pushed-view}
use Rattle.fact_store.proofs.shelf.Shelf.push.Goals as goal

pub invariant_of-self : goal.invariant_of-self
invariant_of-self g c = let s = c.self.inside in shelf-room s.slots s.names.entries c.self.invariant c.reserve.new.self c.in_err-reserve.ensures.rest_kept

pub invariant_of-self-in_err-insert : goal.invariant_of-self-in_err-insert
invariant_of-self-in_err-insert g c =
    let s = c.self.inside in
    subst (λ (ns : Names). IsShelf c.reserve.new.self ns) (sym c.in_err-insert.ensures.err) (shelf-room s.slots s.names.entries c.self.invariant c.reserve.new.self c.in_ok-reserve.ensures.rest_kept)

pub invariant_of-self-2 : goal.invariant_of-self-2
invariant_of-self-2 g c =
    let s = c.self.inside in
    pushed-shelf s.slots c.reserve.new.self c.insert_reserved.new.self s.names c.insert.new.self.entries c.args.self.now c.args.slot c.insert_reserved.result c.vacant_key.result c.in_ok-name.name c.self.invariant c.self.view_is c.in_ok-reserve.ensures.rest_kept
    c.insert_reserved.ensures.was_vacant c.insert_reserved.ensures.updates c.insert_reserved.ensures.len (c.vacant_key.ensures.value ∙ sym c.insert_reserved.ensures.key) (c.in_ok-name.ensures.ok ∙ c.as_str.ensures) c.requires c.in_ok-insert.ensures.entries

pub returns-clause-ok : goal.returns-clause-ok
returns-clause-ok g c =
    let s = c.self.inside in
    pushed-view s.slots c.reserve.new.self c.insert_reserved.new.self s.names c.insert.new.self.entries c.args.self.now c.args.slot c.insert_reserved.result c.vacant_key.result c.in_ok-name.name c.self.invariant c.self.view_is c.in_ok-reserve.ensures.rest_kept
    c.insert_reserved.ensures.was_vacant c.insert_reserved.ensures.updates c.insert_reserved.ensures.len (c.vacant_key.ensures.value ∙ sym c.insert_reserved.ensures.key) (c.in_ok-name.ensures.ok ∙ c.as_str.ensures) c.requires c.in_ok-insert.ensures.entries
