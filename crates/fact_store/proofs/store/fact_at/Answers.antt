use Rattle.std.proofs.Common.{sym, ap, ◌∙◌}
use Rattle.list_laws.proofs.Options.{none-there, some-there}
use Rattle.fact_store.specs.declared.slot.Slot.{Slot}
use Rattle.fact_values.specs.States.{fact}
use Rattle.fact_store.specs.Slots.{texts_of}
use Rattle.fact_values.specs.Values.{value}
use Rattle.fact_store.proofs.Gifts.{value-broken}
use Rattle.fact_store.proofs.InputLemmas.{done-kept, done-value, one_at}
use Rattle.fact_store.proofs.store.fact_at.Goals as goal

pub returns-then-is_none : goal.returns-then-is_none
returns-then-is_none g c = λ slot at.
    let s = one_at c.args.slots.now c.args.index c.at-slot.result.now slot c.at-slot.ensures at in
    sym (value-broken g.D.Derive.own_of g.D.Derive.needs_of g.D.Derive.fact_of c.args.slots.now c.requires.right.sound c.args.index slot at
    (ap (λ (z : Slot g.row.D-Own.Denot g.row.D-Fact.Denot). z.needs) (sym s) ∙ none-there c.at-slot.result.now.needs c.if-is_none.ensures))

pub unreachable-requires : goal.unreachable-requires
unreachable-requires g c =
    let x = c.at-slot.result.now in let ns = some-there x.needs c.if-is_none.ensures in
    let at = c.at-slot.ensures in
    done-kept g.D.Derive.own_of g.D.Derive.needs_of g.D.Derive.fact_of g.D.Derive.same c.args.slots.now c.args.current.now c.requires.right c.args.index x at ns.0 ns.1 (c.requires.done x at) c.in_default.is

pub returns : goal.returns
returns g c = λ slot at.
    let x = c.at-slot.result.now in let ns = some-there x.needs c.if-is_none.ensures in
    let here = c.at-slot.ensures in
    let s = one_at c.args.slots.now c.args.index x slot c.at-slot.ensures at in
    ap fact c.in_ok-try_clone.ensures
    ∙ sym (done-value g.D.Derive.own_of g.D.Derive.needs_of g.D.Derive.fact_of g.D.Derive.same c.args.slots.now c.args.current.now c.requires.right c.args.index x here ns.0 ns.1 (c.requires.done x here) g.met.D.Derive.respects c.in-Some.kept c.in-Some.is)
    ∙ ap (λ (z : Slot g.row.D-Own.Denot g.row.D-Fact.Denot). value g.D.Derive.own_of g.D.Derive.needs_of g.D.Derive.fact_of (texts_of c.args.slots.now) z.name) s
