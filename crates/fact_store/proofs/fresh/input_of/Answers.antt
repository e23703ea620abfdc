use Rattle.std.proofs.Common.{refl, sym, ap, ◌∙◌, arith}
use Rattle.std.proofs.lemmas.Option.{slice_get_within}
use Rattle.list_laws.proofs.Options.{none-there, some-there}
use Rattle.fact_store.specs.declared.slot.Slot.{Slot}
use Rattle.fact_values.specs.States.{fact}
use Rattle.fact_store.proofs.Gifts.{gives-none}
use Rattle.fact_store.proofs.InputLemmas.{input-cyclic, input-broken, input-kept, input-fact, one_at}
use Rattle.fact_store.proofs.Rows.{slot_at}
use Rattle.fact_store.proofs.fresh.input_of.Goals as goal

pub returns-in_default : goal.returns-in_default
returns-in_default g c = λ slot at.
    sym (gives-none g.D.Derive.own_of g.D.Derive.needs_of g.D.Derive.fact_of c.args.slots.now c.requires.right.sound slot.name c.args.need.now c.args.index slot at refl c.in_default.ensures)

pub index-requires : goal.index-requires
index-requires g c =
    let p = c.in-Some.ensures in let w = slice_get_within c.args.slots.now c.in-Some.other p.0 p.1 in
    omega (arith, w, c.requires.plan.edges.long, c.requires.plan.groups.long, c.args.plan.now.groups.ok.0)

pub returns-then-index : goal.returns-then-index
returns-then-index g c = λ slot at.
    input-cyclic g.D.Derive.own_of g.D.Derive.needs_of g.D.Derive.fact_of g.D.Derive.same c.args.slots.now c.args.current.now c.args.plan.now c.requires.right c.requires.plan
    c.args.index c.in-Some.other slot c.args.need.now at c.in-Some.ensures (c.requires.need slot at) _ _ c.index.ensures c.index-2.ensures c.if-index.true

pub at-slot-requires : goal.at-slot-requires
at-slot-requires g c = let p = c.in-Some.ensures in slice_get_within c.args.slots.now c.in-Some.other p.0 p.1

pub returns-then-is_none : goal.returns-then-is_none
returns-then-is_none g c = λ slot at.
    let p = c.in-Some.ensures in
    let s = one_at c.args.slots.now c.in-Some.other c.at-slot.result.now p.0 c.at-slot.ensures p.1 in
    input-broken g.D.Derive.own_of g.D.Derive.needs_of g.D.Derive.fact_of g.D.Derive.same c.args.slots.now c.args.current.now c.args.plan.now c.requires.right c.requires.plan
    c.args.index c.in-Some.other slot c.args.need.now at p (c.requires.need slot at) _ _ c.index.ensures c.index-2.ensures c.if-index.false
    (ap (λ (z : Slot g.row.D-Own.Denot g.row.D-Fact.Denot). z.needs) (sym s) ∙ none-there c.at-slot.result.now.needs c.if-is_none.ensures)

pub unreachable-requires : goal.unreachable-requires
unreachable-requires g c =
    let p = c.in-Some.ensures in
    let s = one_at c.args.slots.now c.in-Some.other c.at-slot.result.now p.0 c.at-slot.ensures p.1 in
    let slot = slot_at c.args.slots.now c.args.index c.requires.index in
    let ns = some-there c.at-slot.result.now.needs c.if-is_none.ensures in
    input-kept g.D.Derive.own_of g.D.Derive.needs_of g.D.Derive.fact_of g.D.Derive.same c.args.slots.now c.args.current.now c.args.plan.now c.requires.right c.requires.plan
    c.args.index c.in-Some.other slot.0 c.args.need.now slot.1 p (c.requires.need slot.0 slot.1) _ _ c.index.ensures c.index-2.ensures c.requires.ready c.if-index.false ns.0
    (ap (λ (z : Slot g.row.D-Own.Denot g.row.D-Fact.Denot). z.needs) (sym s) ∙ ns.1) (ap (λ (z : Slot g.row.D-Own.Denot g.row.D-Fact.Denot). z.kept) (sym s) ∙ c.in_default-kept.is)

pub returns : goal.returns
returns g c = λ slot at.
    let p = c.in-Some.ensures in
    let s = one_at c.args.slots.now c.in-Some.other c.at-slot.result.now p.0 c.at-slot.ensures p.1 in
    let ns = some-there c.at-slot.result.now.needs c.if-is_none.ensures in
    ap fact c.in_ok-try_clone.ensures
    ∙ input-fact g.D.Derive.own_of g.D.Derive.needs_of g.D.Derive.fact_of g.D.Derive.same c.args.slots.now c.args.current.now c.args.plan.now c.requires.right c.requires.plan
    c.args.index c.in-Some.other slot c.args.need.now at p (c.requires.need slot at) _ _ c.index.ensures c.index-2.ensures c.requires.ready g.met.D.Derive.respects c.if-index.false ns.0 c.in-Some-kept.kept
    (ap (λ (z : Slot g.row.D-Own.Denot g.row.D-Fact.Denot). z.needs) (sym s) ∙ ns.1) (ap (λ (z : Slot g.row.D-Own.Denot g.row.D-Fact.Denot). z.kept) (sym s) ∙ c.in-Some-kept.is)
