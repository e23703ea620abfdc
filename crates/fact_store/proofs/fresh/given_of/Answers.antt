use Rattle.std.specs.Prelude.{unwrap_or, []}
use Rattle.std.proofs.lemmas.List.{take_all}
use Rattle.std.proofs.Common.{◌≡◌, ℕ, ◌≤◌, List, length, sym, ap, ◌∙◌, arith}
use Rattle.fact_store.specs.declared.slot.Slot.{Slot}
use Rattle.fact_values.specs.Names.{has}
use Rattle.fact_values.specs.Values.{gives, all_given, value}
use Rattle.fact_store.specs.Slots.{texts_of}
use Rattle.fact_store.proofs.InputLemmas.{one_at}
use Rattle.fact_store.proofs.Pairs.{has-read, all_given-more}
use Rattle.fact_store.proofs.Groups.{needs_in-slot}
use Rattle.fact_store.proofs.fresh.given_of.Goals as goal

pub input_of-requires-clause-need : goal.input_of-requires-clause-need
input_of-requires-clause-need g c = λ slot at.
    let s = one_at c.args.slots.now c.args.index c.at.result.now slot c.at.ensures at in
    ap (has (unwrap_or slot.needs [])) c.as_str.ensures
    ∙ ap (λ (ns : List (List ℕ)). has ns c.name-item.result) (sym (ap (λ (z : Slot g.row.D-Own.Denot g.row.D-Fact.Denot). unwrap_or z.needs []) s) ∙ sym c.needed-name-items.ensures)
    ∙ has-read c.needed-name-items.result.now c.loop-name.name-index c.name-item.result c.loop-name-test.true c.name-item.is

pub loop-name-preserved : goal.loop-name-preserved
loop-name-preserved g c = λ slot at. let same : c.in_ok-name.name ≡ c.name-item.result = c.in_ok-name.ensures ∙ c.as_str-in-loop-name.ensures in
    all_given-more g.D.Derive.own_of g.D.Derive.needs_of g.D.Derive.fact_of (texts_of c.args.slots.now) (value g.D.Derive.own_of g.D.Derive.needs_of g.D.Derive.fact_of (texts_of c.args.slots.now)) slot.name
    c.needed-name-items.result.now c.loop-name.name-index c.name-item.result c.in_ok-name.name c.loop-name.given c.push.new.self c.in_ok-input.input c.loop-name-test.true c.name-item.is (c.loop-name.invariant slot at) same
    (c.in_ok-input.ensures slot at ∙ ap (gives g.D.Derive.own_of g.D.Derive.needs_of g.D.Derive.fact_of (texts_of c.args.slots.now) (value g.D.Derive.own_of g.D.Derive.needs_of g.D.Derive.fact_of (texts_of c.args.slots.now)) slot.name) (c.as_str.ensures ∙ sym same))
    c.in_ok-push.ensures.ok

pub returns : goal.returns
returns g c = λ slot at.
    let s = one_at c.args.slots.now c.args.index c.at.result.now slot c.at.ensures at in
    let over : length c.needed-name-items.result.now ≤ c.loop-name.name-index = omega arith in
    c.loop-name.invariant slot at
    ∙ ap (all_given g.D.Derive.own_of g.D.Derive.needs_of g.D.Derive.fact_of (texts_of c.args.slots.now) (value g.D.Derive.own_of g.D.Derive.needs_of g.D.Derive.fact_of (texts_of c.args.slots.now)) slot.name)
    (take_all c.loop-name.name-index c.needed-name-items.result.now over ∙ c.needed-name-items.ensures
    ∙ ap (λ (z : Slot g.row.D-Own.Denot g.row.D-Fact.Denot). unwrap_or z.needs []) s
    ∙ sym (needs_in-slot g.D.Derive.own_of g.D.Derive.needs_of g.D.Derive.fact_of c.args.slots.now c.requires.right.sound c.args.index slot at))
