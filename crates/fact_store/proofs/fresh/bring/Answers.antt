use Rattle.std.proofs.Common.{◌+◌, ◌≤◌, List, refl, sym, ap, ◌∙◌, subst, inr, true, arith}
use Rattle.std.specs.Prelude.{slice_set, is_some}
use Rattle.fact_store.specs.declared.slot.Slot.{Slot}
use Rattle.fact_store.specs.Given.{states}
use Rattle.fact_store.specs.Slots.{owed}
use Rattle.fact_store.specs.Right.{outlines, IsRight}
use Rattle.std.proofs.lemmas.List.{length-set}
use Rattle.fact_store.proofs.Bringing.{brings_none}
use Rattle.fact_store.proofs.InputLemmas.{one_at}
use Rattle.fact_store.proofs.Rows.{slot_at}
use Rattle.fact_store.proofs.Marks.{is_marked-set_same, marked_kept}
use Rattle.fact_store.proofs.KeepLemmas.{outlines-set, IsRight-set, owed-kept, settled_from-fresh, comes_from-slot}
use Rattle.fact_store.proofs.fresh.bring.Goals as goal

pub keep-requires-clause-sound : goal.keep-requires-clause-sound
keep-requires-clause-sound g c = c.requires.right.sound.each c.args.index

pub keep-requires-clause-comes : goal.keep-requires-clause-comes
keep-requires-clause-comes g c = λ slot at.
    let D = g.D.Derive in
    let here = one_at c.args.slots.now c.args.index slot c.at.result.now at c.at.ensures in
    comes_from-slot D.own_of D.needs_of D.fact_of D.same g.met.D.Derive.same_refl c.args.slots.now c.args.index slot (states c.in_ok-given.given) c.requires.right.sound at
    (ap (λ (z : Slot g.row.D-Own.Denot g.row.D-Fact.Denot). is_some z.needs) here ∙ c.if-is_none.ensures) (c.in_ok-given.ensures slot at)

pub returns-in_err-given-clause-brings : goal.returns-in_err-given-clause-brings
returns-in_err-given-clause-brings g c =
    let D = g.D.Derive in
    brings_none D.own_of D.needs_of D.fact_of D.same c.args.slots.now c.args.slots.now c.args.current.now.items c.args.steps.now c.args.steps.now refl c.requires.right (omega arith)

pub returns-in_err-keep-clause-brings : goal.returns-in_err-keep-clause-brings
returns-in_err-keep-clause-brings g c =
    let D = g.D.Derive in
    brings_none D.own_of D.needs_of D.fact_of D.same c.args.slots.now c.keep.new.slots c.args.current.now.items c.args.steps.now c.keep.new.steps c.in_err-keep.ensures.err c.requires.right c.in_err-keep.ensures.rises

pub returns-clause-brings : goal.returns-clause-brings
returns-clause-brings g c =
    let slots = c.args.slots.now in let index = c.args.index in let s = slot_at slots index c.requires.index in
    let k = c.in_ok-keep.ensures.kept s.0 s.1 in
    let D = g.D.Derive in
    let settled = settled_from-fresh D.own_of D.needs_of D.fact_of D.same slots s.0 k.after (states c.in_ok-given.given) k.sound k.outline_kept (c.in_ok-given.ensures s.0 s.1) k.fresh in
    record {
      outline_kept = ap outlines k.written ∙ outlines-set slots index s.0 k.after s.1 k.outline_kept;
      right = subst (λ (ss : List (Slot g.row.D-Own.Denot g.row.D-Fact.Denot)). IsRight D.own_of D.needs_of D.fact_of D.same ss (slice_set c.args.current.now.items index true)) (sym k.written)
          (IsRight-set D.own_of D.needs_of D.fact_of D.same slots c.args.current.now.items index s.0 k.after c.requires.right s.1 k.outline_kept k.sound settled);
      marks = length-set c.args.current.now.items index true;
      kept = λ i m. marked_kept c.args.current.now.items index i (omega (arith, c.requires.index, c.requires.marks, c.args.current.now.ok.0)) m;
      rises = c.in_ok-keep.ensures.rises;
    }

pub returns-clause-done : goal.returns-clause-done
returns-clause-done g c = λ slot at.
    inr (is_marked-set_same c.args.current.now.items c.args.index true (omega (arith, c.requires.index, c.requires.marks, c.args.current.now.ok.0)))

pub returns-clause-counted : goal.returns-clause-counted
returns-clause-counted g c =
    let slots = c.args.slots.now in let index = c.args.index in let s = slot_at slots index c.requires.index in
    let k = c.in_ok-keep.ensures.kept s.0 s.1 in
    let D = g.D.Derive in let eg = c.in_ok-given.ensures s.0 s.1 in
    let settled = settled_from-fresh D.own_of D.needs_of D.fact_of D.same slots s.0 k.after (states c.in_ok-given.given) k.sound k.outline_kept eg k.fresh in
    subst (λ (ss : List (Slot g.row.D-Own.Denot g.row.D-Fact.Denot)). c.keep.new.steps + owed D.own_of D.needs_of D.fact_of D.same ss ≤ c.args.steps.now + owed D.own_of D.needs_of D.fact_of D.same slots) (sym k.written)
    (owed-kept D.own_of D.needs_of D.fact_of D.same slots index s.0 k.after (states c.in_ok-given.given) c.args.steps.now c.keep.new.steps c.requires.right.sound s.1 k.outline_kept eg settled (c.in_ok-keep.ensures.counted s.0 s.1))
