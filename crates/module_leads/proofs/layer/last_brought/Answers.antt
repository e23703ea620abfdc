use Rattle.std.proofs.Common.{◌≡◌, ℕ, ◌+◌, ◌-◌, ◌∙◌, ap, arith, subst, sym, take}
use Rattle.std.specs.Prelude.{option_map}
use Rattle.module_leads.specs.Layers.{last_brought}
use Rattle.module_leads.specs.Ways.{found_way}
use Rattle.module_leads.proofs.Said.{brought-last, brought-none}
use Rattle.module_leads.proofs.layer.last_brought.Goals as goal

pub returns-in-Some : goal.returns-in-Some
returns-in-Some c =
    let next : c.loop-index.index ≡ (c.loop-index.index - 1) + 1 = omega arith in
    let all = last_brought c.args.brought.now c.args.meaning.now in
    brought-last c.args.brought.now (c.loop-index.index - 1) c.index-brought-index.result c.args.meaning.now all (found_way c.in-Some.way) (omega arith) c.index-brought-index.is
    (sym (ap (option_map found_way) c.in-Some.is) ∙ c.way.ensures)
    (subst (λ (n : ℕ). last_brought (take n c.args.brought.now) c.args.meaning.now ≡ all) next c.loop-index.invariant.known)

pub loop-index-preserved : goal.loop-index-preserved
loop-index-preserved c =
    let next : c.loop-index.index ≡ (c.loop-index.index - 1) + 1 = omega arith in
    let all = last_brought c.args.brought.now c.args.meaning.now in
    record {
      within = omega arith;
      known = brought-none c.args.brought.now (c.loop-index.index - 1) c.index-brought-index.result c.args.meaning.now all (omega arith) c.index-brought-index.is
          (sym (ap (option_map found_way) c.in_default.is) ∙ c.way.ensures)
          (subst (λ (n : ℕ). last_brought (take n c.args.brought.now) c.args.meaning.now ≡ all) next c.loop-index.invariant.known);
    }
