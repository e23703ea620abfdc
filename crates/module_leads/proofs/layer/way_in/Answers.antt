use Rattle.std.proofs.Common.{◌≡◌, ℕ, ◌+◌, ◌-◌, ◌∙◌, ap, arith, length, subst, sym}
use Rattle.std.specs.Prelude.{option_map}
use Rattle.module_leads.specs.Layers.{first_ways}
use Rattle.module_leads.specs.Ways.{found_way}
use Rattle.module_leads.proofs.Said.{ways-said, ways-silent}
use Rattle.module_leads.proofs.layer.way_in.Goals as goal

pub returns-in-Some : goal.returns-in-Some
returns-in-Some c =
    let next : c.loop-index.index ≡ (c.loop-index.index - 1) + 1 = omega arith in
    let all = first_ways c.args.layers.now (length c.args.layers.now) c.args.sought.now in
    ways-said c.args.layers.now (c.loop-index.index - 1) c.index-layers-index.result c.args.sought.now all (found_way c.in-Some.way) (omega arith) c.index-layers-index.is
    (sym (ap (option_map found_way) c.in-Some.is) ∙ c.way.ensures)
    (subst (λ (n : ℕ). first_ways c.args.layers.now n c.args.sought.now ≡ all) next c.loop-index.invariant.known)

pub loop-index-preserved : goal.loop-index-preserved
loop-index-preserved c =
    let next : c.loop-index.index ≡ (c.loop-index.index - 1) + 1 = omega arith in
    let all = first_ways c.args.layers.now (length c.args.layers.now) c.args.sought.now in
    record {
      within = omega arith;
      known = ways-silent c.args.layers.now (c.loop-index.index - 1) c.index-layers-index.result c.args.sought.now all (omega arith) c.index-layers-index.is
          (sym (ap (option_map found_way) c.in-None.is) ∙ c.way.ensures)
          (subst (λ (n : ℕ). first_ways c.args.layers.now n c.args.sought.now ≡ all) next c.loop-index.invariant.known);
    }
