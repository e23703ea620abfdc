use Rattle.std.proofs.Common.{◌≡◌, ℕ, ◌+◌, ◌-◌, ◌∙◌, arith, ap, drop, map, reverse, subst, sym}
use Rattle.list_laws.proofs.Lists.{drop-from}
use Rattle.unit_grammar.specs.UnitNodes.{unit_at}
use Rattle.unit_flattener.specs.Ahead.{Taken, taken_at, taken_by, taken_in}
use Rattle.unit_flattener.proofs.own.begun_in.Goals as goal

pub loop-index-preserved : goal.loop-index-preserved
loop-index-preserved c =
    let next : c.loop-index.index ≡ (c.loop-index.index - 1) + 1 = omega arith in
    let ends = reverse c.args.ends.items in
    record {
      within = omega arith;
      taken = λ nodes.
          c.in_ok-take_unit.ensures nodes
          ∙ ap (taken_at (unit_at nodes c.index-units-index.result))
          (subst (λ (n : ℕ). taken_in c.loop-index.ends.items c.loop-index.ending.items c.loop-index.begun.items ≡ taken_by (map (unit_at nodes) (drop n c.args.units.now)) ends) next (c.loop-index.invariant.taken nodes))
          ∙ sym (ap (λ xs. taken_by (map (unit_at nodes) xs) ends) (drop-from c.args.units.now (c.loop-index.index - 1) c.index-units-index.result (omega arith) c.index-units-index.is));
    }

pub returns : goal.returns
returns c = λ nodes.
    let ended : c.loop-index.index ≡ 0 = omega arith in
    ap (λ (t : Taken). t.owned.begun)
    (subst (λ (n : ℕ). taken_in c.loop-index.ends.items c.loop-index.ending.items c.loop-index.begun.items ≡ taken_by (map (unit_at nodes) (drop n c.args.units.now)) (reverse c.args.ends.items)) ended (c.loop-index.invariant.taken nodes))
