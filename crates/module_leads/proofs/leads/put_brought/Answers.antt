use Rattle.std.proofs.Common.{◌≡◌, ℕ, ◌+◌, ◌-◌, arith, drop, subst}
use Rattle.tree_names.specs.Parameters.{entries_in}
use Rattle.module_leads.specs.declared.ways.Way.TheVariants as way
use Rattle.module_leads.specs.Layers.{IsBrought, IsPut}
use Rattle.module_leads.proofs.Placed.{brought-more}
use Rattle.module_leads.proofs.leads.put_brought.Goals as goal

pub loop-index-preserved : goal.loop-index-preserved
loop-index-preserved c =
    let next : c.loop-index.index ≡ (c.loop-index.index - 1) + 1 = omega arith in
    record {
      within = omega arith;
      brought = brought-more c.args.layer.now c.loop-index.layer c.put.new.self c.args.entries.now (c.loop-index.index - 1) c.index-entries-index.result c.args.instance c.args.face
          (subst (λ (n : ℕ). IsBrought c.args.layer.now c.loop-index.layer (entries_in (drop n c.args.entries.now)) c.args.instance c.args.face) next c.loop-index.invariant.brought)
          (subst (λ name. IsPut c.loop-index.layer c.put.new.self c.index-entries-index.result.meaning (way.Through c.args.instance c.args.face name)) c.in_ok-name.ensures c.in_ok-put.ensures)
          (omega arith) c.index-entries-index.is;
    }
