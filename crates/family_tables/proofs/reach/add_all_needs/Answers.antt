use Rattle.std.proofs.Common.{◌≤◌, subst, sym}
use Rattle.std.specs.Prelude.{Contains}
use Rattle.family_tables.proofs.Reaching.{needs-all, needs-more}
use Rattle.family_tables.proofs.reach.add_all_needs.Goals as goal

pub loop-index-preserved : goal.loop-index-preserved
loop-index-preserved c =
    let inv = c.loop-index.invariant in
    let ensures = c.in_ok-add_names.ensures in
    record {
      kept = λ other h. ensures.kept other (inv.kept other h);
      needs = needs-more c.args.modules.now c.loop-index.index (c.at.result.0.now, c.at.result.1.now) c.loop-index.names c.add_names.new.names c.at.ensures ensures.kept
          (λ other h. ensures.added other (subst (λ ns. Contains ns other) (sym c.as_slice.ensures) h)) inv.needs;
    }

pub returns-clause-kept : goal.returns-clause-kept
returns-clause-kept c = c.loop-index.invariant.kept

pub returns-clause-closed : goal.returns-clause-closed
returns-clause-closed c = needs-all c.args.modules.now c.loop-index.index c.loop-index.names (subst (λ n. n ≤ c.loop-index.index) c.len-index-end.ensures c.loop-index-test.false) c.loop-index.invariant.needs
