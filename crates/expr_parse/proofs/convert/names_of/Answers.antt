use Rattle.std.proofs.Common.{subst, ◌<◌, arith}
use Rattle.std.specs.List.{AllByRecursion}
use Rattle.std.proofs.lemmas.Bool.Decides.{nat_tests}
use Rattle.expr_parse.proofs.Renaming.{names-step, names-whole}
use Rattle.expr_parse.proofs.convert.names_of.Goals as goal

pub loop-index-preserved : goal.loop-index-preserved
loop-index-preserved c = record {
  below = grind (arith, nat_tests, c.loop-index-test.true);
  count = c.loop-index.invariant.count;
  names =
      names-step _ _ _ c.args.tuple c.loop-index.index _ _ _ _ c.requires (grind (arith, nat_tests, c.loop-index-test.true, c.loop-index.invariant.count)) c.loop-index.invariant.names c.child_at-entry.ensures.child c.child_at-entry.ensures.before c.in_ok-name_node.ensures c.in_ok-push.ensures.items;
}

pub returns : goal.returns
returns c =
    names-whole _ _ c.args.tuple c.loop-index.index _ c.requires
    (subst (λ ks. AllByRecursion (λ child. child < c.args.tuple) ks) c.children-count.ensures.children c.children-count.ensures.before)
    (omega (arith, c.loop-index-test.false, c.loop-index.invariant.below, c.loop-index.invariant.count)) c.loop-index.invariant.names
