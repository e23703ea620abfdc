use Rattle.std.proofs.Common.{arith}
use Rattle.tree_names.specs.Parameters.{entry_in}
use Rattle.module_leads.proofs.Pairing.{seen-at, seen-next}
use Rattle.module_leads.proofs.same.are_same_parameters.Goals as goal

pub returns-then-not-is_same_parameter : goal.returns-then-not-is_same_parameter
returns-then-not-is_same_parameter c = λ same.
    c.if-not-is_same_parameter.ensures
    (seen-at entry_in c.args.one.now c.args.other.now c.loop-index.index c.index-one-index.result c.index-other-index.result c.loop-index-test.true (omega (arith, c.loop-index-test.true, c.if-one-other.false)) c.index-one-index.is c.index-other-index.is
    same)

pub loop-index-preserved : goal.loop-index-preserved
loop-index-preserved c =
    seen-next entry_in c.args.one.now c.args.other.now c.loop-index.index c.index-one-index.result c.index-other-index.result c.loop-index-test.true (omega (arith, c.loop-index-test.true, c.if-one-other.false)) c.index-one-index.is c.index-other-index.is
    c.if-not-is_same_parameter.ensures c.loop-index.invariant
