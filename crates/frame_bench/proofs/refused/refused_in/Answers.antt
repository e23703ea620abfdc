use Rattle.std.proofs.Common.{true, false}
use Rattle.frame_bench.proofs.Walk.{one_refused}
use Rattle.frame_bench.proofs.refused.refused_in.Goals as goal

pub returns-in-Ok-true-clause-counted : goal.returns-in-Ok-true-clause-counted
returns-in-Ok-true-clause-counted c =
    one_refused c.args.task c.args.content.now c.in-Ok-true.field-0 true c.in-Messages.is c.in-Ok-true.field-0-test c.in-Ok-true.ensures

pub returns-in-Ok-false-clause-counted : goal.returns-in-Ok-false-clause-counted
returns-in-Ok-false-clause-counted c =
    one_refused c.args.task c.args.content.now c.in-Ok-false.field-0 false c.in-Messages.is c.in-Ok-false.field-0-test c.in-Ok-false.ensures
