use Rattle.std.proofs.Common.{arith}
use Rattle.std.proofs.lemmas.Bool.Decides.{nat_tests}
use Rattle.instance_parts.proofs.reached.Gathering.reach_all.Goals as goal

pub reach_seen-requires-clause-done : goal.reach_seen-requires-clause-done
reach_seen-requires-clause-done c = λ number ended within. c.loop-left.invariant.done number ended (grind (arith, nat_tests, within, c.loop-left-test.true))

pub returns-clause-done : goal.returns-clause-done
returns-clause-done c = λ number ended within. c.loop-left.invariant.done number ended (grind (arith, nat_tests, c.loop-left-test.false))
