use Rattle.std.proofs.Common.{arith}
use Rattle.std.proofs.lemmas.Bool.Decides.{nat_tests}
use Rattle.family_levels.proofs.Needs.{all-needed}
use Rattle.family_levels.proofs.versions.ids_needed.Goals as goal

pub returns : goal.returns
returns c = all-needed c.args.versions.now c.loop-index.index c.loop-index.ids.keys (grind (arith, nat_tests, c.loop-index-test.false, c.len-index-end.ensures)) c.loop-index.invariant
