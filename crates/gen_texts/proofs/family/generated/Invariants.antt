use Rattle.std.proofs.Common.{◌≡◌}
use Rattle.gen_texts.specs.Generated.{generated}
use Rattle.gen_texts.proofs.family.generated.Given as goal

abbrev pub invariant-loop-number : goal.invariant-loop-number
invariant-loop-number l = l.files ≡ generated l.number
