use Rattle.std.proofs.Common.{◌≡◌, ◌+◌, drop}
use Rattle.std.specs.List.{prefix_len}
use Rattle.tla_lexeme.specs.Lengths.{goes_on}
use Rattle.tla_lexeme.proofs.sign.goes_on_len.Given as goal

abbrev pub invariant-loop-i : goal.invariant-loop-i
invariant-loop-i l = l.i + prefix_len (goes_on l.first) (drop l.i l.more) ≡ prefix_len (goes_on l.first) l.more
