use Rattle.std.proofs.Common.{◌≡◌, ◌≤◌, length}
use Rattle.tla_lexeme.specs.LexemeSets.{table_kind}
use Rattle.tla_lexeme.specs.Lexing.{longest_of}
use Rattle.tla_lexeme.proofs.table.longest_spelled.Given as goal

abbrev pub invariant-loop-len : goal.invariant-loop-len
invariant-loop-len l = (longest_of table_kind l.len l.text ≡ longest_of table_kind l.most l.text) × (l.len ≤ length l.text)

abbrev pub decreases-loop-len : goal.decreases-loop-len
decreases-loop-len l = l.len
