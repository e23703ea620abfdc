use Rattle.std.proofs.Common.{◌≡◌, ◌-◌, ◌<◌, ◌≤◌, drop, length}
use Rattle.std.specs.Str.{IsCharBoundary}
use Rattle.tla_lexeme.specs.Lengths.{bare_len}
use Rattle.tla_lexeme.specs.Lexing.{lexemes_after}
use Rattle.tla_lexeme.proofs.part.behind_gap.Given as goal

abbrev pub invariant-loop-at : goal.invariant-loop-at
invariant-loop-at l = record {
  at_char : IsCharBoundary l.text l.at;
  further : l.start ≤ l.at;
  bare : 0 < l.bare → l.bare ≡ bare_len (drop l.at l.text);
  lexemes : lexemes_after l.text l.start 0 (drop l.start l.text) ≡ lexemes_after l.text l.at 0 (drop l.at l.text);
}

abbrev pub decreases-loop-at : goal.decreases-loop-at
decreases-loop-at l = length l.text - l.at
