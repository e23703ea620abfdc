use Rattle.std.proofs.Common.{◌≡◌, ◌++◌, ◌-◌, ◌<◌, ◌≤◌, drop, length}
use Rattle.std.specs.Str.{IsCharBoundary}
use Rattle.std.specs.List.{All}
use Rattle.tla_symbols.specs.declared.lexeme.Lexeme.{Lexeme}
use Rattle.tla_lexeme.specs.Spans.{IsPlaced}
use Rattle.tla_text.specs.Places.{place_at}
use Rattle.tla_text.specs.declared.Measure.TheVariants.{Alignment}
use Rattle.tla_lexeme.specs.Lengths.{bare_len}
use Rattle.tla_lexeme.specs.Lexing.{lexemes_after}
use Rattle.tla_lexeme.specs.ModulePart.{up_to_close, part_from}
use Rattle.tla_lexeme.proofs.part.part_from.Given as goal

abbrev pub invariant-lexemes : goal.invariant-lexemes
invariant-lexemes l = record {
  at_char : IsCharBoundary l.text l.at;
  seen_char : IsCharBoundary l.text l.seen;
  order : l.seen ≤ l.at;
  known : l.place ≡ place_at Alignment l.text l.seen;
  bare : 0 < l.bare → l.bare ≡ bare_len (drop l.at l.text);
  words : l.counts.words ≤ l.at;
  runs : l.counts.runs ≤ l.at;
  placed : All (λ (x : Lexeme). IsPlaced l.text x.span) l.found;
  lexemes : l.found ++ up_to_close l.counts.words l.counts.runs (lexemes_after l.text l.at 0 (drop l.at l.text)) ≡ part_from l.text l.start;
}

abbrev pub decreases-lexemes : goal.decreases-lexemes
decreases-lexemes l = length l.text - l.at
