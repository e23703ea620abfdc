use Rattle.std.proofs.Common.{◌≡◌, ◌+◌, ◌*◌, ◌≤◌, length}
use Rattle.std.specs.Str.{chars, IsUtf8}
use Rattle.tla_text.specs.Places.{place_after}
use Rattle.tla_text.proofs.columns.place_behind.Given as goal

abbrev pub invariant-loop-c : goal.invariant-loop-c
invariant-loop-c l = record {
  utf8 : IsUtf8 l.rest;
  place : place_after l.measure l.place (chars l.rest) (chars l.after) ≡ place_after l.measure l.fn.place (chars l.piece) (chars l.after);
  lines : l.place.line + length l.rest ≤ l.fn.place.line + length l.piece;
  columns : l.place.column + 8 * length l.rest ≤ l.fn.place.column + 8 * length l.piece;
}

abbrev pub decreases-loop-c : goal.decreases-loop-c
decreases-loop-c l = length l.rest
