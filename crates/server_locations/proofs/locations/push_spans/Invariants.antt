use Rattle.std.proofs.Common.{◌≡◌, ◌++◌, drop, map}
use Rattle.text_cursor.specs.Cursors.{IsCursor}
use Rattle.text_cursor.specs.declared.cursor.Columns.TheVariants.{Utf16}
use Rattle.server_locations.specs.Locations.{location}
use Rattle.server_locations.proofs.locations.push_spans.Given as goal

abbrev pub invariant-loop-span : goal.invariant-loop-span
invariant-loop-span l = record {
  cursor : IsCursor Utf16 l.text l.cursor;
  places : l.places ++ map (location l.uri l.text) (drop l.span-index l.spans) ≡ l.fn.places ++ map (location l.uri l.text) l.spans;
}
