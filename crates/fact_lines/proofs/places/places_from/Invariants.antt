use Rattle.std.proofs.Common.{◌≡◌, ◌++◌, drop, map}
use Rattle.text_cursor.specs.Cursors.{IsCursor}
use Rattle.text_cursor.specs.declared.cursor.Columns.TheVariants.{Characters}
use Rattle.fact_lines.specs.Lines.{name_place}
use Rattle.fact_lines.proofs.places.places_from.Given as goal

abbrev pub invariant-loop-binder : goal.invariant-loop-binder
invariant-loop-binder l = record {
  cursor : IsCursor Characters l.text l.cursor;
  places : l.places ++ map (name_place l.text) (drop l.binder-index l.binders) ≡ map (name_place l.text) l.binders;
}
