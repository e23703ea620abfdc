use Rattle.std.proofs.Common.{◌≡◌, map, take}
use Rattle.fact_lines.specs.Rows.{row_of}
use Rattle.fact_lines.proofs.places.declared_places.Given as goal

abbrev pub invariant-loop-index : goal.invariant-loop-index
invariant-loop-index l = l.places ≡ map row_of (take l.index l.modules)
