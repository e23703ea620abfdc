use Rattle.std.proofs.Common.{◌≡◌, map, take}
use Rattle.fact_lines.specs.Rows.{line_by}
use Rattle.fact_lines.proofs.places.fact_lines.Given as goal

abbrev pub invariant-loop-found : goal.invariant-loop-found
invariant-loop-found l = l.lines ≡ map (line_by l.places) (take l.found-index l.uses)
