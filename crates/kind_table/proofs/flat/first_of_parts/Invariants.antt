use Rattle.std.proofs.Common.{◌≡◌, take}
use Rattle.kind_table.specs.Flattened.{first_among}
use Rattle.kind_table.proofs.flat.first_of_parts.Given as goal

abbrev pub invariant-loop-part : goal.invariant-loop-part
invariant-loop-part l = l.first ≡ first_among l.firsts l.number (take l.part-index l.parts)
