use Rattle.std.proofs.Common.{◌≡◌, take}
use Rattle.flattened_units.specs.Units.{meanings_of}
use Rattle.tree_names.specs.Parameters.{entries_in}
use Rattle.unit_flattener.proofs.meanings.meanings_of.Given as goal

abbrev pub invariant-loop-parameter : goal.invariant-loop-parameter
invariant-loop-parameter l = l.meanings ≡ meanings_of (entries_in (take l.parameter-index l.parameter-items))
