use Rattle.std.proofs.Common.{◌≡◌, ◌++◌, drop}
use Rattle.std.specs.Prelude.{map}
use Rattle.unit_grammar.specs.UnitNodes.{unit_at}
use Rattle.module_model.specs.Instances.{paths_in}
use Rattle.instance_names.proofs.starts.all_paths.Given as goal

abbrev pub invariant-loop-unit : goal.invariant-loop-unit
invariant-loop-unit l = l.starts.items ++ paths_in (map (unit_at l.tree.tree) (drop l.unit-index l.tree.units)) ≡ paths_in (map (unit_at l.tree.tree) l.tree.units)
