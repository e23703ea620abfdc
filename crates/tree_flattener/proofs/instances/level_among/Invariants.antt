use Rattle.std.proofs.Common.{◌≡◌, drop, map}
use Rattle.name_context.specs.AsTables.{meant_by}
use Rattle.module_model.specs.Exports.{entry_of}
use Rattle.tree_names.specs.Parameters.{entry_in}
use Rattle.tree_flattener.proofs.instances.level_among.Given as goal

abbrev pub invariant-loop-parameter : goal.invariant-loop-parameter
invariant-loop-parameter l = entry_of (map entry_in (drop l.parameter-index l.parameters)) (meant_by l.name) ≡ entry_of (map entry_in l.parameters) (meant_by l.name)
