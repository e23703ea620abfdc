use Rattle.std.proofs.Common.{◌≡◌, ◌++◌, take, filter}
use Rattle.tla_model.specs.EntityKinds.{is_meant, stands_for_parameter}
use Rattle.module_model.specs.Exports.{of_symbols}
use Rattle.tree_names.specs.Parameters.{entries_in}
use Rattle.instance_leads.proofs.parameters.push_symbols.Given as goal

abbrev pub invariant-loop-op : goal.invariant-loop-op
invariant-loop-op l = entries_in l.found ≡ entries_in l.initial.found ++ of_symbols (filter (λ symbol. is_meant stands_for_parameter symbol.1) (take l.op-index l.symbols))
