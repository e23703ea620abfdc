use Rattle.std.proofs.Common.{◌≡◌, ◌++◌, drop}
use Rattle.module_model.specs.Exports.{of_symbols}
use Rattle.tree_names.specs.Parameters.{entries_in}
use Rattle.module_leads.proofs.entries.push_symbols.Given as goal

abbrev pub invariant-loop-op : goal.invariant-loop-op
invariant-loop-op l = entries_in l.entries ++ of_symbols (drop l.op-index l.symbols) ≡ entries_in l.fn.entries ++ of_symbols l.symbols
