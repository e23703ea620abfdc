use Rattle.std.proofs.Common.{drop, false}
use Rattle.module_model.specs.Exports.{of_symbols}
use Rattle.name_exports.specs.Brought.{IsBringing}
use Rattle.name_exports.proofs.extend.bring_symbols.Given as goal

abbrev pub invariant-loop-op : goal.invariant-loop-op
invariant-loop-op l = IsBringing false l.initial.names l.names l.clash (of_symbols (drop l.op-index l.symbols)) (of_symbols l.symbols)
