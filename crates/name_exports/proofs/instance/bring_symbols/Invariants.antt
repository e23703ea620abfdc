use Rattle.std.proofs.Common.{drop}
use Rattle.std.specs.Option.{option_copied}
use Rattle.module_model.specs.Exports.{of_symbols}
use Rattle.name_exports.specs.Brought.{IsBringing, behind_through}
use Rattle.name_exports.proofs.instance.bring_symbols.Given as goal

abbrev pub invariant-loop-op : goal.invariant-loop-op
invariant-loop-op l =
    IsBringing l.local l.initial.names l.names l.clash (behind_through (option_copied l.unit) (of_symbols (drop l.op-index l.symbols))) (behind_through (option_copied l.unit) (of_symbols l.symbols))
