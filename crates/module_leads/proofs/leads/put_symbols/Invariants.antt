use Rattle.std.proofs.Common.{drop}
use Rattle.module_model.specs.Exports.{of_symbols}
use Rattle.module_leads.specs.Layers.{way_by}
use Rattle.module_leads.proofs.Tabled.{Lacks}
use Rattle.module_leads.proofs.leads.put_symbols.Given as goal

abbrev pub invariant-loop-op : goal.invariant-loop-op
invariant-loop-op l = Lacks l.fn.names l.names (way_by l.round l.here) (of_symbols (drop l.op-index l.symbols)) (of_symbols l.symbols)
