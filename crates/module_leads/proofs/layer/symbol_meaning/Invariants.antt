use Rattle.std.proofs.Common.{◌≡◌, drop}
use Rattle.module_leads.specs.Brought.{symbol_meaning}
use Rattle.module_leads.proofs.layer.symbol_meaning.Given as goal

abbrev pub invariant-loop-op : goal.invariant-loop-op
invariant-loop-op l = symbol_meaning (drop l.op-index l.symbols) l.meaning ≡ symbol_meaning l.symbols l.meaning
