use Rattle.std.proofs.Common.{rules}
use Rattle.module_leads.proofs.Likeness.{symbol-at}
use Rattle.module_leads.proofs.faces.symbol_named.Goals as goal

pub returns : goal.returns
returns g c = symbol-at c.args.symbols.now c.args.index c.in_ok-op.field-0.now (search (rules, c.in_ok-op.ensures.lookup.0)) c.in_ok-op.ensures.lookup.1
