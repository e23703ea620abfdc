use Rattle.std.proofs.Common.{◌∙◌, sym, arith}
use Rattle.tla_model.specs.Tables.{lookup, same_symbol}
use Rattle.instance_leads.specs.Found.{of_kind}
use Rattle.instance_leads.proofs.Naming.{symbol-here, symbol-next, symbols_meant}
use Rattle.instance_leads.proofs.entries.symbol_kept.Goals as goal

pub returns-then-is_this : goal.returns-then-is_this
returns-then-is_this c =
    symbol-here (of_kind c.args.kind) c.args.symbols.now c.loop-entry.entry-index c.entry-item.result c.args.op (lookup same_symbol (symbols_meant (of_kind c.args.kind) c.args.symbols.now) c.args.op) (omega arith)
    c.entry-item.is (sym c.is_this.ensures ∙ c.if-is_this.true) c.loop-entry.invariant

pub loop-entry-preserved : goal.loop-entry-preserved
loop-entry-preserved c =
    symbol-next (of_kind c.args.kind) c.args.symbols.now c.loop-entry.entry-index c.entry-item.result c.args.op (lookup same_symbol (symbols_meant (of_kind c.args.kind) c.args.symbols.now) c.args.op) (omega arith)
    c.entry-item.is (sym c.is_this.ensures ∙ c.if-is_this.false) c.loop-entry.invariant
