use Rattle.std.proofs.Common.{◌≡◌, drop}
use Rattle.tla_model.specs.Tables.{lookup, same_symbol}
use Rattle.name_context.proofs.context.symbol_in.Given as goal

abbrev pub invariant-loop-entry : goal.invariant-loop-entry
invariant-loop-entry g l = lookup same_symbol (drop l.entry-index l.symbols) l.op ≡ lookup same_symbol l.symbols l.op
