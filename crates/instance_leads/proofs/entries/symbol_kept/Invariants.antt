use Rattle.std.proofs.Common.{◌≡◌, drop, filter}
use Rattle.tla_model.specs.EntityKinds.{is_meant}
use Rattle.tla_model.specs.Tables.{lookup, same_symbol}
use Rattle.instance_leads.specs.Found.{of_kind}
use Rattle.instance_leads.proofs.entries.symbol_kept.Given as goal

abbrev pub invariant-loop-entry : goal.invariant-loop-entry
invariant-loop-entry l =
    lookup same_symbol (filter (λ symbol. is_meant (of_kind l.kind) symbol.1) (drop l.entry-index l.symbols)) l.op ≡ lookup same_symbol (filter (λ symbol. is_meant (of_kind l.kind) symbol.1) l.symbols) l.op
