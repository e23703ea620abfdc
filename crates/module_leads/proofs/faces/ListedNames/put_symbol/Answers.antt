use Rattle.std.proofs.Common.{◌∙◌, ap, refl, sym}
use Rattle.std.specs.Prelude.{is_some}
use Rattle.tla_model.specs.Tables.{Symbol, lookup, same_symbol}
use Rattle.module_leads.proofs.Putting.{some-copied, symbol-pushed, there-stays}
use Rattle.module_leads.proofs.faces.ListedNames.put_symbol.Goals as goal

pub returns-then-is_some : goal.returns-then-is_some
returns-then-is_some c =
    there-stays c.args.self.now (Symbol c.args.op) c.args.way
    (ap (λ z. is_some (lookup same_symbol z c.args.op)) (sym c.as_slice.ensures.value) ∙ ap is_some (sym c.symbol_in.ensures) ∙ some-copied c.symbol_in.result (sym c.if-is_some.ensures))

pub returns : goal.returns
returns c = symbol-pushed c.args.self.now (record c.args.self.now { symbols = c.push.new.self }) c.args.op c.args.way refl c.in_ok-push.ensures.items
