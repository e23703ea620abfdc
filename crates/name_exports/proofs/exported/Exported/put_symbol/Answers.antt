use Rattle.std.proofs.Common.{[], ◌∙◌, ap, subst, sym}
use Rattle.tla_model.specs.Tables.{AreNew, lookup, same_symbol}
use Rattle.tla_model.proofs.Stretching.{new-more}
use Rattle.name_context.proofs.Looking.{none-copied}
use Rattle.name_exports.proofs.exported.Exported.put_symbol.Goals as goal

pub invariant_of-self-2 : goal.invariant_of-self-2
invariant_of-self-2 c =
    let absent = ap (λ z. lookup same_symbol z c.args.op) (sym c.as_slice.ensures.value) ∙ sym c.symbol_in.ensures ∙ none-copied c.symbol_in.result (sym c.if-is_some.ensures) in
    (c.self.invariant.0, subst (AreNew same_symbol []) (sym c.in_ok-push.ensures.items) (new-more same_symbol [] c.self.inside.symbols.items c.args.op c.args.meaning c.self.invariant.1 absent))
