use Rattle.std.proofs.Common.{◌∙◌, sym}
use Rattle.module_leads.proofs.Keyed.{symbol-put}
use Rattle.module_leads.proofs.layer.put_symbol.Goals as goal

pub returns : goal.returns
returns c =
    symbol-put c.args.symbols.now c.insert.new.self c.args.meaning.now c.in-Some.key c.args.place c.place_end-end.result (sym c.in_ok-key.ensures ∙ c.in-Some.is)
    c.place_end-end.ensures c.in_ok-insert.ensures.updates
