use Rattle.module_model.specs.Exports.{of_symbols, of_words}
use Rattle.std.proofs.Common.{subst}
use Rattle.module_leads.specs.Faces.{HasWays}
use Rattle.module_leads.specs.Layers.{way_by}
use Rattle.module_leads.proofs.Tabled.{ways-both}
use Rattle.module_leads.proofs.leads.put_table.Goals as goal

pub returns : goal.returns
returns c =
    let ways = way_by c.args.round.now c.args.here.now in
    ways-both c.args.names.now c.put_words.new.names c.put_symbols.new.names ways (of_words c.args.table.now.words) (of_symbols c.args.table.now.symbols) c.in_ok-put_words.ensures
    (subst (λ symbols. HasWays c.put_words.new.names c.put_symbols.new.names ways (of_symbols symbols)) c.symbols.ensures c.in_ok-put_symbols.ensures)
