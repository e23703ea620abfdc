use Rattle.std.proofs.Common.{◌+◌, ap, drop}
use Rattle.module_model.specs.Exports.{of_symbols}
use Rattle.list_laws.proofs.Lists.{drop-from}
use Rattle.tla_model.specs.Tables.{Symbol}
use Rattle.module_leads.specs.Layers.{way_by}
use Rattle.module_leads.proofs.Tabled.{puts-first}
use Rattle.module_leads.proofs.leads.put_symbols.Goals as goal

pub loop-op-preserved : goal.loop-op-preserved
loop-op-preserved c =
    let symbols = c.args.symbols.now in
    let i = c.loop-op.op-index in
    let item = c.loop-op-item.result in
    puts-first c.args.names.now c.loop-op.names c.put.new.self (way_by c.args.round.now c.args.here.now) (of_symbols (drop i symbols)) (of_symbols (drop (i + 1) symbols)) (of_symbols symbols) (Symbol item.0) item.1 c.in_ok-way.way
    (ap of_symbols (drop-from symbols i item c.loop-op-test.true c.loop-op-item.is)) c.in_ok-way.ensures c.in_ok-put.ensures c.loop-op.invariant
