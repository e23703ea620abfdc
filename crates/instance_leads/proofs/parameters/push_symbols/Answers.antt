use Rattle.std.proofs.Common.{arith}
use Rattle.tla_model.specs.EntityKinds.{stands_for_parameter}
use Rattle.module_model.specs.Exports.{of_symbols}
use Rattle.tree_names.specs.Parameters.{entries_in}
use Rattle.instance_leads.proofs.Naming.{grown-by, meant-append, symbols_meant}
use Rattle.instance_leads.proofs.parameters.push_symbols.Goals as goal

pub loop-op-preserved : goal.loop-op-preserved
loop-op-preserved c =
    grown-by (λ symbols. of_symbols (symbols_meant stands_for_parameter symbols)) (meant-append stands_for_parameter) (entries_in c.args.found.now) (entries_in c.loop-op.found) (entries_in c.push_symbol.new.found) c.args.symbols.now c.loop-op.op-index c.loop-op-item.result (omega arith)
    c.loop-op-item.is c.loop-op.invariant c.in_ok-push_symbol.ensures
