use Rattle.std.proofs.Common.{◌+◌, ap, drop, subst, sym}
use Rattle.std.specs.Option.{option_copied}
use Rattle.list_laws.proofs.Lists.{drop-from}
use Rattle.module_model.specs.Exports.{of_symbols}
use Rattle.tla_model.specs.Tables.{Symbol}
use Rattle.name_exports.specs.Brought.{IsBringing, behind_through}
use Rattle.name_exports.proofs.Bringing.{bring-behind}
use Rattle.name_exports.proofs.instance.bring_symbols.Goals as goal

pub loop-op-preserved : goal.loop-op-preserved
loop-op-preserved c =
    let symbols = c.args.symbols.now in
    let i = c.loop-op.op-index in
    let unit = option_copied c.args.unit in
    let entry = c.loop-op-item.result in
    let rest = of_symbols (drop (i + 1) symbols) in
    let all = behind_through unit (of_symbols symbols) in
    subst (λ clash. IsBringing c.args.local c.args.names.now c.bring_entry.new.names clash (behind_through unit rest) all) (sym c.either-clash.ensures)
    (bring-behind c.args.local c.args.names.now c.loop-op.names c.bring_entry.new.names c.loop-op.clash c.in_ok-clashes.clashes unit
    (of_symbols (drop i symbols)) (Symbol entry.0) entry.1 rest all (ap of_symbols (drop-from symbols i entry c.loop-op-test.true c.loop-op-item.is)) c.loop-op.invariant c.in_ok-clashes.ensures)
