use Rattle.std.proofs.Common.{subst}
use Rattle.name_graph.specs.Family.{HasFault}
use Rattle.family_tables.specs.Plans.{NeedsBefore}
use Rattle.family_tables.proofs.Graphs.{no-fault, order-is}
use Rattle.family_tables.proofs.order.order_without.Goals as goal

pub returns-in-Ok : goal.returns-in-Ok
returns-in-Ok c = order-is c.args.modules.now (NeedsBefore c.args.modules.now) c.in_ok-without.without c.in-Ok.order c.in_ok-without.ensures (λ name need n. n) c.in-Ok.ensures.order

pub unreachable-requires : goal.unreachable-requires
unreachable-requires c =
    let fault = subst (λ f. HasFault c.in_ok-without.without f) c.in-Err-Cyclic.field-0-is c.in-Err-Cyclic.ensures.fault in
    no-fault c.args.modules.now c.in_ok-without.without c.in-Err-Cyclic.field-0-0 c.in_ok-without.ensures fault.cyclic
