use Rattle.std.proofs.Common.{subst}
use Rattle.family_tables.specs.Plans.{IsCycles}
use Rattle.family_tables.proofs.Graphs.{cyclic-answer, no-need-cyclic}
use Rattle.family_tables.proofs.order.Plan.is_cyclic.Goals as goal

pub returns-in-Some : goal.returns-in-Some
returns-in-Some c modules plan n =
    let cycles = subst (IsCycles modules) c.in-Some.is plan.cycles in
    cyclic-answer modules c.in-Some.graph cycles c.args.name.now c.args.need.now c.is_cyclic_in.result c.is_cyclic_in.ensures

pub returns-in-None : goal.returns-in-None
returns-in-None c modules plan n = no-need-cyclic modules c.args.name.now c.args.need.now (subst (IsCycles modules) c.in-None.is plan.cycles) n
