use Rattle.std.proofs.Common.{◌∙◌, ap, subst, sym}
use Rattle.family_tables.specs.declared.reading.Reading.TheVariants as reading
use Rattle.family_levels.specs.Again.{IsFoundNext}
use Rattle.family_levels.specs.declared.names.Names.{Names}
use Rattle.family_levels.proofs.Exactly.{refused-exact}
use Rattle.family_levels.proofs.Steps.{fault-found}
use Rattle.family_levels.proofs.module.level_one.Goals as goal

pub returns-in_ok-made-in-Tree-clause-next : goal.returns-in_ok-made-in-Tree-clause-next
returns-in_ok-made-in-Tree-clause-next g c =
    let made = c.in_ok-made-in-Tree.made in
    let m = c.args.«module».now in
    subst (λ needs. IsFoundNext c.args.plan.now c.args.outcomes.now c.args.numbers.now c.args.name.now m.reading needs c.args.known made.0 made.1) c.as_slice-needs.ensures
    (subst (λ read. IsFoundNext c.args.plan.now c.args.outcomes.now c.args.numbers.now c.args.name.now read c.as_slice-needs.result.now c.args.known made.0 made.1) (ap (λ t. reading.Tree t) c.tree-tree.ensures ∙ sym c.in-Tree.is)
    c.in_ok-made-in-Tree.ensures.next)

pub returns-in_ok-names-in-Fault-clause-next : goal.returns-in_ok-names-in-Fault-clause-next
returns-in_ok-names-in-Fault-clause-next g c =
    let names = c.refused.ensures.names ∙ c.in_ok-names-in-Fault.ensures in
    let m = c.args.«module».now in
    subst (λ read. IsFoundNext c.args.plan.now c.args.outcomes.now c.args.numbers.now c.args.name.now read m.needs c.args.known c.args.known c.refused.result) (sym c.in-Fault.is)
    (fault-found c.leveled_is.ensures.front c.args.plan.now c.args.outcomes.now c.args.numbers.now c.args.known c.args.name.now c.in-Fault.fault m.needs c.in_ok-faults-in-Fault.faults c.in_ok-faults-in-Fault.ensures c.refused.result
    c.refused.ensures.outcome c.refused.ensures.number (ap (λ (n : Names). n.uses) names ∙ c.none.ensures.uses) (ap (λ (n : Names). n.decls) names ∙ c.none.ensures.decls))

pub returns-in_ok-names-in-Fault-clause-exact : goal.returns-in_ok-names-in-Fault-clause-exact
returns-in_ok-names-in-Fault-clause-exact g c = refused-exact c.refused.result.outcome c.in_ok-faults-in-Fault.faults c.refused.ensures.outcome
