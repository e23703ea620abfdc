use Rattle.std.proofs.Common.{sym, ap, subst, ◌∙◌}
use Rattle.std.proofs.lemmas.Result.{on_ok_weaker}
use Rattle.flattened_trees.specs.Leads.{with_leads}
use Rattle.tree_flattener.specs.Apart.{IsLeadOf}
use Rattle.module_leads.specs.Leading.{leading, leading_in}
use Rattle.unit_flattener.specs.Walking.{world_at}
use Rattle.unit_flattener.proofs.Definitions.{puts-none}
use Rattle.unit_flattener.proofs.flattener.UnitFlattener.put_defined.Goals as goal

pub returns-in-None-clause-leads : goal.returns-in-None-clause-leads
returns-in-None-clause-leads c = λ x lead is same.
    let w = world_at c.args.written.now c.args.self.now in
    puts-none w x lead c.args.meanings.now (leading_in c.args.self.now.leads) (subst (λ local. IsLeadOf w x local lead) c.in-None.is is) same

pub returns-in-Some-clause-leads : goal.returns-in-Some-clause-leads
returns-in-Some-clause-leads c =
    let w = world_at c.args.written.now c.args.self.now in
    on_ok_weaker c.put_local.result
    (λ known x lead is same.
    known ∙ ap (λ l. leading (leading_in c.args.self.now.leads) (with_leads (leading_in c.args.self.now.leads).leads c.args.meanings.now l)) (sym (subst (λ local. IsLeadOf w x local lead) c.in-Some.is is)))
    c.put_local.ensures.leads
