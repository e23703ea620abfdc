use Rattle.std.proofs.Common.{arith}
use Rattle.instance_leads.specs.Leading.{known_in}
use Rattle.instance_scope.specs.Scoped.{module_in}
use Rattle.instance_scope.proofs.NamedInstances.{named-next}
use Rattle.instance_scope.proofs.scope.Scope.leads_named.Goals as goal

pub loop-instance-preserved : goal.loop-instance-preserved
loop-instance-preserved c = record {
  given = c.in_ok-lead_named.ensures.given;
  known = named-next c.args.text.now (module_in c.args.self.now c.args.modules.now) c.args.instances.now c.loop-instance.instance-index _ (known_in c.args.self.now.nested.items c.loop-instance.more) (known_in c.args.self.now.nested.items c.lead_named.new.more) (omega arith)
      c.in_ok-lead_named.ensures.known c.loop-instance.invariant.known;
}
