use Rattle.std.proofs.Common.{◌≡◌, take, map}
use Rattle.module_model.specs.NamedModules.{known_named}
use Rattle.instance_names.specs.Named.{named_as}
use Rattle.instance_leads.specs.Leading.{known_in}
use Rattle.instance_scope.specs.Scoped.{AreGiven, module_in}
use Rattle.instance_scope.proofs.scope.Scope.leads_named.Given as goal

abbrev pub invariant-loop-instance : goal.invariant-loop-instance
invariant-loop-instance l = record {
  given : AreGiven l.self l.more;
  known : known_in l.self.nested.items l.more ≡ known_named l.text (module_in l.self l.modules) (map named_as (take l.instance-index l.instances));
}
