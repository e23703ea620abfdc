use Rattle.std.proofs.Common.{sym, ap}
use Rattle.kind_table.proofs.Lookups.{instance_gone, instance_got}
use Rattle.level_text.specs.Depth as text
use Rattle.node_depths.proofs.forms.parameters_of.Goals as goal

pub returns-in-Some : goal.returns-in-Some
returns-in-Some c =
    sym (ap text.parameters_of (instance_got c.args.flat.now c.deref.result.now c.args.instance c.in-Some.instance.now c.deref.ensures.value c.in-Some.ensures.lookup.3.0 c.in-Some.ensures.lookup.1))

pub returns-in-None : goal.returns-in-None
returns-in-None c = sym (ap text.parameters_of (instance_gone c.args.flat.now c.deref.result.now c.args.instance c.deref.ensures.value c.in-None.ensures.lookup.3))
