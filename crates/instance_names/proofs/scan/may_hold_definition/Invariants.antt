use Rattle.module_model.specs.Instances.{named_instance}
use Rattle.instance_names.proofs.Collecting.{NoneBefore}
use Rattle.instance_names.proofs.scan.may_hold_definition.Given as goal

abbrev pub invariant-loop-node : goal.invariant-loop-node
invariant-loop-node l = NoneBefore named_instance l.tree l.node
