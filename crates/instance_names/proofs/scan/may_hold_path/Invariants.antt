use Rattle.module_model.specs.Instances.{path_start}
use Rattle.instance_names.proofs.Collecting.{NoneBefore}
use Rattle.instance_names.proofs.scan.may_hold_path.Given as goal

abbrev pub invariant-loop-node : goal.invariant-loop-node
invariant-loop-node l = NoneBefore path_start l.tree l.node
