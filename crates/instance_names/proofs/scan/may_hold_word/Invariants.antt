use Rattle.instance_names.specs.Forms.{word_at}
use Rattle.instance_names.proofs.Collecting.{NoneBefore}
use Rattle.instance_names.proofs.scan.may_hold_word.Given as goal

abbrev pub invariant-loop-node : goal.invariant-loop-node
invariant-loop-node l = NoneBefore word_at l.tree l.node
