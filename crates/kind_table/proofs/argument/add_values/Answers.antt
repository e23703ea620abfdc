use Rattle.std.proofs.Common.{None}
use Rattle.std.proofs.lemmas.List.{take_more}
use Rattle.kind_table.specs.Table.{IsValue}
use Rattle.kind_table.proofs.Equality.{adds_on, adds_value, adds-nothing}
use Rattle.kind_table.proofs.Growth.{adds_more, adds_none}
use Rattle.kind_table.proofs.argument.add_values.Goals as goal

pub loop-kind-init : goal.loop-kind-init
loop-kind-init c = record {
  added = adds_none c.args.arguments.now.keys c.args.frame.now.items c.requires.table c.requires.frame;
  only = adds-nothing IsValue c.args.arguments.now.keys;
}

pub loop-kind-preserved : goal.loop-kind-preserved
loop-kind-preserved c = record {
  added = rw (c.in_ok-push.ensures.items, take_more c.args.kinds.now c.loop-kind.kind-index None c.loop-kind-test.true) (adds_more c.in_ok-n.n _ c.loop-kind.invariant.added c.number.ensures.grows c.in_ok-n.ensures.stored);
  only = adds_on IsValue _ _ _ c.loop-kind.invariant.only c.number.ensures.grows (adds_value _ _ _ c.number.ensures.only);
}
