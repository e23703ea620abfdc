use Rattle.std.proofs.Common.{map}
use Rattle.kind_table.specs.Table.{picked, value_at}
use Rattle.kind_table.proofs.Operands.{ruled-is}
use Rattle.kind_table.proofs.kinds.operation_kind.Goals as goal

pub loop-place-init : goal.loop-place-init
loop-place-init c = ruled-is c.args.rule (map (value_at c.args.arguments.now.keys) (map (picked c.args.start c.args.found.now) c.args.nodes.now))
