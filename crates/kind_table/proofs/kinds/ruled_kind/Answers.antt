use Rattle.kind_table.proofs.Operands.{ruled-is}
use Rattle.kind_table.proofs.kinds.ruled_kind.Goals as goal

pub loop-place-init : goal.loop-place-init
loop-place-init c = ruled-is c.args.rule c.args.kinds.now
