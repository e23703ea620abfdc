use Rattle.std.proofs.Common.{arith}
use Rattle.name_context.specs.AsTables.{context_of}
use Rattle.instance_scope.proofs.EachOnce.{symbol-next}
use Rattle.instance_scope.proofs.ending.put_symbols.Goals as goal

pub put_symbol-requires : goal.put_symbol-requires
put_symbol-requires c =
    symbol-next (context_of c.args.context.now) c.args.own.now.symbols c.loop-op.own.symbols c.args.symbols.now c.loop-op.op-index c.loop-op-item.result c.requires (omega arith) c.loop-op-item.is c.loop-op.invariant.symbols
