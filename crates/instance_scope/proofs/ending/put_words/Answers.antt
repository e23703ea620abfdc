use Rattle.std.proofs.Common.{arith}
use Rattle.name_context.specs.AsTables.{context_of}
use Rattle.instance_scope.proofs.EachOnce.{word-next}
use Rattle.instance_scope.proofs.ending.put_words.Goals as goal

pub put_word-requires : goal.put_word-requires
put_word-requires c =
    word-next (context_of c.args.context.now) c.args.own.now.words c.loop-word.own.words c.args.words.now c.loop-word.word-index c.loop-word-item.result c.requires (omega arith) c.loop-word-item.is c.loop-word.invariant.words
