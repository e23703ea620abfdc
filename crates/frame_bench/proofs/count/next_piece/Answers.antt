use Rattle.std.proofs.Common.{drop, sym}
use Rattle.std.proofs.lemmas.List.{take-append-drop}
use Rattle.frame_bench.proofs.count.next_piece.Goals as goal

pub returns-else-bytes-size-clause-front : goal.returns-else-bytes-size-clause-front
returns-else-bytes-size-clause-front c =
    (drop c.args.size c.args.bytes.now, sym (take-append-drop c.args.size c.args.bytes.now))
