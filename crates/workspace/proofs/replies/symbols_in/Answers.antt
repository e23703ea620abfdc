use Rattle.workspace.proofs.Outlining.{front-of-tree}
use Rattle.workspace.proofs.replies.symbols_in.Goals as goal

pub symbols_of-requires-clause-front : goal.symbols_of-requires-clause-front
symbols_of-requires-clause-front c = (c.args.name.now, front-of-tree c.args.name.now c.args.bytes.now c.in-Ok-read.text c.in-Ok.tree c.in-Ok-read.ensures.0 c.in-Ok.ensures.tree)
