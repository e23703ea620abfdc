use Rattle.rpc_frame.proofs.Fronts.{bad_at, unfinished_found}
use Rattle.rpc_frame.proofs.header.Progress.found.Goals as goal

pub returns-in-None : goal.returns-in-None
returns-in-None c =
    bad_at c.args.bytes.now c.args.self c.requires.read c.requires.stopped c.if-self-bytes.true c.in-None.ensures

pub returns-in-None-2 : goal.returns-in-None-2
returns-in-None-2 c =
    unfinished_found c.args.bytes.now c.args.self c.requires.read c.if-self-bytes.false c.in-None-2.ensures
