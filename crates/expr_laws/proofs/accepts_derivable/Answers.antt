use Rattle.expr_laws.proofs.Complete.{derives-parses}
use Rattle.expr_laws.proofs.accepts_derivable.Goals as goal

pub returns : goal.returns
returns c = derives-parses
