use Rattle.expr_laws.proofs.Following.{before-quiet}
use Rattle.expr_laws.proofs.ends_before_quiet.Goals as goal

pub returns : goal.returns
returns c tree lexemes inner follows next d q = before-quiet d next q
