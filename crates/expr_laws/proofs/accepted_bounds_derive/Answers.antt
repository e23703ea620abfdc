use Rattle.expr_laws.proofs.Soundness.{accepted-bounds}
use Rattle.expr_laws.proofs.accepted_bounds_derive.Goals as goal

pub returns : goal.returns
returns c = λ bounds lexemes e. accepted-bounds lexemes bounds e
