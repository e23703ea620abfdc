use Rattle.expr_laws.proofs.Soundness.{accepted-derives}
use Rattle.expr_laws.proofs.accepted_derives.Goals as goal

pub returns : goal.returns
returns c = λ tree lexemes e. accepted-derives lexemes tree e
