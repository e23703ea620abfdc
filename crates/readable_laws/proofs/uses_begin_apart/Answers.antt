use Rattle.std.proofs.Common.{arith}
use Rattle.lexeme_laws.specs.Apart.{begins_at}
use Rattle.readable_laws.proofs.Counts.{module-few}
use Rattle.readable_laws.proofs.uses_begin_apart.Goals as goal

pub returns : goal.returns
returns c = λ name bytes units files front start. omega (arith, module-few (begins_at start) files bytes units, c.names_begin_apart.ensures.held name bytes units front start)
