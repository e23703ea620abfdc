use Rattle.fact_lines.proofs.Telling.{line-tells}
use Rattle.fact_lines.proofs.laws.places_are_declared.Goals as goal

pub returns : goal.returns
returns c family modules found distinct are = line-tells c.one_front.ensures.same family modules are found
