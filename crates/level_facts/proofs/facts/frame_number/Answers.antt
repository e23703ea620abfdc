use Rattle.std.proofs.Common.{sym}
use Rattle.level_facts.proofs.Keeping.{number_found}
use Rattle.level_facts.proofs.facts.frame_number.Goals as goal

pub returns-in-Some-clause-number : goal.returns-in-Some-clause-number
returns-in-Some-clause-number c = number_found c.args.frames.now.keys c.in-Some.n c.args.frame.now c.in-Some.ensures.within (sym c.in-Some.ensures.index)
