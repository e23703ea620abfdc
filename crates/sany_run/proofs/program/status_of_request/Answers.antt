use Rattle.sany_run.proofs.RunLemmas.{of-told}
use Rattle.sany_run.proofs.program.status_of_request.Goals as goal

pub returns-in-Some-Check-clause-answers : goal.returns-in-Some-Check-clause-answers
returns-in-Some-Check-clause-answers g c = rw (c.in-Some-Check.is, c.in-Some-Check.field-0-is) (rw c.as_str.ensures at c.status_of_check.ensures.answers)

pub returns-in-Some-Check-clause-some : goal.returns-in-Some-Check-clause-some
returns-in-Some-Check-clause-some g c = rw (c.in-Some-Check.is, c.in-Some-Check.field-0-is) (rw c.as_str.ensures at c.status_of_check.ensures.some)

pub returns-in-Some-Check-clause-ticks : goal.returns-in-Some-Check-clause-ticks
returns-in-Some-Check-clause-ticks g c = rw (c.in-Some-Check.is, c.in-Some-Check.field-0-is) (rw c.as_str.ensures at c.status_of_check.ensures.ticks)

pub returns-in-Some-Generate-clause-answers : goal.returns-in-Some-Generate-clause-answers
returns-in-Some-Generate-clause-answers g c = rw (c.in-Some-Generate.is, c.in-Some-Generate.field-0-is) (of-told (g.F.Folder.told c.args.folder.now) c.status_of_generated.ensures.answers)

pub returns-in-Some-Generate-clause-ticks : goal.returns-in-Some-Generate-clause-ticks
returns-in-Some-Generate-clause-ticks g c = rw (c.in-Some-Generate.is, c.in-Some-Generate.field-0-is) (of-told (g.F.Folder.told c.args.folder.now) c.status_of_generated.ensures.ticks)
