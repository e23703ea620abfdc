use Rattle.std.proofs.Common.{◌∙◌, ap}
use Rattle.module_leads.specs.Faces.{first_faces}
use Rattle.module_leads.specs.Ways.{face_at}
use Rattle.module_leads.proofs.Numbered.{face-beyond, face-known}
use Rattle.module_leads.proofs.listed.face_below.Goals as goal

pub returns-then-number-limit-clause-known : goal.returns-then-number-limit-clause-known
returns-then-number-limit-clause-known c = λ listed. ap (face_at (first_faces listed c.args.limit)) c.in_ok-number.was ∙ face-known listed c.args.limit c.in_ok-number.number c.if-number-limit.true

pub returns-else-number-limit-clause-known : goal.returns-else-number-limit-clause-known
returns-else-number-limit-clause-known c = λ listed. face-beyond listed c.args.limit c.args.face c.in_ok-number.number c.in_ok-number.was c.if-number-limit.false
