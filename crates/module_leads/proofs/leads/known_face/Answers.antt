use Rattle.std.proofs.Common.{length, sym}
use Rattle.module_leads.proofs.Numbered.{face-beyond}
use Rattle.module_leads.proofs.leads.known_face.Goals as goal

pub returns-else-number-faces-clause-same : goal.returns-else-number-faces-clause-same
returns-else-number-faces-clause-same c = sym (face-beyond c.args.faces.now (length c.args.faces.now) c.args.face c.in_ok-number.number c.in_ok-number.was c.if-number-faces.false)
