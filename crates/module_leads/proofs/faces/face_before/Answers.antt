use Rattle.module_leads.proofs.Numbered.{face-before, face-beyond}
use Rattle.module_leads.proofs.faces.face_before.Goals as goal

pub returns-then-number-limit : goal.returns-then-number-limit
returns-then-number-limit c = face-beyond c.args.faces.now c.args.limit c.args.face c.in_ok-number.number c.in_ok-number.was c.if-number-limit.true

pub returns : goal.returns
returns c =
    face-before c.args.faces.now c.args.limit c.args.face c.in_ok-number.number c.index-faces-number.result c.in_ok-number.was c.if-number-limit.false c.requires
    c.index-faces-number.is
