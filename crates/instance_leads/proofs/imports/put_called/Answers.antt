use Rattle.std.proofs.Common.{◌≡◌, ◌∙◌, List, ◌∷◌, [], ap, refl, unwrap_or}
use Rattle.tla_model.specs.declared.names.Meaning.TheVariants.{Declared}
use Rattle.module_model.specs.Exports.{and_known, behind_along, face_instances, known_as}
use Rattle.instance_leads.specs.declared.ended.Ended.{Ended}
use Rattle.instance_leads.specs.Found.{known_here}
use Rattle.instance_leads.specs.Leading.{known_in}
use Rattle.instance_leads.proofs.FaceLeads.{meant-here}
use Rattle.instance_leads.proofs.Naming.{on-so}
use Rattle.instance_leads.proofs.imports.put_called.Goals as goal

pub returns-in-Instance-clause-known : goal.returns-in-Instance-clause-known
returns-in-Instance-clause-known c =
    let meaning = Declared c.args.entity.now c.args.callee.now in
    let decl = c.args.callee.now.decl in
    on-so ((nested : List Ended) → known_in nested c.put_instance.new.more ≡ and_known (known_in nested c.args.more.now) (known_as decl (behind_along (face_instances c.args.face.now) (unwrap_or (face_instances c.args.face.now decl) []))))
    ((nested : List Ended) → known_in nested c.put_instance.new.more ≡ and_known (known_in nested c.args.more.now) (known_here c.args.face.now (meaning ∷ []))) c.put_instance.result
    (λ known nested. known nested ∙ ap (and_known (known_in nested c.args.more.now)) (meant-here c.args.face.now meaning c.args.entity.now c.args.callee.now _ refl c.in-Instance.is))
    c.put_instance.ensures.known
