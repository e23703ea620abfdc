use Rattle.std.proofs.Common.{◌≡◌, List, [], sym, subst, unwrap_or}
use Rattle.tla_model.specs.Entities.{same_decl}
use Rattle.tla_model.specs.Tables.{added}
use Rattle.module_model.specs.Exports.{and_known, behind_along, face_instances, known_as}
use Rattle.instance_leads.specs.declared.ended.Ended.{Ended}
use Rattle.instance_leads.specs.Found.{AreOfFace, IsOfFace}
use Rattle.instance_leads.specs.Keys.{decl_of}
use Rattle.instance_leads.specs.Leading.{known_in}
use Rattle.instance_leads.proofs.FaceLeads.{known-led, of-added, of-face}
use Rattle.instance_leads.proofs.Naming.{on-so}
use Rattle.instance_leads.proofs.imports.put_instance.Goals as goal

pub returns-clause-led : goal.returns-clause-led
returns-clause-led c =
    let put = decl_of c.as_str.result.now c.args.decl.now.place in
    let same : put ≡ c.args.decl.now = (λ i. decl_of (c.as_str.ensures i) c.args.decl.now.place) in
    on-so (c.put.new.self ≡ added same_decl c.args.more.now put c.led_on_face.result) (AreOfFace c.args.face.now c.put.new.self) c.put.result
    (λ is. subst (AreOfFace c.args.face.now) (sym is)
    (of-added c.args.face.now c.args.more.now put c.led_on_face.result c.requires.led
    (subst (λ z. IsOfFace c.args.face.now z c.led_on_face.result) (sym same) (of-face c.args.face.now c.args.decl.now c.led_on_face.result c.requires.there c.led_on_face.ensures))))
    c.put.ensures

pub returns-clause-known : goal.returns-clause-known
returns-clause-known c =
    let put = decl_of c.as_str.result.now c.args.decl.now.place in
    let same : put ≡ c.args.decl.now = (λ i. decl_of (c.as_str.ensures i) c.args.decl.now.place) in
    on-so (c.put.new.self ≡ added same_decl c.args.more.now put c.led_on_face.result)
    ((nested : List Ended) → known_in nested c.put.new.self ≡ and_known (known_in nested c.args.more.now) (known_as c.args.decl.now (behind_along (face_instances c.args.face.now) (unwrap_or (face_instances c.args.face.now c.args.decl.now) [])))) c.put.result
    (λ is nested. known-led nested c.args.face.now c.args.more.now c.put.new.self c.args.decl.now put c.led_on_face.result same c.led_on_face.ensures is)
    c.put.ensures
