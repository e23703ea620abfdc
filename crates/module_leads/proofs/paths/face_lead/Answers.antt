use Rattle.std.proofs.Common.{◌∙◌, ap, length, map, subst, sym}
use Rattle.std.specs.Prelude.{MatchOption}
use Rattle.name_context.specs.AsTables.{meant_by}
use Rattle.module_leads.specs.Faces.{faces_of}
use Rattle.module_leads.specs.Paths.{IsWayBefore, LeadsNowhere}
use Rattle.module_leads.specs.Ways.{face_at, found_way}
use Rattle.module_leads.proofs.Numbered.{face-none}
use Rattle.module_leads.proofs.paths.face_lead.Goals as goal

pub returns-in_default : goal.returns-in_default
returns-in_default c =
    let leads = (face_at (faces_of c.args.faces.now) c.args.face).leads in
    c.nowhere.ensures ∙ sym (ap (λ names. leads (map meant_by names)) c.in_default.ensures ∙ face-none c.args.faces.now (length c.args.faces.now) c.args.face)

pub returns-in_default-found : goal.returns-in_default-found
returns-in_default-found c =
    let leads = (face_at (faces_of c.args.faces.now) c.args.face).leads in
    let name = meant_by c.in-Some.name in
    let limit = length c.args.faces.now in
    let none : LeadsNowhere c.args.faces.now limit c.args.face name = subst (λ o. MatchOption o (LeadsNowhere c.args.faces.now limit c.args.face name)
    (λ f. IsWayBefore c.args.faces.now limit c.args.face name f.0 (found_way f.1))) c.in_default-found.is c.in_ok-found.ensures in
    c.nowhere-in_default-found.ensures ∙ sym (ap leads c.in-Some.ensures ∙ none (map meant_by c.in-Some.rest.now))

pub returns : goal.returns
returns c =
    let leads = (face_at (faces_of c.args.faces.now) c.args.face).leads in
    let name = meant_by c.in-Some.name in
    let limit = length c.args.faces.now in
    let found : IsWayBefore c.args.faces.now limit c.args.face name c.in-Some-found.number (found_way c.in-Some-found.way) = subst (λ o. MatchOption o (LeadsNowhere c.args.faces.now limit c.args.face name)
    (λ f. IsWayBefore c.args.faces.now limit c.args.face name f.0 (found_way f.1))) c.in-Some-found.is c.in_ok-found.ensures in
    c.in_ok-lead.ensures ∙ sym (ap leads c.in-Some.ensures ∙ found.leads (map meant_by c.in-Some.rest.now))
