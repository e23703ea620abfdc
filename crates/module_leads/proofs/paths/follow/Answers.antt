use Rattle.std.proofs.Common.{◌∷◌, ◌∙◌, ap, arith, map, subst, sym}
use Rattle.std.specs.Prelude.{MatchOption}
use Rattle.name_context.specs.AsTables.{meant_by}
use Rattle.module_leads.specs.Faces.{first_faces}
use Rattle.module_leads.specs.Paths.{IsWayBefore, LeadsNowhere, along, next_lead}
use Rattle.module_leads.specs.Ways.{face_at, found_way, way_lead}
use Rattle.module_leads.proofs.Following.{follow-nowhere, follow-on}
use Rattle.module_leads.proofs.paths.follow.Goals as goal

pub returns-in_default : goal.returns-in_default
returns-in_default c =
    let faces = first_faces c.args.faces.now c.path.limit in
    let name = meant_by c.in-Step.name in
    let inner = (face_at faces c.in-Step.face).leads (name ∷ map meant_by c.in-Step.rest.now) in
    let all = way_lead (first_faces c.args.faces.now c.args.limit) (found_way c.args.way) (map meant_by c.args.names.now) in
    let none : LeadsNowhere c.args.faces.now c.path.limit c.in-Step.face name = subst (λ o. MatchOption o (LeadsNowhere c.args.faces.now c.path.limit c.in-Step.face name)
    (λ f. IsWayBefore c.args.faces.now c.path.limit c.in-Step.face name f.0 (found_way f.1))) c.in_default.is c.in_ok-found-in-Step.ensures in
    follow-nowhere c.path.path.items c.push.new.self.items c.in-Step.instance inner all c.in_ok-push-in-Step.ensures.items
    (ap (λ n. along c.path.path.items (next_lead faces n)) (sym c.in-Step.is) ∙ c.path.invariant.known)
    (none (map meant_by c.in-Step.rest.now))

pub path-preserved : goal.path-preserved
path-preserved c =
    let faces = first_faces c.args.faces.now c.path.limit in
    let before = first_faces c.args.faces.now c.in-Some.number in
    let name = meant_by c.in-Step.name in
    let inner = (face_at faces c.in-Step.face).leads (name ∷ map meant_by c.in-Step.rest.now) in
    let all = way_lead (first_faces c.args.faces.now c.args.limit) (found_way c.args.way) (map meant_by c.args.names.now) in
    let found : IsWayBefore c.args.faces.now c.path.limit c.in-Step.face name c.in-Some.number (found_way c.in-Some.further) = subst (λ o. MatchOption o (LeadsNowhere c.args.faces.now c.path.limit c.in-Step.face name)
    (λ f. IsWayBefore c.args.faces.now c.path.limit c.in-Step.face name f.0 (found_way f.1))) c.in-Some.is c.in_ok-found-in-Step.ensures in
    record {
      within = omega (arith, found.before);
      known = follow-on c.path.path.items c.push.new.self.items c.in-Step.instance inner (next_lead before c.next_of-next-in-Step.result) all c.in_ok-push-in-Step.ensures.items
          (ap (λ n. along c.path.path.items (next_lead faces n)) (sym c.in-Step.is) ∙ c.path.invariant.known)
          (found.leads (map meant_by c.in-Step.rest.now) ∙ sym (c.next_of-next-in-Step.ensures before));
    }
