use Rattle.std.proofs.Common.{◌∙◌, true, ap, length, subst, sym}
use Rattle.std.specs.Prelude.{MatchOption}
use Rattle.kind_table.specs.Flattened.{flat_of}
use Rattle.name_context.specs.AsTables.{meant_by}
use Rattle.module_leads.specs.declared.faces.Sort.TheVariants as sort
use Rattle.module_leads.specs.declared.ways.Way.TheVariants as way
use Rattle.module_leads.specs.Alike.{known_face, module_at, names_at, step_way}
use Rattle.module_leads.specs.Faces.{first_faces}
use Rattle.module_leads.specs.Paths.{IsWayBefore, LeadsNowhere}
use Rattle.module_leads.specs.Ways.{found_way, name_as}
use Rattle.module_leads.proofs.Likeness.{all-alike}
use Rattle.module_leads.proofs.Numbered.{face-none}
use Rattle.module_leads.proofs.Telling.{answers-yes, apart-behind, apart-through, apart-to, behind-answered, behind-other, both-missing, each-next, each-not, ends-answered, first-missing, leads-not, names-answered, names-known, second-missing, sort_of, sorts-apart, through-answered, through-other, ways-as}
use Rattle.module_leads.proofs.alike.+alike.Goals as goal

-- behind_alike

pub behind_alike-returns-then-not-instances_alike-clause-alike : goal.behind_alike-returns-then-not-instances_alike-clause-alike
behind_alike-returns-then-not-instances_alike-clause-alike t c =
    let flat = flat_of c.args.flat.now in
    behind-other flat c.args.numbers.now (first_faces c.args.faces.now c.args.one) (first_faces c.args.faces.now c.args.other) c.args.first.instance c.args.second.instance c.args.first.face c.args.second.face
    c.instances_alike.result c.if-not-instances_alike.true
    c.instances_alike.ensures

pub behind_alike-returns-clause-alike : goal.behind_alike-returns-clause-alike
behind_alike-returns-clause-alike t c =
    let flat = flat_of c.args.flat.now in
    let listed = c.args.faces.now in
    behind-answered flat c.args.numbers.now (first_faces listed c.args.one) (first_faces listed c.args.other) c.args.first.instance c.args.second.instance c.args.first.face c.args.second.face
    (known_face listed c.face_below-first.result) (known_face listed c.face_below-second.result) c.instances_alike.result c.in_ok-same.same (c.face_below-first.ensures.known listed) (c.face_below-second.ensures.known listed)
    (face-none listed (length listed) c.face_below-first.result) (face-none listed (length listed) c.face_below-second.result) c.if-not-instances_alike.false
    c.instances_alike.ensures c.in_ok-same.ensures.alike

-- each_alike

pub each_alike-loop-index-preserved : goal.each_alike-loop-index-preserved
each_alike-loop-index-preserved t c = record {
  known = c.in_ok-name_alike.ensures.known;
  each = each-next (flat_of c.args.flat.now) c.args.numbers.now (known_face c.args.faces.now c.args.one) (known_face c.args.faces.now c.args.other) (names_at c.args.sort (module_at c.args.faces.now c.args.named))
      c.loop-index.index (meant_by c.in-Some.name) c.in_ok-name_alike.field-0 (sym c.in-Some.ensures) c.if-not-branch.false c.in_ok-name_alike.ensures.alike c.loop-index.invariant.each;
}

pub each_alike-returns-then-not-branch-clause-alike : goal.each_alike-returns-then-not-branch-clause-alike
each_alike-returns-then-not-branch-clause-alike t c =
    each-not (flat_of c.args.flat.now) c.args.numbers.now (known_face c.args.faces.now c.args.one) (known_face c.args.faces.now c.args.other) (names_at c.args.sort (module_at c.args.faces.now c.args.named))
    c.loop-index.index (meant_by c.in-Some.name) c.in_ok-name_alike.field-0 (sym c.in-Some.ensures) c.if-not-branch.true c.in_ok-name_alike.ensures.alike

-- leads_alike

pub leads_alike-returns-then-not-branch-clause-alike : goal.leads_alike-returns-then-not-branch-clause-alike
leads_alike-returns-then-not-branch-clause-alike t c =
    let listed = c.args.faces.now in
    leads-not (flat_of c.args.flat.now) c.args.numbers.now (known_face listed c.args.one) (known_face listed c.args.other) (names_at sort.Words (module_at listed c.args.one)) (names_at sort.Words (module_at listed c.args.other))
    c.in_ok-names_alike.field-0 c.if-not-branch.true c.in_ok-names_alike.ensures.alike

pub leads_alike-returns-then-not-branch-2-clause-alike : goal.leads_alike-returns-then-not-branch-2-clause-alike
leads_alike-returns-then-not-branch-2-clause-alike t c =
    let listed = c.args.faces.now in
    leads-not (flat_of c.args.flat.now) c.args.numbers.now (known_face listed c.args.one) (known_face listed c.args.other) (names_at sort.Symbols (module_at listed c.args.one)) (names_at sort.Symbols (module_at listed c.args.other))
    c.in_ok-names_alike-2.field-0 c.if-not-branch-2.true c.in_ok-names_alike-2.ensures.alike

pub leads_alike-returns-clause-known : goal.leads_alike-returns-clause-known
leads_alike-returns-clause-known t c =
    c.in_ok-keep.ensures (flat_of c.args.flat.now) c.args.numbers.now c.args.faces.now c.in_ok-names_alike-2.ensures.known
    (λ told. all-alike (flat_of c.args.flat.now) c.args.faces.now c.args.one c.args.other (c.in_ok-names_alike.ensures.alike.same c.if-not-branch.false told) (c.in_ok-names_alike-2.ensures.alike.same c.if-not-branch-2.false told))

pub leads_alike-returns-clause-alike : goal.leads_alike-returns-clause-alike
leads_alike-returns-clause-alike t c =
    answers-yes (flat_of c.args.flat.now) c.args.numbers.now
    (λ told. all-alike (flat_of c.args.flat.now) c.args.faces.now c.args.one c.args.other (c.in_ok-names_alike.ensures.alike.same c.if-not-branch.false told) (c.in_ok-names_alike-2.ensures.alike.same c.if-not-branch-2.false told))

-- name_alike

pub name_alike-returns-in_ok-same-in-Some-Some-clause-alike : goal.name_alike-returns-in_ok-same-in-Some-Some-clause-alike
name_alike-returns-in_ok-same-in-Some-Some-clause-alike t c =
    let listed = c.args.faces.now in
    let first : IsWayBefore listed (length listed) c.args.one (meant_by c.args.name) c.in-Some-Some.one (found_way c.in-Some-Some.first) = subst (λ o. MatchOption o (LeadsNowhere listed (length listed) c.args.one (meant_by c.args.name))
    (λ f. IsWayBefore listed (length listed) c.args.one (meant_by c.args.name) f.0 (found_way f.1))) c.in-Some-Some.is-0 c.in_ok-first.ensures in
    let second : IsWayBefore listed (length listed) c.args.other (meant_by c.args.word) c.in-Some-Some.other (found_way c.in-Some-Some.second) = subst (λ o. MatchOption o (LeadsNowhere listed (length listed) c.args.other (meant_by c.args.word))
    (λ f. IsWayBefore listed (length listed) c.args.other (meant_by c.args.word) f.0 (found_way f.1))) c.in-Some-Some.is-1 c.in_ok-second.ensures in
    names-answered (flat_of c.args.flat.now) c.args.numbers.now listed (length listed) c.args.one c.args.other (meant_by c.args.name) (meant_by c.args.word) c.in-Some-Some.one c.in-Some-Some.other (found_way c.in-Some-Some.first)
    (found_way c.in-Some-Some.second) c.in_ok-same-in-Some-Some.same first second c.in_ok-same-in-Some-Some.ensures.alike

pub name_alike-returns-in-Some-None-clause-alike : goal.name_alike-returns-in-Some-None-clause-alike
name_alike-returns-in-Some-None-clause-alike t c =
    let listed = c.args.faces.now in
    let first : IsWayBefore listed (length listed) c.args.one (meant_by c.args.name) c.in-Some-None.field-0-0-0 (found_way c.in-Some-None.first) = subst (λ o. MatchOption o (LeadsNowhere listed (length listed) c.args.one (meant_by c.args.name))
    (λ f. IsWayBefore listed (length listed) c.args.one (meant_by c.args.name) f.0 (found_way f.1))) c.in-Some-None.is-0 c.in_ok-first.ensures in
    let second : LeadsNowhere listed (length listed) c.args.other (meant_by c.args.word) = subst (λ o. MatchOption o (LeadsNowhere listed (length listed) c.args.other (meant_by c.args.word))
    (λ f. IsWayBefore listed (length listed) c.args.other (meant_by c.args.word) f.0 (found_way f.1))) c.in-Some-None.is-1 c.in_ok-second.ensures in
    second-missing (flat_of c.args.flat.now) c.args.numbers.now listed (length listed) c.args.one c.args.other (meant_by c.args.name) (meant_by c.args.word) c.in-Some-None.field-0-0-0 (found_way c.in-Some-None.first)
    c.leads_nowhere.result first second c.leads_nowhere.ensures

pub name_alike-returns-in-None-Some-clause-alike : goal.name_alike-returns-in-None-Some-clause-alike
name_alike-returns-in-None-Some-clause-alike t c =
    let listed = c.args.faces.now in
    let first : LeadsNowhere listed (length listed) c.args.one (meant_by c.args.name) = subst (λ o. MatchOption o (LeadsNowhere listed (length listed) c.args.one (meant_by c.args.name))
    (λ f. IsWayBefore listed (length listed) c.args.one (meant_by c.args.name) f.0 (found_way f.1))) c.in-None-Some.is-0 c.in_ok-first.ensures in
    let second : IsWayBefore listed (length listed) c.args.other (meant_by c.args.word) c.in-None-Some.field-0-0-1 (found_way c.in-None-Some.second) = subst (λ o. MatchOption o (LeadsNowhere listed (length listed) c.args.other (meant_by c.args.word))
    (λ f. IsWayBefore listed (length listed) c.args.other (meant_by c.args.word) f.0 (found_way f.1))) c.in-None-Some.is-1 c.in_ok-second.ensures in
    first-missing (flat_of c.args.flat.now) c.args.numbers.now listed (length listed) c.args.one c.args.other (meant_by c.args.name) (meant_by c.args.word) c.in-None-Some.field-0-0-1 (found_way c.in-None-Some.second)
    c.leads_nowhere-in-None-Some.result first second c.leads_nowhere-in-None-Some.ensures

pub name_alike-returns-in-None-None-clause-alike : goal.name_alike-returns-in-None-None-clause-alike
name_alike-returns-in-None-None-clause-alike t c =
    let listed = c.args.faces.now in
    let first : LeadsNowhere listed (length listed) c.args.one (meant_by c.args.name) = subst (λ o. MatchOption o (LeadsNowhere listed (length listed) c.args.one (meant_by c.args.name))
    (λ f. IsWayBefore listed (length listed) c.args.one (meant_by c.args.name) f.0 (found_way f.1))) c.in-None-None.is-0 c.in_ok-first.ensures in
    let second : LeadsNowhere listed (length listed) c.args.other (meant_by c.args.word) = subst (λ o. MatchOption o (LeadsNowhere listed (length listed) c.args.other (meant_by c.args.word))
    (λ f. IsWayBefore listed (length listed) c.args.other (meant_by c.args.word) f.0 (found_way f.1))) c.in-None-None.is-1 c.in_ok-second.ensures in
    both-missing (flat_of c.args.flat.now) c.args.numbers.now listed (length listed) c.args.one c.args.other (meant_by c.args.name) (meant_by c.args.word) first second

-- through_alike

pub through_alike-returns-then-not-instances_alike-clause-alike : goal.through_alike-returns-then-not-instances_alike-clause-alike
through_alike-returns-then-not-instances_alike-clause-alike t c =
    let flat = flat_of c.args.flat.now in
    through-other flat c.args.numbers.now (first_faces c.args.faces.now c.args.one) (first_faces c.args.faces.now c.args.other) c.args.first.instance c.args.second.instance c.args.first.face c.args.second.face (meant_by c.args.name)
    (meant_by c.args.word) c.instances_alike.result c.if-not-instances_alike.true
    c.instances_alike.ensures

pub through_alike-returns-then-are_known-clause-alike : goal.through_alike-returns-then-are_known-clause-alike
through_alike-returns-then-are_known-clause-alike t c =
    let flat = flat_of c.args.flat.now in
    let listed = c.args.faces.now in
    through-answered flat c.args.numbers.now (first_faces listed c.args.one) (first_faces listed c.args.other) c.args.first.instance c.args.second.instance c.args.first.face c.args.second.face (meant_by c.args.name) (meant_by c.args.word)
    (known_face listed c.face_below-first.result) (known_face listed c.face_below-second.result) c.instances_alike.result true (c.face_below-first.ensures.known listed) (c.face_below-second.ensures.known listed)
    c.if-not-instances_alike.false
    c.instances_alike.ensures
    (names-known flat c.args.numbers.now (known_face listed c.face_below-first.result) (known_face listed c.face_below-second.result) (meant_by c.args.name) (meant_by c.args.word) c.if-is_same_name.ensures
    (c.are_known.ensures c.if-are_known.true flat c.args.numbers.now listed c.requires))

pub through_alike-returns-clause-alike : goal.through_alike-returns-clause-alike
through_alike-returns-clause-alike t c =
    let flat = flat_of c.args.flat.now in
    let listed = c.args.faces.now in
    through-answered flat c.args.numbers.now (first_faces listed c.args.one) (first_faces listed c.args.other) c.args.first.instance c.args.second.instance c.args.first.face c.args.second.face (meant_by c.args.name) (meant_by c.args.word)
    (known_face listed c.face_below-first.result) (known_face listed c.face_below-second.result) c.instances_alike.result c.in_ok-same.same (c.face_below-first.ensures.known listed) (c.face_below-second.ensures.known listed)
    c.if-not-instances_alike.false
    c.instances_alike.ensures c.in_ok-same.ensures.alike

-- ways_alike

pub ways_alike-returns-in-To-second-clause-alike : goal.ways_alike-returns-in-To-second-clause-alike
ways_alike-returns-in-To-second-clause-alike t c =
    let listed = c.args.faces.now in
    ways-as (flat_of c.args.flat.now) c.args.numbers.now (first_faces listed c.args.one) (first_faces listed c.args.other) (found_way c.args.first) (way.To c.in-To.first) (found_way c.args.second) (way.To c.in-To-second.second)
    c.ends_alike.result (sym c.step_of.ensures ∙ ap step_way c.in-To.is) (sym c.step_of-second.ensures ∙ ap step_way c.in-To-second.is)
    (ends-answered (flat_of c.args.flat.now) c.args.numbers.now (first_faces listed c.args.one) (first_faces listed c.args.other) c.in-To.first c.in-To-second.second c.ends_alike.result c.ends_alike.ensures)

pub ways_alike-returns-in_ok-same-in-Behind-clause-alike : goal.ways_alike-returns-in_ok-same-in-Behind-clause-alike
ways_alike-returns-in_ok-same-in-Behind-clause-alike t c =
    let listed = c.args.faces.now in
    ways-as (flat_of c.args.flat.now) c.args.numbers.now (first_faces listed c.args.one) (first_faces listed c.args.other) (found_way c.args.first) (way.Behind c.in-Behind.first.instance c.in-Behind.first.face)
    (found_way c.args.second) (way.Behind c.in-Behind-second.second.instance c.in-Behind-second.second.face) c.in_ok-same-in-Behind.same
    (sym c.step_of.ensures ∙ ap step_way c.in-Behind.is) (sym c.step_of-second.ensures ∙ ap step_way c.in-Behind-second.is) c.in_ok-same-in-Behind.ensures.alike

pub ways_alike-returns-in_ok-same-in-Through-clause-alike : goal.ways_alike-returns-in_ok-same-in-Through-clause-alike
ways_alike-returns-in_ok-same-in-Through-clause-alike t c =
    let listed = c.args.faces.now in
    ways-as (flat_of c.args.flat.now) c.args.numbers.now (first_faces listed c.args.one) (first_faces listed c.args.other) (found_way c.args.first) (way.Through c.in-Through.first.instance c.in-Through.first.face (name_as (meant_by c.in-Through.name)))
    (found_way c.args.second) (way.Through c.in-Through-second.second.instance c.in-Through-second.second.face (name_as (meant_by c.in-Through-second.word))) c.in_ok-same-in-Through.same
    (sym c.step_of.ensures ∙ ap step_way c.in-Through.is) (sym c.step_of-second.ensures ∙ ap step_way c.in-Through-second.is) c.in_ok-same-in-Through.ensures.alike

pub ways_alike-returns-in_default-clause-alike : goal.ways_alike-returns-in_default-clause-alike
ways_alike-returns-in_default-clause-alike t c =
    let listed = c.args.faces.now in
    let sort = sort_of (flat_of c.args.flat.now) c.args.numbers.now in
    sorts-apart (flat_of c.args.flat.now) c.args.numbers.now (first_faces listed c.args.one) (first_faces listed c.args.other) (found_way c.args.first) (found_way c.args.second)
    (λ same. apart-to (flat_of c.args.flat.now) c.args.numbers.now c.step_of-second.result c.in_default.not-To (sym (ap sort (sym c.step_of.ensures ∙ ap step_way c.in-To.is)) ∙ same ∙ ap sort (sym c.step_of-second.ensures)))

pub ways_alike-returns-in_default-second-clause-alike : goal.ways_alike-returns-in_default-second-clause-alike
ways_alike-returns-in_default-second-clause-alike t c =
    let listed = c.args.faces.now in
    let sort = sort_of (flat_of c.args.flat.now) c.args.numbers.now in
    sorts-apart (flat_of c.args.flat.now) c.args.numbers.now (first_faces listed c.args.one) (first_faces listed c.args.other) (found_way c.args.first) (found_way c.args.second)
    (λ same. apart-behind (flat_of c.args.flat.now) c.args.numbers.now c.step_of-second.result c.in_default-second.not-Behind (sym (ap sort (sym c.step_of.ensures ∙ ap step_way c.in-Behind.is)) ∙ same ∙ ap sort (sym c.step_of-second.ensures)))

pub ways_alike-returns-in_default-second-2-clause-alike : goal.ways_alike-returns-in_default-second-2-clause-alike
ways_alike-returns-in_default-second-2-clause-alike t c =
    let listed = c.args.faces.now in
    let sort = sort_of (flat_of c.args.flat.now) c.args.numbers.now in
    sorts-apart (flat_of c.args.flat.now) c.args.numbers.now (first_faces listed c.args.one) (first_faces listed c.args.other) (found_way c.args.first) (found_way c.args.second)
    (λ same. apart-through (flat_of c.args.flat.now) c.args.numbers.now c.step_of-second.result c.in_default-second-2.not-Through (sym (ap sort (sym c.step_of.ensures ∙ ap step_way c.in-Through.is)) ∙ same ∙ ap sort (sym c.step_of-second.ensures)))
