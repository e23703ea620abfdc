use Rattle.std.proofs.Common.{◌∙◌, ◌+◌, Some, ap, false, refl, subst, sym, take, true}
use Rattle.std.proofs.lemmas.List.{take_all}
use Rattle.std.proofs.lemmas.List.Elements.{Contains-get_or}
use Rattle.std.specs.List.{AllZip}
use Rattle.std.specs.Prelude.{◌↔◌, Contains, IsTrue}
use Rattle.index_graph.specs.Leading.{LeadsBack}
use Rattle.family_tables.specs.Plans as plans
use Rattle.family_tables.specs.Tables.{entry_of}
use Rattle.family_facts.proofs.Lists.{zip-more}
use Rattle.family_levels.specs.Again.{IsNeed, need_by, version_by}
use Rattle.family_levels.specs.declared.versions.Need.TheVariants as need_as
use Rattle.family_levels.proofs.Needs.{need-told, needs-same}
use Rattle.family_levels.proofs.next.needs_found.Goals as goal

pub loop-need-preserved-then-cyclic : goal.loop-need-preserved-then-cyclic
loop-need-preserved-then-cyclic c =
    let i = c.loop-need.need-index in
    let needs = c.args.needs.now in
    let d = c.need-item.result in
    let R = IsNeed c.args.plan.now c.args.outcomes.now c.args.versions.now c.args.name.now in
    let is = c.as_str-need.ensures ∙ c.need-item.is in
    let here : R c.as_str-need.result.now need_as.Cyclic = record {
      cyclic = true;
      exactly = λ modules planned needed. subst (λ b. IsTrue b ↔ LeadsBack (plans.Needs modules) c.args.name.now c.as_str-need.result.now) c.if-cyclic.true (c.in_ok-cyclic.ensures modules planned needed);
      itself = refl;
    } in
    subst (AllZip R (take (i + 1) needs)) (sym c.in_ok-push.ensures.ok)
    (zip-more R needs c.loop-need.found i d need_as.Cyclic c.loop-need-test.true c.loop-need.invariant (subst (λ n. R n need_as.Cyclic) is here))

pub loop-need-preserved : goal.loop-need-preserved
loop-need-preserved c =
    let i = c.loop-need.need-index in
    let needs = c.args.needs.now in
    let d = c.need-item.result in
    let R = IsNeed c.args.plan.now c.args.outcomes.now c.args.versions.now c.args.name.now in
    let is = c.as_str-need.ensures ∙ c.need-item.is in
    let here : R c.as_str-need.result.now c.in-Some.need = record {
      cyclic = c.in_ok-cyclic.cyclic;
      exactly = λ modules planned needed. c.in_ok-cyclic.ensures modules planned needed;
      itself = ap (λ b. need_by b (entry_of c.args.outcomes.now c.as_str-need.result.now) (version_by (entry_of c.args.versions.now c.as_str-need.result.now))) c.if-cyclic.false ∙ (sym c.need_found.ensures ∙ c.in-Some.is);
    } in
    subst (AllZip R (take (i + 1) needs)) (sym c.in_ok-push-2.ensures.ok)
    (zip-more R needs c.loop-need.found i d c.in-Some.need c.loop-need-test.true c.loop-need.invariant (subst (λ n. R n c.in-Some.need) is here))

pub returns-in_default-clause-all : goal.returns-in_default-clause-all
returns-in_default-clause-all c modules planned all needed told =
    let needs = c.args.needs.now in
    let need = c.as_str-need.result.now in
    let is = c.as_str-need.ensures ∙ c.need-item.is in
    let among : Contains needs need = subst (Contains needs) (sym is) (Contains-get_or needs c.loop-need.need-index c.need-item.result c.loop-need-test.true) in
    absurd (need-told c.args.plan.now c.args.outcomes.now c.args.versions.now c.args.name.now modules planned needs all needed told need among c.in_ok-cyclic.cyclic c.if-cyclic.false (c.in_ok-cyclic.ensures modules planned (all need among)) (sym c.need_found.ensures ∙ c.in_default.is))

pub returns-clause-are : goal.returns-clause-are
returns-clause-are c = subst (λ ns. AllZip (IsNeed c.args.plan.now c.args.outcomes.now c.args.versions.now c.args.name.now) ns c.loop-need.found) (take_all c.loop-need.need-index c.args.needs.now c.loop-need-test.false) c.loop-need.invariant

pub returns-clause-all : goal.returns-clause-all
returns-clause-all c modules planned all needed told =
    let zip = subst (λ ns. AllZip (IsNeed c.args.plan.now c.args.outcomes.now c.args.versions.now c.args.name.now) ns c.loop-need.found) (take_all c.loop-need.need-index c.args.needs.now c.loop-need-test.false) c.loop-need.invariant in
    ap (λ z. Some z) (needs-same c.args.plan.now c.args.outcomes.now c.args.versions.now c.args.name.now modules planned c.args.needs.now all c.loop-need.found needed zip told)
