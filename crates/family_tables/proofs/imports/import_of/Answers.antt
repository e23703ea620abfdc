use Rattle.std.proofs.Common.{◌∙◌, ap, sym, false, Some}
use Rattle.module_facts.specs.Checks.{Accepted, Cyclic, Refused, Unknown}
use Rattle.module_model.specs.Exports.{face_outside}
use Rattle.family_tables.specs.Agreement.{accepted_face}
use Rattle.std.specs.Arc.{arc_value}
use Rattle.module_model.specs.declared.face.Face.{Face}
use Rattle.family_tables.proofs.Importing.{import-told}
use Rattle.family_tables.specs.Outcomes.{status_by}
use Rattle.family_tables.specs.Tables.{entry_of}
use Rattle.family_tables.proofs.imports.import_of.Goals as goal

pub returns-in_ok-clone-in-Some-Accepted-clause-from : goal.returns-in_ok-clone-in-Some-Accepted-clause-from
returns-in_ok-clone-in-Some-Accepted-clause-from c face some =
    ap accepted_face (sym c.in-Some-Accepted.ensures ∙ ap (λ o. Some o) c.in-Some-Accepted.field-0-is)
    ∙ (sym (ap (λ (f : Face). Some f) c.in_ok-clone-in-Some-Accepted.ensures.cases) ∙ some)

pub returns-then-branch-clause-told : goal.returns-then-branch-clause-told
returns-then-branch-clause-told c modules planned needs =
    import-told c.args.plan.now c.args.outcomes.now c.args.name.now c.args.need.now c.in_ok-is_cyclic.field-0 c.in_ok-is_cyclic.ensures modules planned needs Cyclic
    (ap (λ b. status_by b (entry_of c.args.outcomes.now c.args.need.now)) (sym c.if-branch.true))

pub returns-in-None-clause-told : goal.returns-in-None-clause-told
returns-in-None-clause-told c modules planned needs =
    import-told c.args.plan.now c.args.outcomes.now c.args.name.now c.args.need.now c.in_ok-is_cyclic.field-0 c.in_ok-is_cyclic.ensures modules planned needs Unknown
    (ap (status_by false) c.in-None.ensures ∙ ap (λ b. status_by b (entry_of c.args.outcomes.now c.args.need.now)) (sym c.if-branch.false))

pub returns-in-Some-Refused-clause-told : goal.returns-in-Some-Refused-clause-told
returns-in-Some-Refused-clause-told c modules planned needs =
    import-told c.args.plan.now c.args.outcomes.now c.args.name.now c.args.need.now c.in_ok-is_cyclic.field-0 c.in_ok-is_cyclic.ensures modules planned needs Refused
    (ap (status_by false) (sym (sym c.in-Some-Refused.ensures ∙ ap (λ o. Some o) c.in-Some-Refused.field-0-is)) ∙ ap (λ b. status_by b (entry_of c.args.outcomes.now c.args.need.now)) (sym c.if-branch.false))

pub returns-in_ok-clone-in-Some-Accepted-clause-told : goal.returns-in_ok-clone-in-Some-Accepted-clause-told
returns-in_ok-clone-in-Some-Accepted-clause-told c modules planned needs =
    import-told c.args.plan.now c.args.outcomes.now c.args.name.now c.args.need.now c.in_ok-is_cyclic.field-0 c.in_ok-is_cyclic.ensures modules planned needs (Accepted (face_outside (arc_value c.in_ok-clone-in-Some-Accepted.field-0)))
    (ap (λ (f : Face). Accepted (face_outside f)) c.in_ok-clone-in-Some-Accepted.ensures.cases
    ∙ (ap (status_by false) (sym (sym c.in-Some-Accepted.ensures ∙ ap (λ o. Some o) c.in-Some-Accepted.field-0-is)) ∙ ap (λ b. status_by b (entry_of c.args.outcomes.now c.args.need.now)) (sym c.if-branch.false)))
