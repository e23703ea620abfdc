use Rattle.std.proofs.Common.{ap, ◌∙◌}
use Rattle.std.proofs.lemmas.Result.{on_ok_weaker}
use Rattle.flattened_trees.specs.Leads.{behind_instance, with_leads}
use Rattle.module_leads.specs.Leading.{leading, leading_in}
use Rattle.module_leads.specs.Ways.{face_at}
use Rattle.unit_flattener.specs.Walking.{face_number}
use Rattle.unit_flattener.proofs.flattener.UnitFlattener.put_local.Goals as goal

pub returns-in-Instance-clause-leads : goal.returns-in-Instance-clause-leads
returns-in-Instance-clause-leads c =
    let old = c.args.self.now in let known = leading_in old.leads in
    on_ok_weaker c.define_instance.result
    (λ is. rw c.in-Instance.is (is
    ∙ ap (λ face. leading known (with_leads known.leads c.args.meanings.now (behind_instance c.in-Instance.number (face_at known.faces face)))) (c.face-face.ensures ∙ ap (face_number old) c.spelled.ensures)))
    c.define_instance.ensures.known
