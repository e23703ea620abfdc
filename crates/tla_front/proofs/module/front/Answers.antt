use Rattle.std.proofs.Common.{sym, subst, ◌∙◌}
use Rattle.std.specs.Prelude.{IfErr}
use Rattle.std.specs.Str.{IsUtf8}
use Rattle.front_laws.proofs.Readable.{longest-from}
use Rattle.tla_front.specs.Faults.{IsFaultPlaced}
use Rattle.tla_front.proofs.FrontSteps.{not_utf8-front, not_utf8-placed, readable-whole}
use Rattle.tla_front.proofs.module.front.Goals as goal

pub returns-in-Err-clause-fault : goal.returns-in-Err-clause-fault
returns-in-Err-clause-fault c =
    not_utf8-front c.args.name.now c.args.bytes.now c.valid_up_to.result c.fault_at.result c.fault_at.ensures c.in-Err.ensures.cases.0
    (longest-from c.args.bytes.now c.valid_up_to.result _ c.valid_up_to.ensures c.in-Err.ensures.cases.1)

pub returns-in-Err-clause-placed : goal.returns-in-Err-clause-placed
returns-in-Err-clause-placed c =
    not_utf8-placed c.args.bytes.now c.valid_up_to.result c.fault_at.result c.fault_at.ensures
    (longest-from c.args.bytes.now c.valid_up_to.result _ c.valid_up_to.ensures c.in-Err.ensures.cases.1)

pub returns-in-Ok-clause-placed : goal.returns-in-Ok-clause-placed
returns-in-Ok-clause-placed c =
    let utf8 : IsUtf8 c.args.bytes.now = c.in-Ok.ensures.cases.1 in
    subst (λ text. IfErr c.front_of_text.result (λ error. IsFaultPlaced text error)) (c.in-Ok.ensures.cases.0 ∙ sym (readable-whole c.args.bytes.now utf8)) c.front_of_text.ensures.placed
