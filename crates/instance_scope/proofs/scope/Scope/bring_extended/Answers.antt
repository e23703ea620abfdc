use Rattle.std.proofs.Common.{◌≡◌, IfOk, Some, None, ◌∙◌, ap, refl, subst, false}
use Rattle.module_scope.specs.Environments.{meaning}
use Rattle.module_model.specs.Exports.{exported, files_of}
use Rattle.name_exports.specs.Brought.{IsBrought, import_exports}
use Rattle.instance_leads.specs.Leading.{exports_shown}
use Rattle.instance_leads.proofs.Finding.{named-shown}
use Rattle.instance_scope.proofs.scope.Scope.bring_extended.Goals as goal

pub returns-in-Some-Some : goal.returns-in-Some-Some
returns-in-Some-Some c =
    let is : Some (Some c.in-Some-Some.number) ≡ meaning c.args.modules.now c.args.name.now = cc (c.in-Some-Some.ensures, c.in-Some-Some.field-0-is) in
    subst (λ z. IfOk c.bring_ended.result (λ clash. IsBrought c.args.names.now c.bring_ended.new.names clash z))
    (ap exports_shown c.ended.ensures ∙ ap exported (named-shown (files_of c.args.self.now.imported.now) c.args.self.now.nested.items c.args.modules.now c.args.name.now (Some (Some c.in-Some-Some.number)) is)) c.bring_ended.ensures

pub returns-in-Some-None : goal.returns-in-Some-None
returns-in-Some-None c =
    let is : Some None ≡ meaning c.args.modules.now c.args.name.now = cc (c.in-Some-None.ensures, c.in-Some-None.field-0-is) in
    subst (λ z. IsBrought c.args.names.now c.args.names.now false z)
    (ap exported (named-shown (files_of c.args.self.now.imported.now) c.args.self.now.nested.items c.args.modules.now c.args.name.now (Some None) is)) (record { reads = λ title taken. refl; tells = λ title taken. refl })

pub returns-in-None : goal.returns-in-None
returns-in-None c =
    let is : None ≡ meaning c.args.modules.now c.args.name.now = cc c.in-None.ensures in
    subst (λ z. IfOk c.bring_import.result (λ clash. IsBrought c.args.names.now c.bring_import.new.names clash z))
    (ap import_exports c.get.ensures ∙ ap exported (named-shown (files_of c.args.self.now.imported.now) c.args.self.now.nested.items c.args.modules.now c.args.name.now None is)) c.bring_import.ensures
