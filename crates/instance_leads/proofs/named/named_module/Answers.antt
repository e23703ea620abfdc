use Rattle.std.proofs.Common.{◌≡◌, Some, None, ◌∙◌}
use Rattle.module_scope.specs.Environments.{meaning}
use Rattle.module_model.specs.Exports.{files_of}
use Rattle.instance_leads.proofs.Finding.{named-shown}
use Rattle.instance_leads.proofs.named.named_module.Goals as goal

pub returns-in-Some-Some-clause-shown : goal.returns-in-Some-Some-clause-shown
returns-in-Some-Some-clause-shown c =
    let is : Some (Some c.in-Some-Some.number) ≡ meaning c.args.modules.now c.args.name.now = cc (c.in-Some-Some.ensures, c.in-Some-Some.field-0-is) in
    λ nested. named-shown (files_of c.args.imported.now) nested c.args.modules.now c.args.name.now (Some (Some c.in-Some-Some.number)) is

pub returns-in-Some-None-clause-shown : goal.returns-in-Some-None-clause-shown
returns-in-Some-None-clause-shown c =
    let is : Some None ≡ meaning c.args.modules.now c.args.name.now = cc (c.in-Some-None.ensures, c.in-Some-None.field-0-is) in
    λ nested. named-shown (files_of c.args.imported.now) nested c.args.modules.now c.args.name.now (Some None) is

pub returns-in-None-clause-shown : goal.returns-in-None-clause-shown
returns-in-None-clause-shown c =
    let is : None ≡ meaning c.args.modules.now c.args.name.now = cc c.in-None.ensures in
    λ nested. c.imported_module.ensures.shown nested ∙ named-shown (files_of c.args.imported.now) nested c.args.modules.now c.args.name.now None is
