use Rattle.std.proofs.Common.{◌∙◌, ap}
use Rattle.module_model.specs.Exports.{exports_of}
use Rattle.tree_names.specs.Parameters.{entries_in}
use Rattle.module_leads.specs.declared.leads.ModuleLeads.{ModuleLeads}
use Rattle.module_leads.specs.Leading.{face_over, leading_in, left, with_face}
use Rattle.module_leads.proofs.Ended.{module-ended, sound-ended}
use Rattle.module_leads.proofs.leads.ModuleLeads.end.Goals as goal

pub returns-in_default-clause-known : goal.returns-in_default-clause-known
returns-in_default-clause-known c =
    c.leave.ensures.known ∙ ap left c.in_ok-number.ensures.known
    ∙ ap (λ (self : ModuleLeads). left (with_face (leading_in self) (face_over (entries_in c.args.parameters) c.args.outer c.args.is_constant (exports_of c.args.exports.now) (leading_in self).leads))) c.in_default.ensures.none

pub returns-clause-known : goal.returns-clause-known
returns-clause-known c =
    module-ended c.args.self.now c.take_layer.new.self c.in-Some.layer c.in-Some.ensures.taken c.in_ok-exports.exports c.args.parameters c.args.outer c.args.is_constant c.push.new.self.items c.in_ok-push.ensures.items c.requires
    ∙ ap (λ table. left (with_face (leading_in c.args.self.now) (face_over (entries_in c.args.parameters) c.args.outer c.args.is_constant (exports_of table) (leading_in c.args.self.now).leads))) c.in_ok-exports.ensures

pub returns-clause-sound : goal.returns-clause-sound
returns-clause-sound c =
    sound-ended c.args.self.now c.take_layer.new.self c.in-Some.layer c.in-Some.ensures.taken c.in_ok-exports.exports c.args.parameters c.args.outer c.args.is_constant c.push.new.self.items c.in_ok-push.ensures.items c.requires
