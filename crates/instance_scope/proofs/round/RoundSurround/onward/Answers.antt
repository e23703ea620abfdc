use Rattle.std.proofs.Common.{◌∙◌, ap}
use Rattle.std.specs.Option.{option_copied}
use Rattle.module_model.specs.Exports.{entry_of, exports_of}
use Rattle.name_context.specs.AsTables.{meant_by}
use Rattle.instance_leads.proofs.Faces.{onward-face, onward-reached}
use Rattle.instance_scope.proofs.round.RoundSurround.onward.Goals as goal

pub returns-in-Imported : goal.returns-in-Imported
returns-in-Imported c =
    onward-face c.args.self.now.scope.now.nested.items c.in-Imported.face (option_copied c.meant_in.result) (meant_by c.args.name) c.args.at c.led_on.result c.led_on.ensures
    (c.meant_in.ensures ∙ ap (λ z. entry_of (exports_of z) (meant_by c.args.name)) c.exports_in.ensures) c.in-Imported.is

pub returns-in-Reached : goal.returns-in-Reached
returns-in-Reached c =
    onward-reached c.args.self.now.scope.now.nested.items c.in-Reached.face c.in-Reached.exports (option_copied c.meant_in-in-Reached.result) (meant_by c.args.name) c.args.at c.led_on-in-Reached.result c.led_on-in-Reached.ensures
    c.meant_in-in-Reached.ensures c.in-Reached.is
