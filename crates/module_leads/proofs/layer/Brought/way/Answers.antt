use Rattle.std.proofs.Common.{◌∙◌, ap, sym}
use Rattle.std.specs.Prelude.{option_map}
use Rattle.name_context.specs.AsTables.{meant_by}
use Rattle.module_leads.specs.Ways.{found_way}
use Rattle.module_leads.proofs.Coming.{by_name, none-bound, table-comes}
use Rattle.module_model.specs.Exports.{exports_of}
use Rattle.module_leads.proofs.layer.Brought.way.Goals as goal

pub returns-then-is_bound : goal.returns-then-is_bound
returns-then-is_bound c =
    let brought = c.args.self.now in
    sym (none-bound brought.instance brought.face c.args.meaning.now (sym c.is_bound.ensures ∙ c.if-is_bound.true) (exports_of brought.exports))

pub returns-in_err-name : goal.returns-in_err-name
returns-in_err-name c =
    let brought = c.args.self.now in
    ap (option_map found_way) c.from_residual.ensures
    ∙ sym (table-comes brought.instance brought.face c.args.meaning.now (sym c.is_bound.ensures ∙ c.if-is_bound.false) brought.exports
    ∙ ap (option_map (by_name brought.instance brought.face c.args.meaning.now)) (sym c.name.ensures ∙ ap (option_map meant_by) c.in_err-name.was))

pub returns : goal.returns
returns c =
    let brought = c.args.self.now in
    sym (table-comes brought.instance brought.face c.args.meaning.now (sym c.is_bound.ensures ∙ c.if-is_bound.false) brought.exports
    ∙ ap (option_map (by_name brought.instance brought.face c.args.meaning.now)) (sym c.name.ensures ∙ ap (option_map meant_by) c.in_ok-name.was))
