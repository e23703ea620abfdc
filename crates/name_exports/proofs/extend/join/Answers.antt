use Rattle.std.proofs.Common.{◌∙◌, ap, sym}
use Rattle.module_model.specs.Modules.{differs}
use Rattle.name_context.specs.AsTables.{meant_by}
use Rattle.name_exports.proofs.Bringing.{bring-new}
use Rattle.name_exports.proofs.extend.join.Goals as goal

pub returns-clause-names : goal.returns-clause-names
returns-clause-names c =
    bring-new c.args.local c.args.names.now c.put.new.self (meant_by c.args.name) c.args.meaning
    (sym c.if-differs.false ∙ c.differs.ensures ∙ ap (λ found. differs found c.args.meaning) c.get.ensures)
    (λ title taken. c.in_ok-put.ensures title taken)
