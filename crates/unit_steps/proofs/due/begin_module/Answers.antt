use Rattle.std.proofs.Common.{suc, refl}
use Rattle.std.proofs.lemmas.Result.{IfOk-weaker}
use Rattle.unit_grammar.specs.Units.{ModuleBegin}
use Rattle.unit_steps.proofs.due.begin_module.Goals as goal

pub returns-clause-moves : goal.returns-clause-moves
returns-clause-moves c =
    IfOk-weaker c.after_unit.result _ _
    (λ moved h nodes d us i. h nodes (suc d) us (ModuleBegin c.args.dashes c.args.name c.args.extends) (c.in-Ok.ensures.opens nodes d us i) (record { there = (tt, tt); are = refl }))
    c.after_unit.ensures.moves
