use Rattle.std.proofs.Common.{ap}
use Rattle.name_context.specs.AsTables.{meant_by}
use Rattle.module_leads.proofs.Pairing.{symbols-told}
use Rattle.module_leads.proofs.same.is_same_name.Goals as goal

pub returns-in-Symbol-Symbol : goal.returns-in-Symbol-Symbol
returns-in-Symbol-Symbol c =
    symbols-told c.eq-in-Symbol-Symbol.result c.in-Symbol-Symbol.one c.in-Symbol-Symbol.other (meant_by c.args.one) (meant_by c.args.other)
    (ap meant_by c.in-Symbol-Symbol.is-0) (ap meant_by c.in-Symbol-Symbol.is-1) c.eq-in-Symbol-Symbol.ensures
